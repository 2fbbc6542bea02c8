use Rattle.console_tests.proofs.served.is_served.Goals as goal

pub over_media-requires-clause-lawful : goal.over_media-requires-clause-lawful
over_media-requires-clause-lawful g c = c.in_ok-script.ensures
