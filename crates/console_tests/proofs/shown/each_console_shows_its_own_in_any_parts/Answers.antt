use Rattle.console_tests.proofs.Beginnings.{of_ok, not_disk}
use Rattle.console_tests.proofs.shown.each_console_shows_its_own_in_any_parts.Goals as goal

pub begin-run-requires-clause-lawful : goal.begin-run-requires-clause-lawful
begin-run-requires-clause-lawful g c = c.in_ok-script.ensures

pub shows_all-requires-clause-sound : goal.shows_all-requires-clause-sound
shows_all-requires-clause-sound g c =
    let wrote = c.begin-run.result.wrote in
    (c.begin-run.ensures.usable (not_disk wrote c.in-Ok.field-0 c.in-Ok.is), (of_ok wrote c.in-Ok.field-0 _ c.in-Ok.is c.begin-run.ensures.begun.begins).ready)
