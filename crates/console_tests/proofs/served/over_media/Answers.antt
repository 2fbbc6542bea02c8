use Rattle.console_tests.proofs.Beginnings.{of_ok, not_disk}
use Rattle.console_tests.proofs.served.over_media.Goals as goal

pub two_turns-requires-clause-sound : goal.two_turns-requires-clause-sound
two_turns-requires-clause-sound g c =
    let wrote = c.begin-run.result.wrote in
    (c.begin-run.ensures.usable (not_disk wrote c.in-Ok.field-0 c.in-Ok.is), (of_ok wrote c.in-Ok.field-0 _ c.in-Ok.is c.begin-run.ensures.begun.begins).ready)
