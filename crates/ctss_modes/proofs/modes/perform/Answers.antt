use Rattle.std.proofs.Common.{subst}
use Rattle.ctss_modes.specs.Played.{IsPlayed}
use Rattle.ctss_modes.proofs.Ending.{done_performs, drum_performs, disk_performs, memory_performs}
use Rattle.ctss_modes.proofs.modes.perform.Goals as goal

pub returns-in-Ok-Done : goal.returns-in-Ok-Done
returns-in-Ok-Done g c =
    let wrote = c.write_run.ensures in
    done_performs _ c.args.script.now _ _ _ c.write_run.result _ _ (subst (IsPlayed c.args.script.now _ _) c.in-Ok-Done.field-0-is c.in-Ok-Done.ensures.played)
    wrote.status wrote.run wrote.numbers wrote.text wrote.part wrote.cause wrote.memory wrote.silent

pub returns-in-Ok-DrumFailed : goal.returns-in-Ok-DrumFailed
returns-in-Ok-DrumFailed g c =
    drum_performs _ c.args.script.now _ _ _ c.failed.result _ c.failed.ensures (subst (IsPlayed c.args.script.now _ _) c.in-Ok-DrumFailed.field-0-is c.in-Ok-DrumFailed.ensures.played)

pub returns-in-Ok-DiskFailed : goal.returns-in-Ok-DiskFailed
returns-in-Ok-DiskFailed g c =
    disk_performs _ c.args.script.now _ _ _ c.failed-in-Ok-DiskFailed.result _ c.failed-in-Ok-DiskFailed.ensures
    (subst (IsPlayed c.args.script.now _ _) c.in-Ok-DiskFailed.field-0-is c.in-Ok-DiskFailed.ensures.played)

pub returns-in-Err : goal.returns-in-Err
returns-in-Err g c = memory_performs _ c.args.script.now _ _ _ c.bare.result c.bare.ensures c.in-Err.ensures.spent
