use Rattle.std.proofs.Common.{map}
use Rattle.image_map.specs.Image.{state}
use Rattle.track_directories.specs.Tables.{shown, Sound}
use Rattle.user_cores.specs.Backing.{back_of}
use Rattle.user_cores.specs.Usable.{IsWhole}
use Rattle.system_model.specs.Run.{measure}
use Rattle.supervisor.specs.Whole.{whole_of}
use Rattle.live_run.specs.Calls.{run_over}
use Rattle.picture_model.specs.Cores.{owner_in}
use Rattle.run_picture.proofs.Runs.{IsOnTheWay}
use Rattle.run_picture.proofs.core_maps.watch.watch.Given as goal

-- the maps so far were made on the way
abbrev pub invariant-steps : goal.invariant-steps
invariant-steps g l = record {
  usable : IsWhole (state l.behind.cores) × Sound g.F.Medium l.behind.files;
  way : IsOnTheWay l.script (map owner_in l.maps) (whole_of l.supervisor (back_of (state l.behind.cores) (shown g.F.Medium l.behind.files)));
}

abbrev pub decreases-steps : goal.decreases-steps
decreases-steps g l =
    measure l.script.end (run_over (whole_of l.supervisor (back_of (state l.behind.cores) (shown g.F.Medium l.behind.files))))
