use Rattle.std.proofs.Common.{◌<◌, ℕ, List, length, map, sym, ap, subst, arith}
use Rattle.image_map.specs.Image.{state}
use Rattle.track_directories.specs.Tables.{shown, Sound}
use Rattle.user_cores.specs.Backing.{back_of}
use Rattle.user_cores.specs.Usable.{IsWhole}
use Rattle.ctss_types.specs.declared.history.Entry.{Entry}
use Rattle.system_model.specs.Run.{measure}
use Rattle.supervisor.specs.Whole.{Whole, whole_of}
use Rattle.live_run.specs.Calls.{run_over}
use Rattle.picture_model.specs.Cores.{owner_in}
use Rattle.run_picture.proofs.Runs.{IsOnTheWay, begins, falls, goes_on, ends}
use Rattle.run_picture.proofs.core_maps.watch.watch.Goals as goal

pub steps-init : goal.steps-init
steps-init g c =
    let script = c.args.script.now in
    let start : Whole = whole_of c.args.supervisor.now (back_of (state c.args.behind.cores) (shown g.F.Medium c.args.behind.files)) in
    record {
      usable = c.requires.usable;
      way = subst (λ (maps : List (List ℕ)). IsOnTheWay script (map owner_in maps) start) (sym c.new-maps.ensures)
          (begins script start c.requires.start c.requires.agrees c.requires.tells);
    }

pub go_once-requires-clause-usable : goal.go_once-requires-clause-usable
go_once-requires-clause-usable g c = c.steps.invariant.usable

pub go_once-requires-clause-agrees : goal.go_once-requires-clause-agrees
go_once-requires-clause-agrees g c = c.steps.invariant.way.agrees

pub go_once-requires-clause-tells : goal.go_once-requires-clause-tells
go_once-requires-clause-tells g c = c.steps.invariant.way.tells

pub steps-smaller : goal.steps-smaller
steps-smaller g c =
    let end = c.args.script.now.end in
    let old : Whole = whole_of c.steps.supervisor (back_of (state c.steps.behind.cores) (shown g.F.Medium c.steps.behind.files)) in
    let there = c.go_once.new.behind in
    let new : Whole = whole_of c.go_once.new.supervisor (back_of (state there.cores) (shown g.F.Medium there.files)) in
    subst
    (λ b. measure end (run_over (whole_of c.go_once.new.supervisor (back_of (state b.cores) (shown g.F.Medium b.files)))) < measure end (run_over old))
    (sym c.in_ok-behind.ensures.same)
    (falls end old new (omega (arith, c.clock.ensures, c.steps-test.true)) c.in-Ok.ensures.steps)

pub steps-preserved : goal.steps-preserved
steps-preserved g c =
    let script = c.args.script.now in
    let old : Whole = whole_of c.steps.supervisor (back_of (state c.steps.behind.cores) (shown g.F.Medium c.steps.behind.files)) in
    let there = c.go_once.new.behind in
    let new : Whole = whole_of c.go_once.new.supervisor (back_of (state there.cores) (shown g.F.Medium there.files)) in
    let same = sym c.in_ok-behind.ensures.same in
    record {
      usable = subst (λ b. IsWhole (state b.cores) × Sound g.F.Medium b.files) same c.in-Ok.ensures.usable;
      way =
          subst
          (λ b.
          IsOnTheWay script (map owner_in c.note_step.new.maps)
          (whole_of c.go_once.new.supervisor (back_of (state b.cores) (shown g.F.Medium b.files))))
          same
          (goes_on script (map owner_in c.steps.maps) (map owner_in c.note_step.new.maps) (length c.entries-before.result.now) old new
          (omega (arith, c.clock.ensures, c.steps-test.true)) c.steps.invariant.way c.in-Ok.ensures.steps
          (ap (λ (es : List Entry). length es) c.entries-before.ensures) c.in_ok-behind.ensures.maps);
    }

pub returns : goal.returns
returns g c =
    ends c.args.script.now (map owner_in c.steps.maps) _ (omega (arith, c.clock.ensures, c.steps-test.false)) c.steps.invariant.way
