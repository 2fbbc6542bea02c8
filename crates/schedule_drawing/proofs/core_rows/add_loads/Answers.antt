use Rattle.std.proofs.Common.{◌+◌, ◌++◌, [], drop, map, refl, arith}
use Rattle.picture_model.specs.Cores.{owner_in}
use Rattle.picture_model.specs.Folds.{cut_of}
use Rattle.picture_model.specs.CorePanel.{core_drawn, next_load, first_owners}
use Rattle.text_writer.proofs.Added.{◌⨾◌, adds_is, adds_none}
use Rattle.schedule_drawing.proofs.Panel.{loads_more, loads_done}
use Rattle.schedule_drawing.proofs.core_rows.add_loads.Goals as goal

pub loads-init : goal.loads-init
loads-init g c = ([], adds_none g.K.Sink c.args.out.now, refl, omega arith)

pub loads-preserved : goal.loads-preserved
loads-preserved g c =
    let s = c.args.sheet in
    let l = c.loads in
    let e = c.in-Some.entry.now in
    let later = c.in-Some.later.now in
    let first = rw c.in-Some.is at c.split_first.ensures.cases in (
      l.invariant.0
          ++ core_drawn s.scale s.zoom s.users l.cut (next_load c.args.last (l.cut + cut_of e) later) (first_owners (map owner_in (drop l.next c.args.maps.now))) e,
      l.invariant.1 ⨾ c.add_core.ensures,
      loads_more s.scale s.zoom s.users c.args.last l.cut _ (map owner_in (drop l.next c.args.maps.now)) _ l.entries.now later e l.invariant.0 _ first.0
          (omega (arith, c.from-cut.ensures, c.cut_of.ensures)) c.after-next.ensures l.invariant.2,
      omega (arith, first.1, l.invariant.3),
    )

pub returns : goal.returns
returns g c =
    let s = c.args.sheet in
    let l = c.loads in
    adds_is
    (loads_done s.scale s.zoom s.users c.args.last l.cut (map owner_in (drop l.next c.args.maps.now)) l.entries.now l.invariant.0 _
    (rw c.in_default.is at c.split_first.ensures.cases) l.invariant.2)
    l.invariant.1
