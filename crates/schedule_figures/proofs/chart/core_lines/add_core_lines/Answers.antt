use Rattle.std.proofs.Common.{◌+◌, ◌++◌, [], drop, map, refl}
use Rattle.picture_model.specs.Cores.{owner_in}
use Rattle.picture_model.specs.CorePanel.{first_owners}
use Rattle.picture_model.specs.CoreLines.{core_line, core_lines}
use Rattle.text_writer.proofs.Added.{◌⨾◌, adds_is, adds_none}
use Rattle.schedule_figures.proofs.Loads.{lines_next, lines_none}
use Rattle.schedule_figures.proofs.Texts.{one_more, none_left}
use Rattle.schedule_figures.proofs.chart.core_lines.add_core_lines.Goals as goal

pub loop-entry-init : goal.loop-entry-init
loop-entry-init g c = ([], adds_none g.K.Sink c.args.out.now, refl)

pub loop-entry-preserved : goal.loop-entry-preserved
loop-entry-preserved g c =
    let l = c.loop-entry in
    let es = c.args.entries.now in
    let e = c.entry-item.result in
    let owners = map owner_in (drop l.next c.args.maps.now) in
    let behind = map owner_in (drop c.after-next.result c.args.maps.now) in (
      l.invariant.0 ++ core_line (first_owners owners) e,
      l.invariant.1 ⨾ c.add_core_line.ensures,
      one_more l.invariant.0 (core_line (first_owners owners) e) (core_lines behind (drop (l.entry-index + 1) es))
          (core_lines owners (drop l.entry-index es)) (core_lines (map owner_in c.args.maps.now) es)
          (lines_next owners behind es l.entry-index e c.loop-entry-test.true c.entry-item.is c.after-next.ensures)
          l.invariant.2,
    )

pub returns : goal.returns
returns g c =
    let l = c.loop-entry in
    let owners = map owner_in (drop l.next c.args.maps.now) in
    adds_is
    (none_left l.invariant.0 (core_lines owners (drop l.entry-index c.args.entries.now)) (core_lines (map owner_in c.args.maps.now) c.args.entries.now)
    (lines_none owners c.args.entries.now l.entry-index c.loop-entry-test.false) l.invariant.2)
    l.invariant.1
