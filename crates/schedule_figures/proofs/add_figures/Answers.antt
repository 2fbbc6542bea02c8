use Rattle.std.proofs.Common.{List, ap, ◌∙◌}
use Rattle.std.specs.List.{flat_map}
use Rattle.ctss_types.specs.declared.script.Account.{Account}
use Rattle.ctss_types.specs.declared.history.Entry.{Entry}
use Rattle.picture_model.specs.FigureLines.{user_lines, all_levels}
use Rattle.schedule_figures.specs.Levels.{service_line, tick_line}
use Rattle.text_writer.proofs.Added.{◌⨾◌, adds_is}
use Rattle.schedule_figures.proofs.add_figures.Goals as goal

pub returns : goal.returns
returns g c =
    c.add_between.ensures
    ⨾ adds_is
    (ap (λ (l : List Account). user_lines c.args.front.now c.args.behind.now 1 l c.as_slice-2.result.now) c.as_slice.ensures
    ∙ ap (λ (l : List Entry). user_lines c.args.front.now c.args.behind.now 1 c.args.script.now.accounts l) c.as_slice-2.ensures)
    c.add_user_lines.ensures
    ⨾ c.add_between-2.ensures
    ⨾ adds_is (ap (λ (l : List Entry). flat_map (service_line c.args.front.now c.args.behind.now l) all_levels) c.as_slice-3.ensures) c.add_service_lines.ensures
    ⨾ adds_is (ap (λ (l : List Entry). flat_map (tick_line c.args.front.now c.args.behind.now l) all_levels) c.as_slice-4.ensures) c.add_tick_lines.ensures
    ⨾ c.add.ensures ⨾ c.add_time_line.ensures ⨾ c.add-2.ensures
