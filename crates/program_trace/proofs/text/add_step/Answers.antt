use Rattle.std.proofs.Common.{ap}
use Rattle.std.specs.List.{flat_map}
use Rattle.text_writer.proofs.Added.{◌⨾◌, adds_is}
use Rattle.program_trace.specs.Texts.{item_line}
use Rattle.program_trace.proofs.text.add_step.Goals as goal

pub returns : goal.returns
returns g c = c.add_step_line.ensures ⨾ adds_is (ap (flat_map item_line) c.as_slice.ensures) c.add_items.ensures
