use Rattle.std.proofs.Common.{ap, ◌∙◌}
use Rattle.std.specs.List.{flat_map}
use Rattle.ctss_types.specs.Params.{least_numbers, written_out}
use Rattle.text_model.specs.Parts.{number}
use Rattle.text_writer.proofs.Added.{◌⨾◌, adds_is}
use Rattle.script_read.proofs.text.add_params.Goals as goal

pub returns : goal.returns
returns g c =
    (c.add.ensures
    ⨾ adds_is (ap (flat_map number) (c.written_out.ensures ∙ ap (written_out least_numbers) c.numbers.ensures)) c.add_numbers.ensures)
    ⨾ c.end_line.ensures
