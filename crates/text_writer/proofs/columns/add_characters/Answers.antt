use Rattle.std.proofs.Common.{ap, ◌∙◌}
use Rattle.bcd48.specs.Words.{characters_of}
use Rattle.text_writer.proofs.Added.{adds_is}
use Rattle.text_writer.proofs.columns.add_characters.Goals as goal

pub returns : goal.returns
returns g c = adds_is (c.text6.ensures ∙ ap characters_of c.bits.ensures.bits) c.add.ensures
