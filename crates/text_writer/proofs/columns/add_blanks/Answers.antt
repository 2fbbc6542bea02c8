use Rattle.std.proofs.Common.{◌∙◌}
use Rattle.std.proofs.lemmas.List.{take-replicate}
use Rattle.text_writer.proofs.Added.{adds_is}
use Rattle.text_writer.proofs.columns.add_blanks.Goals as goal

pub returns : goal.returns
returns g c = adds_is (c.split_at.ensures.front ∙ take-replicate c.args.count 10 32 c.requires) c.add.ensures
