use Rattle.std.proofs.lemmas.List.{get_or-replicate}
use Rattle.core_tests.proofs.slots.filled.Goals as goal

pub returns : goal.returns
returns c = λ k d inside. rw (get_or-replicate 256 k c.args.word d inside) (c.requires)
