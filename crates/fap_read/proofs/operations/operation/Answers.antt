use Rattle.std.proofs.Common.{ap, ℕ, List, ◌∙◌}
use Rattle.fap_model.specs.Statements.{operation_named}
use Rattle.fap_read.proofs.operations.operation.Goals as goal

pub returns : goal.returns
returns c = c.operation_named.ensures ∙ ap (λ (l : List ℕ). operation_named l) c.operation_text.ensures.value
