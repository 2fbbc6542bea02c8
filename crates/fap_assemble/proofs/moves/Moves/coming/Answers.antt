use Rattle.std.proofs.Common.{refl, ap, ◌∙◌, Option}
use Rattle.fap_model.specs.declared.types.Operation.{Operation}
use Rattle.link_model.specs.Moves.{moved_size, worth}
use Rattle.fap_assemble.specs.Moving.{moves_in}
use Rattle.fap_assemble.proofs.Moving.{all_of, size_at, worth_at}
use Rattle.fap_assemble.proofs.moves.Moves.coming.Goals as goal

pub returns-clause-size : goal.returns-clause-size
returns-clause-size c =
    c.in_ok-size.ensures.value
    ∙ size_at c.args.externs.now (moves_in c.args.self.now) c.args.self.now.symbols c.args.self.now.weights c.len-visible.result c.len-weighed.result c.args.self.now.place
    c.module_operation-op.result c.args.text.now (all_of c.len-visible.result c.args.self.now.symbols c.len-visible.ensures)
    (all_of c.len-weighed.result c.args.self.now.weights c.len-weighed.ensures) refl
    ∙ ap (λ (o : Option Operation). moved_size c.args.externs.now (moves_in c.args.self.now) o c.args.text.now) c.module_operation-op.ensures

pub returns-clause-worth : goal.returns-clause-worth
returns-clause-worth c =
    c.in_ok-worth.ensures
    ∙ worth_at c.args.externs.now (moves_in c.args.self.now) c.args.self.now.symbols c.args.self.now.weights c.len-visible.result c.len-weighed.result c.args.self.now.place
    c.module_operation-op.result c.args.text.now (all_of c.len-visible.result c.args.self.now.symbols c.len-visible.ensures)
    (all_of c.len-weighed.result c.args.self.now.weights c.len-weighed.ensures) refl
    ∙ ap (λ (o : Option Operation). worth c.args.externs.now (moves_in c.args.self.now) o c.args.text.now) c.module_operation-op.ensures
