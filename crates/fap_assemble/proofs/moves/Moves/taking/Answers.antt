use Rattle.std.proofs.Common.{ap, ◌∙◌, ℕ, Option}
use Rattle.fap_model.specs.Cards.{symbol_of}
use Rattle.link_model.specs.Moves.{module_operation}
use Rattle.fap_assemble.specs.Passes.{symbol_entered}
use Rattle.fap_assemble.specs.Moving.{moves_in}
use Rattle.fap_assemble.proofs.Moving.{taken_parts}
use Rattle.fap_assemble.proofs.moves.Moves.taking.Goals as goal

pub returns-clause-moved : goal.returns-clause-moved
returns-clause-moved c =
    taken_parts (moves_in c.args.self.now) c.enter_worth.new.symbols c.enter_worth.new.weights c.enter_equ.new.equs (module_operation c.args.text.now) (symbol_of c.args.text.now) c.args.card.size
    c.args.card.worth.value c.args.card.worth.weight
    (c.in_ok-enter_worth.ensures.symbols ∙ ap (λ (name : Option ℕ). symbol_entered c.args.self.now.symbols name c.args.card.worth.value) c.symbol.ensures)
    (c.in_ok-enter_worth.ensures.weights ∙ ap (λ (name : Option ℕ). symbol_entered c.args.self.now.weights name c.args.card.worth.weight) c.symbol.ensures)
    c.in_ok-enter_equ.ensures.value
