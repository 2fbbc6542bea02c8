use Rattle.std.proofs.Common.{ap, ◌∙◌, ℕ, List, length, take}
use Rattle.fap_model.specs.Cards.{symbol_of}
use Rattle.link_model.specs.Moves.{module_operation, equs_with}
use Rattle.fap_assemble.specs.Moving.{known_moves}
use Rattle.fap_assemble.proofs.moves.enter_equ.Goals as goal

pub returns-clause-value : goal.returns-clause-value
returns-clause-value c =
    c.in_ok-with.ensures.value
    ∙ ap (λ (e : List ℕ). equs_with (known_moves (take (length c.args.symbols.now) c.args.symbols.now) e) (module_operation c.args.text.now) (symbol_of c.args.text.now))
    c.replace-before.ensures.value
