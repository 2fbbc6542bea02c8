use Rattle.std.proofs.Common.{◌∙◌, ℕ, List, subst}
use Rattle.fap_assemble.specs.Steps.{texts}
use Rattle.fap_assemble.specs.Passes.{HasAll}
use Rattle.fap_assemble.proofs.Reading.{whole_is}
use Rattle.fap_assemble.proofs.assembler.whole_of.Goals as goal

pub returns-clause-value : goal.returns-clause-value
returns-clause-value c =
    c.new.ensures.value
    ∙ whole_is c.in_ok-tables.tables (texts c.args.cards.now)
    (subst (λ (cards : List (List ℕ)). HasAll c.in_ok-tables.tables cards) c.requires.read c.in_ok-tables.ensures.value)
