use Rattle.std.proofs.Common.{◌≡◌, drop}
use Rattle.link_model.specs.ModuleCards.{is_relocatable}
use Rattle.fap_assemble.specs.Steps.{texts}
use Rattle.fap_assemble.proofs.module_cards.is_module.Given as goal

abbrev pub invariant-loop-card : goal.invariant-loop-card
invariant-loop-card l = is_relocatable (texts (drop l.card-index l.cards)) ≡ is_relocatable (texts l.cards)
