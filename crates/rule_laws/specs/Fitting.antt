-- claim: a module that cards make is one that the words of its file can say.
use Rattle.std.specs.Prelude.{◌≡◌, ℕ, true, List}
use Rattle.link_model.specs.declared.types.Module.{Module}
use Rattle.link_model.specs.Modules.{is_module}
use Rattle.link_model.specs.ModuleCards.{module_made, relocatable}

abbrev pub ModulesFit : Type 0
ModulesFit = (cards : List (List ℕ)) (m : Module) → module_made cards ≡ relocatable m → is_module m ≡ true
