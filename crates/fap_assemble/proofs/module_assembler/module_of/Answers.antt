use Rattle.std.proofs.Common.{[], refl, sym}
use Rattle.fap_assemble.specs.Steps.{texts}
use Rattle.fap_assemble.proofs.ModuleEnds.{module_said}
use Rattle.fap_assemble.proofs.module_assembler.module_of.Goals as goal

pub sound_module-requires-clause-sound : goal.sound_module-requires-clause-sound
sound_module-requires-clause-sound c = c.in-Ok.ensures.sound

pub returns-in_ok-made-in-Ok : goal.returns-in_ok-made-in-Ok
returns-in_ok-made-in-Ok c = module_said (texts c.args.cards.now) [] c.in_ok-made-in-Ok.made (sym c.in-Ok.ensures.sound) refl c.in_ok-made-in-Ok.ensures
