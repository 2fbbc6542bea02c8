use Rattle.std.proofs.Common.{arith, ◌∙◌}
use Rattle.fap_assemble.specs.Steps.{texts}
use Rattle.fap_assemble.specs.Judging.{relocated_in}
use Rattle.fap_assemble.proofs.ModuleEnds.{told_is, sound_end, sound_cards, few_externs, module_is}
use Rattle.fap_assemble.proofs.module_assembler.sound_module.Goals as goal

pub start-requires-clause-within : goal.start-requires-clause-within
start-requires-clause-within c = omega (arith, c.requires.end, sound_end c.args.cards.now c.requires.sound)

pub start-requires-clause-told : goal.start-requires-clause-told
start-requires-clause-told c = told_is (relocated_in c.args.r) (texts c.args.cards.now) (texts c.args.read.now) c.requires.tells.told c.requires.read

pub cells_of-requires-clause-externs : goal.cells_of-requires-clause-externs
cells_of-requires-clause-externs c =
    few_externs (texts c.args.cards.now) (texts c.args.read.now) (relocated_in c.args.r)
    (told_is (relocated_in c.args.r) (texts c.args.cards.now) (texts c.args.read.now) c.requires.tells.told c.requires.read) c.requires.read c.requires.sound

pub cells_of-requires-clause-symbols : goal.cells_of-requires-clause-symbols
cells_of-requires-clause-symbols c = c.requires.tells.symbols

pub cells_of-requires-clause-weights : goal.cells_of-requires-clause-weights
cells_of-requires-clause-weights c = c.requires.tells.weights

pub cells_of-requires-clause-sound : goal.cells_of-requires-clause-sound
cells_of-requires-clause-sound c =
    sound_cards (texts c.args.cards.now) (texts c.args.read.now) (relocated_in c.args.r)
    (told_is (relocated_in c.args.r) (texts c.args.cards.now) (texts c.args.read.now) c.requires.tells.told c.requires.read) c.requires.read c.requires.sound

pub returns : goal.returns
returns c =
    module_is (relocated_in c.args.r) (texts c.args.cards.now) (texts c.args.read.now) c.in-Ok.start c.in-Ok-entries_of.entries c.into_names.result c.in-Ok-cells_of.places
    (told_is (relocated_in c.args.r) (texts c.args.cards.now) (texts c.args.read.now) c.requires.tells.told c.requires.read) c.requires.read
    c.in-Ok.ensures c.in-Ok-entries_of.ensures (c.into_names.ensures ∙ c.into_externs-externs.ensures) c.in-Ok-cells_of.ensures
