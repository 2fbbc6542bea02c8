use Rattle.fap_assemble.specs.Steps.{texts}
use Rattle.fap_assemble.specs.Follows.{numbered}
use Rattle.fap_assemble.specs.Judging.{relocated_in}
use Rattle.fap_assemble.proofs.ModuleEnds.{told_is, all_faults}
use Rattle.fap_assemble.proofs.module_assembler.faults_of.Goals as goal

pub module_faults-requires-clause-symbols : goal.module_faults-requires-clause-symbols
module_faults-requires-clause-symbols c = c.requires.tells.symbols

pub module_faults-requires-clause-weights : goal.module_faults-requires-clause-weights
module_faults-requires-clause-weights c = c.requires.tells.weights

pub returns : goal.returns
returns c =
    all_faults c.args.cards.now (relocated_in c.args.r.now) (texts c.args.read.now) (numbered c.in_ok-faults.faults) (numbered c.note_missing_end.new.faults)
    (told_is (relocated_in c.args.r.now) (texts c.args.cards.now) (texts c.args.read.now) c.requires.tells.told c.requires.read) c.requires.read
    c.in_ok-faults.ensures c.in_ok-note_missing_end.ensures
