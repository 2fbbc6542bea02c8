use Rattle.fap_assemble.specs.Steps.{texts}
use Rattle.fap_assemble.proofs.ModuleFollows.{tells}
use Rattle.fap_assemble.proofs.relocated.relocated_of.Goals as goal

pub returns-clause-value : goal.returns-clause-value
returns-clause-value c =
    tells c.in_ok-moves.moves c.in_ok-externs.externs (texts c.args.read.now) c.relocated_by.result c.relocated_by.ensures.value c.relocated_by.ensures.symbols c.relocated_by.ensures.weights
    c.relocated_by.ensures.externs c.in_ok-externs.ensures c.in_ok-moves.ensures.moved c.in_ok-moves.ensures.literals
