-- Scripts that can be read are usual.
use Rattle.std.proofs.Common.{arith}
use Rattle.text_model.proofs.LawfulLaws.{scripts_are_lawful}
use Rattle.text_model.proofs.ParamLaws.{param_within}
use Rattle.fair_laws.specs.Laws.{ReadScriptsAreUsual}

pub read_scripts_are_usual : ReadScriptsAreUsual
read_scripts_are_usual bytes script read =
    let lawful = scripts_are_lawful bytes script read in
    let quantum = (param_within script.params 1 lawful.params (omega arith)).0 in
    record { quantum = omega (arith, quantum); blocks = lawful.range.blocks }
