use Rattle.std.proofs.Common.{arith}
use Rattle.std.proofs.lemmas.Bool.Decides.{nat_tests}
use Rattle.fap_assemble.specs.Steps.{texts}
use Rattle.fap_assemble.specs.Follows.{numbered}
use Rattle.fap_assemble.proofs.Reading.{numbered_length}
use Rattle.fap_assemble.proofs.ModuleEnds.{no_faults, faulty_said}
use Rattle.fap_assemble.proofs.module_assembler.refuse_faults.Goals as goal

pub returns-then-is_empty-clause-sound : goal.returns-then-is_empty-clause-sound
returns-then-is_empty-clause-sound c =
    no_faults (numbered c.in_ok-faults.faults) (texts c.args.cards.now) c.in_ok-faults.ensures (grind (arith, nat_tests, numbered_length c.in_ok-faults.faults))

pub returns-else-is_empty-clause-faulty : goal.returns-else-is_empty-clause-faulty
returns-else-is_empty-clause-faulty c =
    faulty_said (texts c.args.cards.now) (numbered c.in_ok-faults.faults) c.in_ok-faults.ensures (grind (arith, nat_tests, numbered_length c.in_ok-faults.faults))
