use Rattle.std.proofs.Common.{arith}
use Rattle.std.proofs.lemmas.Bool.Decides.{nat_tests}
use Rattle.fap_assemble.specs.Steps.{texts}
use Rattle.fap_assemble.specs.Follows.{numbered}
use Rattle.fap_assemble.proofs.Reading.{numbered_length, faulty_said, deck_said}
use Rattle.fap_assemble.proofs.assembler.deck_of.Goals as goal

pub returns-then-not-is_empty : goal.returns-then-not-is_empty
returns-then-not-is_empty c =
    faulty_said (texts c.args.cards.now) (numbered c.in_ok-faults.faults) c.in_ok-faults.ensures (grind (arith, nat_tests, numbered_length c.in_ok-faults.faults))

pub returns : goal.returns
returns c =
    deck_said (texts c.args.cards.now) (numbered c.in_ok-faults.faults) c.in_ok-words.words c.in_ok-faults.ensures (grind (arith, nat_tests, numbered_length c.in_ok-faults.faults))
    c.in_ok-words.ensures
