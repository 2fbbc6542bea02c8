use Rattle.fap_assemble.specs.Steps.{texts}
use Rattle.fap_assemble.specs.Wholes.{whole_in}
use Rattle.fap_assemble.specs.Follows.{numbered}
use Rattle.fap_assemble.proofs.Reading.{all_faults}
use Rattle.fap_assemble.proofs.assembler.faults_of.Goals as goal

pub returns : goal.returns
returns c =
    all_faults c.args.cards.now (whole_in c.args.whole.now) (texts c.args.read.now) (numbered c.in_ok-faults.faults) (numbered c.note_missing_end.new.faults) c.requires.whole c.requires.read
    c.in_ok-faults.ensures c.in_ok-note_missing_end.ensures
