use Rattle.std.proofs.Common.{arith}
use Rattle.fap_assemble.specs.Follows.{numbered}
use Rattle.fap_assemble.proofs.Reading.{kept, noted}
use Rattle.fap_assemble.proofs.assembler.note_missing_end.Goals as goal

pub returns-then-end-cards : goal.returns-then-end-cards
returns-then-end-cards c = kept c.args.cards.now c.args.end (numbered c.args.faults.now) c.requires.end c.if-end-cards.true

pub returns : goal.returns
returns c = noted c.args.cards.now c.args.end _ c.args.faults.now c.push.new.self c.requires.end c.if-end-cards.false (omega arith) c.in_ok-push.ensures.ok
