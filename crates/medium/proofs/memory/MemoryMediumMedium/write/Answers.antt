use Rattle.std.proofs.Common.{◌∙◌, ap, rules}
use Rattle.medium.specs.MediumState.{MediumState}
use Rattle.medium.proofs.Records.{unchanged}
use Rattle.medium.proofs.memory.MemoryMediumMedium.write.Goals as goal

pub returns-then-fails_next-clause-writes : goal.returns-then-fails_next-clause-writes
returns-then-fails_next-clause-writes c =
    let damages = λ (s : MediumState). s.damages in
    let contents = λ (s : MediumState). s.contents in
    let left =
    unchanged c.args.self.now c.fail.new.self c.args.at
    (ap damages c.fail.ensures.state ∙ ap damages c.fails_next.ensures.state)
    (ap contents c.fail.ensures.state ∙ ap contents c.fails_next.ensures.state) in
    record {
      contents = tt;
      called = record { calls = search rules; count = search rules; each = search rules; faults_grow = search rules; err = left; cause = search rules };
    }
