use Rattle.std.proofs.Common.{◌∙◌, ap, rules}
use Rattle.medium.specs.MediumState.{MediumState}
use Rattle.medium.proofs.Records.{unchanged}
use Rattle.medium.proofs.memory.MemoryMediumMedium.read.Goals as goal

pub returns-then-fails_next-clause-reads : goal.returns-then-fails_next-clause-reads
returns-then-fails_next-clause-reads c =
    let damages = λ (s : MediumState). s.damages in
    let contents = λ (s : MediumState). s.contents in
    let left =
    unchanged c.args.self.now c.fail.new.self c.args.at
    (ap damages c.fail.ensures.state ∙ ap damages c.fails_next.ensures.state ∙ ap damages c.self.view_is)
    (ap contents c.fail.ensures.state ∙ ap contents c.fails_next.ensures.state ∙ ap contents c.self.view_is) in
    record {
      words = search rules;
      honest = tt;
      contents = tt;
      called = record { calls = search rules; count = search rules; each = search rules; faults_grow = search rules; err = left; cause = search rules };
    }
