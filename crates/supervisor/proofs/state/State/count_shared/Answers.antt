use Rattle.std.proofs.Common.{List, [], ◌∷◌, ◌++◌, false, ap, ◌∙◌}
use Rattle.time_sharing.specs.System.{Entry}
use Rattle.system_model.specs.Joined.{counted}
use Rattle.supervisor.specs.Seen.{run_seen}
use Rattle.supervisor.proofs.Serving.{with_users}
use Rattle.supervisor.proofs.Sharing.{counted_shared}
use Rattle.supervisor.proofs.state.State.count_shared.Goals as goal

pub returns : goal.returns
returns c = λ places.
    c.count_step.ensures places
    ∙ (λ j. counted c.args.v c.args.step.ending false []
    (with_users (run_seen places c.args.self.now) c.args.self.now.sessions.items
    ((c.note.ensures.items ∙ ap (λ (es : List Entry). es ++ c.args.common ∷ []) c.note_clock.ensures.items) j)))
    ∙ counted_shared c.args.v c.args.step.ending c.args.step.clock c.args.common (run_seen places c.args.self.now)
