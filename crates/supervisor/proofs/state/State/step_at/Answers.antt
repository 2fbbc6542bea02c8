use Rattle.std.proofs.Common.{sym, ◌∙◌}
use Rattle.user_cores.specs.Backing.{Held}
use Rattle.supervisor.specs.Seen.{run_seen}
use Rattle.supervisor.proofs.Doing.{does_event}
use Rattle.supervisor.proofs.state.State.step_at.Goals as goal

pub returns-clause-ended : goal.returns-clause-ended
returns-clause-ended g c =
    let had : Held = (g.C.Backing.state c.args.cores.now).held in
    let has : Held = (g.C.Backing.state c.hear.new.cores).held in
    does_event c.args.limit c.in-Some.e (run_seen had.places c.args.self.now) (run_seen has.places c.hear.new.self) had has (sym c.due.ensures ∙ c.in-Some.is) c.in_ok-hear-in-Some.ensures.ok
