use Rattle.std.proofs.Common.{sym}
use Rattle.system_model.proofs.CaseLaws.{on_name}
use Rattle.supervisor.specs.Seen.{run_seen}
use Rattle.supervisor.proofs.state.State.at_name.Goals as goal

pub returns-in-Some-clause-ok : goal.returns-in-Some-clause-ok
returns-in-Some-clause-ok c = λ places.
    rw (on_name c.args.console c.args.line c.in-Some.name (run_seen places c.args.self.now) c.take_heard.ensures.seat (sym c.in-Some.ensures)) (c.take_heard.ensures.ok places)
