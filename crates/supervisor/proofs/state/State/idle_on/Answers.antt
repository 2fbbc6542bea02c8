use Rattle.std.proofs.Common.{refl}
use Rattle.system_model.specs.Run.{Run}
use Rattle.user_cores.specs.Backing.{Held}
use Rattle.supervisor.specs.Seen.{run_seen}
use Rattle.system_model.specs.Cases.{idled}
use Rattle.system_model.proofs.JoinedLaws.{idled_joined}
use Rattle.system_model.proofs.SwapLaws.{idled_moves}
use Rattle.supervisor.proofs.Doing.{does_apart}
use Rattle.supervisor.proofs.Going.{leaves_apart}
use Rattle.supervisor.proofs.Serving.{idled_users}
use Rattle.supervisor.proofs.state.State.idle_on.Goals as goal

pub returns-clause-does : goal.returns-clause-does
returns-clause-does g c =
    let had : Held = (g.C.Backing.state c.args.cores.now).held in
    let old : Run = run_seen had.places c.args.self.now in
    does_apart (idled c.args.limit) old (run_seen had.places c.idle.new.self) had had (c.idle.ensures had.places) (λ w. idled_joined w c.args.limit old) (λ t u. refl) refl refl

pub returns-clause-leaves : goal.returns-clause-leaves
returns-clause-leaves g c =
    let had : Held = (g.C.Backing.state c.args.cores.now).held in
    let old : Run = run_seen had.places c.args.self.now in
    leaves_apart g.C.Backing c.args.self.now c.idle.new.self c.args.cores.now (idled c.args.limit old) c.requires.going (g.met.C.Backing.stays c.args.cores.now)
    (c.idle.ensures had.places) (idled_users c.args.limit old) (idled_moves c.args.limit old)
