use Rattle.std.proofs.Common.{refl}
use Rattle.system_model.specs.Run.{Run, raised}
use Rattle.user_cores.specs.Backing.{Held}
use Rattle.supervisor.specs.Seen.{run_seen}
use Rattle.image_map.proofs.Calls.{on_err}
use Rattle.system_model.proofs.JoinedLaws.{raised_joined}
use Rattle.system_model.proofs.SwapLaws.{raised_moves}
use Rattle.supervisor.proofs.Doing.{does_apart}
use Rattle.supervisor.proofs.Going.{leaves_same, leaves_apart}
use Rattle.supervisor.proofs.Serving.{raised_users}
use Rattle.supervisor.proofs.Sharing.{stays_same}
use Rattle.supervisor.proofs.state.State.lift.Goals as goal

pub returns-in_err-raise-clause-err : goal.returns-in_err-raise-clause-err
returns-in_err-raise-clause-err g c =
    on_err c.from_residual.result _ (stays_same _ _ _ _ (c.in_err-raise.ensures.err (g.C.Backing.state c.args.cores.now).held.places) (λ t u h. refl) refl refl)

pub returns-in_err-raise-clause-leaves : goal.returns-in_err-raise-clause-leaves
returns-in_err-raise-clause-leaves g c =
    leaves_same g.C.Backing c.args.self.now c.raise.new.self c.args.cores.now c.requires.going (g.met.C.Backing.stays c.args.cores.now)
    (c.in_err-raise.ensures.err (g.C.Backing.state c.args.cores.now).held.places)

pub returns-clause-ok : goal.returns-clause-ok
returns-clause-ok g c =
    let had : Held = (g.C.Backing.state c.args.cores.now).held in
    let old : Run = run_seen had.places c.args.self.now in
    does_apart raised old (run_seen had.places c.raise.new.self) had had (c.in_ok-raise.ensures.ok had.places) (λ w. raised_joined w old) (λ t u. refl) refl refl

pub returns-clause-leaves : goal.returns-clause-leaves
returns-clause-leaves g c =
    let had : Held = (g.C.Backing.state c.args.cores.now).held in
    let old : Run = run_seen had.places c.args.self.now in
    leaves_apart g.C.Backing c.args.self.now c.raise.new.self c.args.cores.now (raised old) c.requires.going (g.met.C.Backing.stays c.args.cores.now)
    (c.in_ok-raise.ensures.ok had.places) (raised_users old) (raised_moves old)
