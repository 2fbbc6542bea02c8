use Rattle.std.proofs.Common.{ℕ, List, refl, sym, ap, subst, ◌∙◌}
use Rattle.image_map.proofs.Calls.{on_err}
use Rattle.user_model.specs.User.{User}
use Rattle.plan_model.specs.Loads.{Places}
use Rattle.system_model.specs.Run.{Run, taken}
use Rattle.system_model.proofs.SwapLaws.{taken_moves}
use Rattle.system_model.specs.Joined.{hung_up}
use Rattle.user_cores.specs.Backing.{Held}
use Rattle.supervisor.specs.Seen.{run_seen}
use Rattle.supervisor.specs.Steps.{IsTied}
use Rattle.user_cores.specs.Settles.{IsResized}
use Rattle.supervisor.proofs.Counting.{counted_none}
use Rattle.supervisor.proofs.Doing.{does_taken}
use Rattle.supervisor.proofs.Going.{leaves_same}
use Rattle.supervisor.proofs.Sharing.{stays_same}
use Rattle.supervisor.proofs.Tied.{tied_taken}
use Rattle.supervisor.proofs.state.State.hear.Goals as goal

pub returns-in_err-cut-clause-err : goal.returns-in_err-cut-clause-err
returns-in_err-cut-clause-err g c =
    on_err c.from_residual.result _ (stays_same _ _ _ _ (c.in_err-cut.ensures.err (g.C.Backing.state c.args.cores.now).held.places) (λ t u h. refl) refl refl)

pub returns-in_err-cut-clause-leaves : goal.returns-in_err-cut-clause-leaves
returns-in_err-cut-clause-leaves g c =
    leaves_same g.C.Backing c.args.self.now c.take_event.new.self c.args.cores.now c.requires.going (g.met.C.Backing.stays c.args.cores.now)
    (c.in_err-cut.ensures.err (g.C.Backing.state c.args.cores.now).held.places)

pub returns-clause-ok : goal.returns-clause-ok
returns-clause-ok g c =
    let had : Held = (g.C.Backing.state c.args.cores.now).held in
    let has : Held = (g.C.Backing.state c.give_up.new.cores).held in
    let left = c.give_up.ensures.gives.left in
    does_taken c.args.e (run_seen had.places c.args.self.now) (run_seen has.places c.take_event.new.self) had has c.requires.seat c.requires.going.held.sound
    (ap (λ (p : Places). run_seen p c.take_event.new.self) left.places ∙ c.in_ok-cut.ensures.ok had.places)
    (λ t u. left.stores t u ∙ ap (λ (k : ℕ). hung_up k had.stores u) c.in_ok-cut.ensures.cut)
    left.tells left.sizes.rules.common

pub returns-clause-leaves : goal.returns-clause-leaves
returns-clause-leaves g c =
    let had : Held = (g.C.Backing.state c.args.cores.now).held in
    let has : Held = (g.C.Backing.state c.give_up.new.cores).held in
    let old : Run = run_seen had.places c.args.self.now in
    let held = c.requires.going.held in
    let gives = c.give_up.ensures.gives in
    let is = ap (λ (p : Places). run_seen p c.take_event.new.self) gives.left.places ∙ c.in_ok-cut.ensures.ok had.places in
    record {
      counted = counted_none old (taken c.args.e old) (run_seen has.places c.take_event.new.self) _ _ is (taken_moves c.args.e old c.requires.seat held.sound) gives.none.calls;
      tied =
          subst (λ (us : List User). IsTied us has) (ap (λ (r : Run). r.system.users) (sym is))
          (tied_taken c.args.e old had has c.requires.seat held.sound held.tied (subst (λ (k : ℕ). IsResized k 0 had has) c.in_ok-cut.ensures.cut gives.left.sizes));
      usable = c.give_up.ensures.usable;
      keeps = c.give_up.ensures.keeps;
      faults = gives.none.faults;
      disk = gives.none.disk;
    }
