-- An event that is taken.
use Rattle.std.proofs.Common.{◌≡◌, ◌≤◌, List, [], ◌∷◌, length, Ok, Err, refl, sym, ap, subst, ◌∙◌}
use Rattle.std.specs.Prelude.{OnOk, OnErr}
use Rattle.std.specs.declared.result.Result.{Result}
use Rattle.ctss_types.specs.declared.script.Timed.{Timed}
use Rattle.live_core.specs.Core.{Took}
use Rattle.time_sharing.specs.System.{Console}
use Rattle.user_model.specs.User.{User}
use Rattle.plan_model.specs.Loads.{Places, no_places}
use Rattle.system_model.specs.Run.{Run, with_one_event}
use Rattle.user_cores.specs.Backing.{BackState}
use Rattle.supervisor.specs.Seen.{Bare, run_with}
use Rattle.supervisor.specs.Steps.{IsTied}
use Rattle.supervisor.specs.Whole.{whole_of}
use Rattle.live_run.specs.Calls.{Follows, IsReady}

pub takes_if : {T E : Type 0} (r : Result T E) (e : Timed) (old new : Bare) (back : BackState) (Same : Type 0) → Same
    → ((places : Places) → OnOk r (run_with places new ≡ with_one_event e (run_with places old))) → new.texts ≡ old.texts → new.ended ≡ old.ended
    → OnOk r (Same × Follows (Took e ∷ []) (whole_of old back) (whole_of new back))
takes_if (Ok x) e old new back Same same ok texts ended = (same, (whole_of new back, record { run = ok; texts = texts; ended = ended; back = refl }, refl))
takes_if (Err f) e old new back Same same ok texts ended = tt

given_users : (e : Timed) (r : Run) → (with_one_event e r).system.users ≡ r.system.users
unfolding with_one_event
given_users e r = refl

given_consoles : (e : Timed) (r : Run) → (with_one_event e r).system.consoles ≡ r.system.consoles
unfolding with_one_event
given_consoles e r = refl

given_common : (e : Timed) (r : Run) → (with_one_event e r).common ≡ r.common
unfolding with_one_event
given_common e r = refl

pub ready_if : {T E : Type 0} (r : Result T E) (e : Timed) (old new : Bare) (back : BackState)
    → ((places : Places) → OnOk r (run_with places new ≡ with_one_event e (run_with places old))) → OnErr r (new ≡ old) → IsReady (whole_of old back) → IsReady (whole_of new back)
ready_if (Ok x) e old new back ok err ready =
    let users : new.users ≡ old.users = ap (λ (q : Run). q.system.users) (ok no_places) ∙ given_users e (run_with no_places old) in
    let consoles : new.consoles ≡ old.consoles = ap (λ (q : Run). q.system.consoles) (ok no_places) ∙ given_consoles e (run_with no_places old) in
    record {
      agrees = record {
        tied = subst (λ (us : List User). IsTied us back.held) (sym users) ready.agrees.tied;
        common = ready.agrees.common ∙ sym (ap (λ (q : Run). q.common) (ok no_places) ∙ given_common e (run_with no_places old));
      };
      seats = subst (λ (cs : List Console). 32 ≤ length cs) (sym consoles) ready.seats;
    }
ready_if (Err f) e old new back ok err ready = subst (λ (b : Bare). IsReady (whole_of b back)) (sym err) ready
