-- A script's events, given one after another before its run begins.
use Rattle.std.proofs.Common.{◌≡◌, ℕ, zero, suc, ◌+◌, ◌≤◌, ◌<◌, length, List, [], ◌∷◌, ◌++◌, take, get_or, refl, sym, ap, subst, ◌∙◌, append_assoc, arith}
use Rattle.ctss_types.specs.declared.script.Script.{Script}
use Rattle.time_sharing.specs.System.{Timed}
use Rattle.user_model.specs.Inner.{Stored}
use Rattle.user_model.specs.User.{User}
use Rattle.plan_model.specs.Loads.{Places, no_places}
use Rattle.system_model.specs.Run.{Run, with_one_event, with_all_events}
use Rattle.system_model.specs.Record.{start_of}
use Rattle.system_model.specs.Joined.{joined}
use Rattle.system_model.specs.Sound.{HasSeat}
use Rattle.user_cores.specs.Backing.{BackState}
use Rattle.supervisor.specs.Seen.{Bare, run_with}
use Rattle.supervisor.specs.Steps.{IsTied}
use Rattle.supervisor.specs.Whole.{Agrees, whole_of}
use Rattle.live_run.specs.Calls.{run_over}

given_more : (es : List Timed) (e : Timed) (r : Run) → with_one_event e (with_all_events es r) ≡ with_all_events (es ++ e ∷ []) r
unfolding with_one_event
given_more es e r = ap (λ (all : List Timed). record r { system = record r.system { events = all } }) (append_assoc r.system.events es (e ∷ []))

take_one : (xs : List Timed) (k : ℕ) (e : Timed) → k < length xs → e ≡ get_or xs k e → take (suc k) xs ≡ take k xs ++ e ∷ []
take_one [] k e h is = absurd (omega arith)
take_one (x ∷ xs) zero e h is = ap (λ (y : Timed). y ∷ []) (sym is)
take_one (x ∷ xs) (suc k) e h is = ap (λ (ys : List Timed). x ∷ ys) (take_one xs k e (omega arith) is)

pub one_more : (items : List Timed) (k : ℕ) (e : Timed) (r : Run) → k < length items → e ≡ get_or items k e
    → with_one_event e (with_all_events (take k items) r) ≡ with_all_events (take (k + 1) items) r
one_more items k e r h is =
    given_more (take k items) e r
    ∙ ap (λ (es : List Timed). with_all_events es r) (sym (take_one items k e h is))
    ∙ ap (λ (n : ℕ). with_all_events (take n items) r) (let e : suc k ≡ k + 1 = omega arith in e)

-- events change no console
pub seated : (es : List Timed) (e : Timed) (r : Run) → HasSeat e r → HasSeat e (with_all_events es r)
seated es e r h = record { some = h.some; within = h.within }

abbrev pub HasConsole : Timed → Type 0
HasConsole e = (1 ≤ e.console) × (e.console ≤ 32)

-- nor what is joined
given_joined : (f : ℕ → Stored) (es : List Timed) (r : Run) → joined f (with_all_events es r) ≡ with_all_events es (joined f r)
unfolding joined
given_joined f es r = refl

all_given : (script : Script) → with_all_events script.events (start_of (record script { events = [] })) ≡ start_of script
unfolding start_of
all_given script = refl

-- the start of a script's run
pub start_is : (script : Script) (old new : Bare) (back : BackState) → ((places : Places) → run_with places new ≡ with_all_events script.events (run_with places old))
    → run_over (whole_of old back) ≡ start_of (record script { events = [] }) → run_over (whole_of new back) ≡ start_of script
start_is script old new back given_is is =
    ap (joined back.held.stores) (given_is back.held.places)
    ∙ given_joined back.held.stores script.events (run_with back.held.places old)
    ∙ ap (with_all_events script.events) is
    ∙ all_given script

pub agrees_at_start : (events : List Timed) (old new : Bare) (back : BackState) → run_with no_places new ≡ with_all_events events (run_with no_places old) → Agrees (whole_of old back) → Agrees (whole_of new back)
agrees_at_start events old new back is agrees = record {
  tied = subst (λ (us : List User). IsTied us back.held) (sym (ap (λ (q : Run). q.system.users) is)) agrees.tied;
  common = agrees.common ∙ sym (ap (λ (q : Run). q.common) is);
}

pub no_entry : (events : List Timed) (old new : Bare) → run_with no_places new ≡ with_all_events events (run_with no_places old) → old.entries ≡ [] → new.entries ≡ []
no_entry events old new is none = ap (λ (q : Run). q.system.entries) is ∙ none

pub one_entry : (e : Timed) (old new : Bare) → run_with no_places new ≡ with_one_event e (run_with no_places old) → new.entries ≡ old.entries
unfolding with_one_event
one_entry e old new is = ap (λ (q : Run). q.system.entries) is
