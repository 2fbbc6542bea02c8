-- What a core does after its calls.
use Rattle.std.proofs.Common.{◌≡◌, ℕ, true, List, [], ◌∷◌, ◌++◌, map, None, refl, sym, ap, ◌∙◌}
use Rattle.std.proofs.lemmas.List.{append_assoc}
use Rattle.ctss_types.specs.declared.script.Timed.{Timed}
use Rattle.system_model.specs.Run.{Run, run_to, with_one_event, with_all_events}
use Rattle.system_model.specs.Joined.{joined}
use Rattle.live_core.specs.Core.{CoreCall, Took, Went}
use Rattle.user_model.specs.Inner.{Stored}
use Rattle.user_cores.specs.Backing.{BackState}
use Rattle.supervisor.specs.Seen.{run_with}
use Rattle.supervisor.specs.Whole.{Whole, AreCounted, run_of}
use Rattle.supervisor.proofs.Counting.{counted_same, counted_on}
use Rattle.plan_model.specs.Loads.{no_places}
use Rattle.live_run.specs.Calls.{Takes, Follows, run_over}
use Rattle.console_texts.specs.Watching.{texts_to}
use Rattle.live_run.specs.Parts.{Part, run_in, calls_of, CallsAreRuns}
use Rattle.live_run.specs.Texts.{texts_in, CallsShowTexts}
use Rattle.live_run.proofs.InParts.{given_none}

-- to give an event changes no user, so it is the same with words and without
given_joined : (f : ℕ → Stored) (e : Timed) (r : Run) → joined f (with_one_event e r) ≡ with_one_event e (joined f r)
unfolding joined with_one_event
given_joined f e r = refl

given_both : (e : Timed) (es : List Timed) (r : Run) → with_all_events es (with_one_event e r) ≡ with_all_events (e ∷ es) r
unfolding with_one_event
given_both e es r = λ i. record r { system = record r.system { events = append_assoc r.system.events (e ∷ []) es i } }

taken : (e : Timed) (old new : Whole) → Takes e old new → run_over new ≡ with_one_event e (run_over old)
taken e old new t =
    (λ i. joined (t.back i).held.stores (run_with (t.back i).held.places new.bare))
    ∙ ap (joined old.back.held.stores) (t.run old.back.held.places)
    ∙ given_joined old.back.held.stores e (run_of old)

-- an event that is taken adds no entry, and no call of the drum

given_entries : (e : Timed) (r : Run) → (with_one_event e r).system.entries ≡ r.system.entries
unfolding with_one_event
given_entries e r = refl

counted_taken : (e : Timed) (old new : Whole) → Takes e old new → AreCounted old new
counted_taken e old new t =
    counted_same old.bare.entries new.bare.entries old.back.calls new.back.calls
    (ap (λ (r : Run). r.system.entries) (t.run no_places) ∙ given_entries e (run_with no_places old.bare)) (ap (λ (b : BackState). b.calls) t.back)

pub counted_both : (a b c : Whole) → AreCounted a b → AreCounted b c → AreCounted a c
counted_both a b c one two = counted_on a.bare.entries b.bare.entries c.bare.entries a.back.calls b.back.calls c.back.calls one two

counted_nowhere : (a : Whole) → AreCounted a a
counted_nowhere a = counted_same a.bare.entries a.bare.entries a.back.calls a.back.calls refl refl

-- events, and then other calls
pub all_taken : (es : List Timed) (calls : List CoreCall) (old new : Whole) → Follows (map Took es ++ calls) old new
    → (mid : Whole) × (run_over mid ≡ with_all_events es (run_over old)) × (mid.back.held.tells ≡ old.back.held.tells) × AreCounted old mid × Follows calls mid new × (mid.bare.texts ≡ old.bare.texts)
all_taken [] calls old new h = (old, sym (given_none (run_over old)), refl, counted_nowhere old, h, refl)
all_taken (e ∷ es) calls old new h =
    let rest = all_taken es calls h.0 new h.2 in (
      rest.0,
      rest.1 ∙ ap (with_all_events es) (taken e old h.0 h.1) ∙ given_both e es (run_over old),
      rest.2 ∙ ap (λ (b : BackState). b.held.tells) h.1.back,
      counted_both old h.0 rest.0 (counted_taken e old h.0 h.1) rest.3,
      rest.4,
      rest.5 ∙ h.1.texts,
    )

pub calls_are_runs : CallsAreRuns
calls_are_runs [] old new told h = (ap run_over h, ap (λ (w : Whole). w.back.held.tells) h ∙ told)
calls_are_runs (p ∷ parts) old new told h =
    let given = all_taken p.events (Went p.limit None ∷ calls_of parts) old new h in
    let went = given.4 in
    let tells : given.0.back.held.tells ≡ true = given.2 ∙ told in
    let rest = calls_are_runs parts went.0 new (went.1.tells ∙ tells) went.2 in
    (rest.0 ∙ ap (run_in parts) (went.1.ended tells ∙ ap (run_to p.limit) given.1), rest.1)

-- the calls of the drum in these parts are those of their loads
pub calls_are_counted : (parts : List Part) (old new : Whole) → Follows (calls_of parts) old new → AreCounted old new
calls_are_counted [] old new h =
    counted_same old.bare.entries new.bare.entries old.back.calls new.back.calls (ap (λ (w : Whole). w.bare.entries) h) (ap (λ (w : Whole). w.back.calls) h)
calls_are_counted (p ∷ parts) old new h =
    let given = all_taken p.events (Went p.limit None ∷ calls_of parts) old new h in
    let went = given.4 in
    counted_both old given.0 new given.3 (counted_both given.0 went.0 new went.1.counted (calls_are_counted parts went.0 new went.2))

-- and after these calls the consoles show what they show in the run in these parts
pub calls_show_texts : CallsShowTexts
calls_show_texts [] old new told h = ap (λ (w : Whole). w.bare.texts) h
calls_show_texts (p ∷ parts) old new told h =
    let given = all_taken p.events (Went p.limit None ∷ calls_of parts) old new h in
    let went = given.4 in
    let tells : given.0.back.held.tells ≡ true = given.2 ∙ told in
    let run : run_over went.0 ≡ run_to p.limit (with_all_events p.events (run_over old)) = went.1.ended tells ∙ ap (run_to p.limit) given.1 in
    let texts : went.0.bare.texts ≡ texts_to p.limit (with_all_events p.events (run_over old)) old.bare.texts =
    went.1.texts tells ∙ (λ i. texts_to p.limit (given.1 i) (given.5 i)) in
    calls_show_texts parts went.0 new (went.1.tells ∙ tells) went.2 ∙ (λ i. texts_in parts (run i) (texts i))
