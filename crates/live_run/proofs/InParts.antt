-- A run in parts, and the run of all their events.
use Rattle.std.proofs.Common.{◌≡◌, ℕ, ◌≤◌, List, [], ◌∷◌, ◌++◌, refl, sym, ap, ◌∙◌, arith}
use Rattle.std.proofs.lemmas.List.{append_assoc, append-nil}
use Rattle.ctss_types.specs.declared.script.Script.{Script}
use Rattle.ctss_types.specs.declared.script.Timed.{Timed}
use Rattle.time_sharing.specs.Record.{AreLate}
use Rattle.system_model.specs.Run.{Run, run_to, with_all_events, ended}
use Rattle.system_model.specs.Record.{start_of, record_of, record_from}
use Rattle.system_model.proofs.PartLaws.{runs_in_parts, late_events_wait}
use Rattle.system_model.proofs.RunLaws.{run_to_done}
use Rattle.live_run.specs.Parts.{Part, all_events, AreInOrder, run_in, live_script, LiveRunsAreReplays}

late_more : (limit : ℕ) (es fs : List Timed) → AreLate limit es → AreLate limit fs → AreLate limit (es ++ fs)
late_more limit [] fs h k = k
late_more limit (e ∷ es) fs h k = (h.0, late_more limit es fs h.1 k)

late_before : (low high : ℕ) (es : List Timed) → low ≤ high → AreLate high es → AreLate low es
late_before low high [] le h = tt
late_before low high (e ∷ es) le h = (omega (arith, le, h.0), late_before low high es le h.1)

pub last_is_late : (parts : List Part) (start last : ℕ) → AreInOrder start last parts → start ≤ last
last_is_late [] start last h = omega (arith, h)
last_is_late (p ∷ parts) start last h = omega (arith, h.0, last_is_late parts p.limit last h.1.1)

pub all_late : (parts : List Part) (start last : ℕ) → AreInOrder start last parts → AreLate start (all_events parts)
all_late [] start last h = tt
all_late (p ∷ parts) start last h = late_more start p.events (all_events parts) h.1.0 (late_before start p.limit (all_events parts) h.0 (all_late parts p.limit last h.1.1))

pub given_more : (es fs : List Timed) (r : Run) → with_all_events (es ++ fs) r ≡ with_all_events fs (with_all_events es r)
given_more es fs r = λ i. record r { system = record r.system { events = sym (append_assoc r.system.events es fs) i } }

pub given_none : (r : Run) → with_all_events [] r ≡ r
given_none r = λ i. record r { system = record r.system { events = append-nil r.system.events i } }

-- to give events in parts is to give all of them before
whole : (parts : List Part) (start last : ℕ) (r : Run) → AreInOrder start last parts → run_to last (with_all_events (all_events parts) r) ≡ run_to last (run_in parts r)
whole [] start last r h = ap (run_to last) (given_none r)
whole (p ∷ parts) start last r h =
    ap (run_to last) (given_more p.events (all_events parts) r)
    ∙ sym (late_events_wait (all_events parts) p.limit last (with_all_events p.events r) (last_is_late parts p.limit last h.1.1) (all_late parts p.limit last h.1.1)).0
    ∙ whole parts p.limit last (run_to p.limit (with_all_events p.events r)) h.1.1

-- behind the last part nothing is left to be done before its limit
done : (p : Part) (parts : List Part) (start last : ℕ) (r : Run) → AreInOrder start last (p ∷ parts) → run_to last (run_in (p ∷ parts) r) ≡ run_in (p ∷ parts) r
done p [] start last r h = ap (λ (k : ℕ). run_to k (run_to p.limit (with_all_events p.events r))) (sym h.1.1) ∙ runs_in_parts p.limit p.limit (with_all_events p.events r) (omega arith)
done p (q ∷ parts) start last r h = done q parts p.limit last (run_to p.limit (with_all_events p.events r)) h.1.1

pub all_given : (base : Script) (events : List Timed) (last : ℕ) → with_all_events events (start_of (record base { events = [] })) ≡ start_of (live_script base events last)
unfolding start_of
all_given base events last = refl

pub live_runs_are_replays : LiveRunsAreReplays
unfolding record_of
live_runs_are_replays base [] last h =
    let r = start_of (record base { events = [] }) in
    let late : last ≤ r.system.clock = omega (arith, h) in
    ap (λ (s : Run). record_from (ended s)) (sym (run_to_done last r late) ∙ ap (run_to last) (sym (given_none r) ∙ all_given base [] last))
live_runs_are_replays base (p ∷ parts) last h =
    let r = start_of (record base { events = [] }) in
    ap (λ (s : Run). record_from (ended s))
    (sym (done p parts 0 last r h) ∙ sym (whole (p ∷ parts) 0 last r h) ∙ ap (run_to last) (all_given base (all_events (p ∷ parts)) last))
