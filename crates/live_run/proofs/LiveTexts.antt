-- What the consoles show in a run in parts, and in that of the script with all events.
use Rattle.std.proofs.Common.{◌≡◌, ℕ, ◌≤◌, List, [], ◌∷◌, sym, ap, subst, ◌∙◌, arith}
use Rattle.system_model.specs.Run.{Run, run_to, with_all_events}
use Rattle.system_model.specs.Record.{start_of}
use Rattle.console_texts.specs.Watching.{texts_to}
use Rattle.console_texts.proofs.Watched.{texts_done}
use Rattle.live_run.specs.Parts.{Part, AreInOrder, all_events, run_in}
use Rattle.live_run.proofs.InParts.{last_is_late, all_late, given_more, given_none, all_given}
use Rattle.live_run.specs.Texts.{texts_in, LiveTextsAreReplayed}
use Rattle.live_run.proofs.TextsInParts.{texts_in_parts, reached}

-- to give events in parts shows what all of them show that were there before
whole : (parts : List Part) (start last : ℕ) (r : Run) (texts : List (List ℕ)) → AreInOrder start last parts →
    texts_to last (run_in parts r) (texts_in parts r texts) ≡ texts_to last (with_all_events (all_events parts) r) texts
whole [] start last r texts h = ap (λ (q : Run). texts_to last q texts) (sym (given_none r))
whole (p ∷ parts) start last r texts h =
    whole parts p.limit last (run_to p.limit (with_all_events p.events r)) (texts_to p.limit (with_all_events p.events r) texts) h.1.1
    ∙ texts_in_parts (all_events parts) p.limit last (with_all_events p.events r) texts (last_is_late parts p.limit last h.1.1) (all_late parts p.limit last h.1.1)
    ∙ ap (λ (q : Run). texts_to last q texts) (sym (given_more p.events (all_events parts) r))

-- behind the last part its limit is reached
at_last : (p : Part) (parts : List Part) (start last : ℕ) (r : Run) → AreInOrder start last (p ∷ parts) → last ≤ (run_in (p ∷ parts) r).system.clock
at_last p [] start last r h = subst (λ (k : ℕ). k ≤ (run_to p.limit (with_all_events p.events r)).system.clock) h.1.1 (reached p.limit (with_all_events p.events r))
at_last p (q ∷ parts) start last r h = at_last q parts p.limit last (run_to p.limit (with_all_events p.events r)) h.1.1

done : (parts : List Part) (last : ℕ) (r : Run) (texts : List (List ℕ)) → AreInOrder 0 last parts → texts_to last (run_in parts r) texts ≡ texts
done [] last r texts h = texts_done last r texts (omega (arith, h))
done (p ∷ parts) last r texts h = texts_done last (run_in (p ∷ parts) r) texts (at_last p parts 0 last r h)

pub live_texts_are_replayed : LiveTextsAreReplayed
live_texts_are_replayed base parts last texts h =
    let r = start_of (record base { events = [] }) in
    sym (done parts last r (texts_in parts r texts) h)
    ∙ whole parts 0 last r texts h
    ∙ ap (λ (q : Run). texts_to last q texts) (all_given base (all_events parts) last)
