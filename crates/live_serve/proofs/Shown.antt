-- What people are sent in turns is what the consoles show in the script's run.
use Rattle.std.proofs.Common.{◌≡◌, ℕ, zero, suc, ◌+◌, ◌*◌, ◌≤◌, Bool, true, List, [], ◌∷◌, ◌++◌, length, take, refl, sym, ap, ap₂, subst, ◌∙◌, arith, append_assoc, zero-add}
use Rattle.ctss_types.specs.declared.script.Script.{Script}
use Rattle.ctss_types.specs.declared.script.Timed.{Timed}
use Rattle.time_sharing.specs.Record.{AreLate}
use Rattle.system_model.specs.Run.{Run, with_all_events}
use Rattle.system_model.specs.Record.{start_of}
use Rattle.console_texts.specs.Watching.{texts_to}
use Rattle.supervisor.specs.Whole.{Whole}
use Rattle.live_core.specs.Core.{CoreSeen, CoreCall}
use Rattle.live_run.specs.Calls.{Follows}
use Rattle.live_run.specs.Media.{MediaSeen}
use Rattle.live_run.specs.Starts.{Begins}
use Rattle.live_run.specs.Parts.{Part, AreInOrder, all_events, calls_of, live_script}
use Rattle.live_run.specs.Texts.{texts_in}
use Rattle.live_run.proofs.Calls.{calls_show_texts}
use Rattle.live_run.proofs.LiveTexts.{live_texts_are_replayed}
use Rattle.live_run.proofs.TextsInParts.{late_events_show_nothing}
use Rattle.console_server.specs.Turns.{Desk, events_of_turn, desk_after}
use Rattle.console_server.specs.History.{heard_in, events_in}
use Rattle.console_server.specs.Conversation.{TurnSeen, HasShown, AreShown, events_of_turns, texts_behind}
use Rattle.live_serve.specs.Talks.{empty_desk, silent, events_given, AreTextsOf}
use Rattle.live_serve.specs.Live.{parts_from}
use Rattle.live_serve.proofs.Ticks.{in_order, late_both, late_turn}
use Rattle.live_serve.proofs.Behind.{heard_are, events_are}

-- events that come behind a limit come behind a lower one
late_sooner : (m n : ℕ) (es : List Timed) → m ≤ n → AreLate n es → AreLate m es
late_sooner m n [] le h = tt
late_sooner m n (e ∷ es) le h = ((let a = h.0 in omega (arith, le, a)), late_sooner m n es le h.1)

-- the first of the turns and their events
take_events : (k n : ℕ) (texts : List (List ℕ)) (desk : Desk) (turns : List TurnSeen) → take k (events_of_turns n texts desk turns) ≡ events_of_turns n texts desk (take k turns)
take_events zero n texts desk turns = refl
take_events (suc k) n texts desk [] = refl
take_events (suc k) n texts desk (t ∷ turns) =
    ap (λ (l : List (List Timed)). events_of_turn (1000 * n) texts desk t.answers ∷ l) (take_events k (suc n) t.shown (desk_after texts desk t.answers) turns)

take_length : {X : Type 0} (k : ℕ) (xs : List X) → k ≤ length xs → length (take k xs) ≡ k
take_length zero xs h = refl
take_length (suc k) [] h = omega (arith, h)
take_length (suc k) (x ∷ xs) h = ap suc (take_length k xs (omega (arith, h)))

-- events of turns from this number on come behind those before it
late_turns : (m n : ℕ) (texts : List (List ℕ)) (desk : Desk) (turns : List TurnSeen) → m ≤ 1000 * n → AreLate m (events_in (events_of_turns n texts desk turns))
late_turns m n texts desk [] le = tt
late_turns m n texts desk (t ∷ turns) le =
    let after = desk_after texts desk t.answers in
    late_both m (events_of_turn (1000 * n) texts desk t.answers) (events_in (events_of_turns (suc n) t.shown after turns))
    (late_sooner m (1000 * n) (events_of_turn (1000 * n) texts desk t.answers) le (late_turn (1000 * n) texts desk t.answers))
    (late_turns m (suc n) t.shown after turns (omega (arith, le)))

-- the events of the first turns, and then others, which come behind them
pub record Apart (m : ℕ) (first all : List Timed) : Type 0 where
  pub more : List Timed
  pub is : all ≡ first ++ more
  pub late : AreLate m more

events_apart : (k n : ℕ) (texts : List (List ℕ)) (desk : Desk) (turns : List TurnSeen) → k ≤ length turns
    → Apart (1000 * (n + k)) (events_in (events_of_turns n texts desk (take k turns))) (events_in (events_of_turns n texts desk turns))
events_apart zero n texts desk turns h = record {
  more = events_in (events_of_turns n texts desk turns);
  is = refl;
  late = late_turns (1000 * (n + 0)) n texts desk turns (omega arith);
}
events_apart (suc k) n texts desk [] h = absurd (omega (arith, h))
events_apart (suc k) n texts desk (t ∷ turns) h =
    let after = desk_after texts desk t.answers in
    let here = events_of_turn (1000 * n) texts desk t.answers in
    let rest = events_apart k (suc n) t.shown after turns (omega (arith, h)) in
    let same : 1000 * (suc n + k) ≡ 1000 * (n + suc k) = omega arith in
    record {
      more = rest.more;
      is = ap (λ (es : List Timed). here ++ es) rest.is ∙ sym (append_assoc here (events_in (events_of_turns (suc n) t.shown after (take k turns))) rest.more);
      late = subst (λ (m : ℕ). AreLate m rest.more) same rest.late;
    }

events_apart_first : (k : ℕ) (turns : List TurnSeen) → k ≤ length turns → Apart (1000 * k) (events_given (take k turns)) (events_given turns)
events_apart_first k turns h = subst (λ (m : ℕ). Apart (1000 * m) (events_given (take k turns)) (events_given turns)) (zero-add k) (events_apart k 0 silent empty_desk turns h)

-- a script's start with more events
start_with : (base : Script) (es more : List Timed) (last end : ℕ) → with_all_events more (start_of (live_script base es last)) ≡ start_of (live_script base (es ++ more) end)
unfolding start_of
start_with base es more last end = refl

module _ (base : Script) (was : MediaSeen) (a : Whole) (begins : Begins base was.tells a) (told : was.tells ≡ true) where
  -- after a run in these parts
  shown_in : (w : Whole) (parts : List Part) (last : ℕ) → AreInOrder 0 last parts → Follows (calls_of parts) a w
      → w.bare.texts ≡ texts_to last (start_of (live_script base (all_events parts) last)) silent
  shown_in w parts last order h =
      calls_show_texts parts a w (begins.tells ∙ told) h
      ∙ (λ j. texts_in parts (begins.run told j) (begins.texts j))
      ∙ live_texts_are_replayed base parts last silent order

  -- late events show nothing before
  shown_before : (es all : List Timed) (limit end : ℕ) → Apart limit es all
      → texts_to limit (start_of (live_script base es limit)) silent ≡ texts_to limit (start_of (live_script base all end)) silent
  shown_before es all limit end apart =
      sym (late_events_show_nothing apart.more limit (start_of (live_script base es limit)) silent apart.late)
      ∙ ap (λ (r : Run). texts_to limit r silent) (start_with base es apart.more limit end)
      ∙ ap (λ (fs : List Timed). texts_to limit (start_of (live_script base fs end)) silent) (sym apart.is)

  -- behind so many of these turns
  shown_behind : (turns : List TurnSeen) (k : ℕ) (w : Whole) → k ≤ length turns → Follows (heard_in 0 (take k (events_of_turns 0 silent empty_desk turns))) a w
      → w.bare.texts ≡ texts_to (1000 * k) (start_of (live_script base (events_given (take k turns)) (1000 * k))) silent
  shown_behind turns k w le h =
      let first = take k turns in
      let given = events_of_turns 0 silent empty_desk first in
      let last : 1000 * k ≡ 1000 * (0 + length first) = (let l = take_length k turns le in omega (arith, l)) in
      shown_in w (parts_from 0 given) (1000 * k) (in_order 0 (1000 * k) silent empty_desk first last)
      (subst (λ (l : List CoreCall). Follows l a w) (ap (heard_in 0) (take_events k 0 silent empty_desk turns) ∙ heard_are 0 given) h)
      ∙ ap (λ (es : List Timed). texts_to (1000 * k) (start_of (live_script base es (1000 * k))) silent) (events_are 0 given)

  module _ {C : Type 0} (goes : C → List CoreCall → C → Type 0) (see : C → CoreSeen) (old : C)
      (follow : (calls : List CoreCall) (texts : List (List ℕ)) → HasShown goes see old calls texts → (w : Whole) × Follows calls a w × (w.bare.texts ≡ texts)) (turns : List TurnSeen)
      (each : AreShown goes see old (events_of_turns 0 silent empty_desk turns) silent turns) where
    at_turn : (k end : ℕ) (all : List Timed) → k ≤ length turns → Apart (1000 * k) (events_given (take k turns)) all
        → texts_behind silent (take k turns) ≡ texts_to (1000 * k) (start_of (live_script base all end)) silent
    at_turn k end all le apart =
        let w = follow (heard_in 0 (take k (events_of_turns 0 silent empty_desk turns))) (texts_behind silent (take k turns)) (each k le) in
        sym w.2 ∙ shown_behind turns k w.0 le w.1 ∙ shown_before (events_given (take k turns)) all (1000 * k) end apart

    pub are_texts : (end : ℕ) (all : List Timed) → all ≡ events_given turns → AreTextsOf (start_of (live_script base all end)) turns
    are_texts end all is = λ k le. at_turn k end all le (subst (Apart (1000 * k) (events_given (take k turns))) (sym is) (events_apart_first k turns le))
