-- Ticks of turns one after another don't fall.
use Rattle.std.proofs.Common.{◌≡◌, ℕ, zero, suc, ◌+◌, ◌*◌, ◌≤◌, ◌<◌, List, [], ◌∷◌, ◌++◌, length, map, sym, subst, arith}
use Rattle.std.specs.Prelude.{slice_index_or}
use Rattle.std.specs.List.{All}
use Rattle.std.specs.List.Sorted.{IsNonDecreasing}
use Rattle.std.proofs.lemmas.List.Elements.{All-nil, All-append, All-head, All-tail, All-weaker}
use Rattle.ctss_types.specs.declared.script.Timed.{Timed}
use Rattle.text_model.specs.Lawful.{IsLawfulEvent}
use Rattle.console_server.specs.Turns.{Desk, events_of_turn, desk_after}
use Rattle.console_server.specs.History.{events_in}
use Rattle.console_server.specs.Conversation.{TurnSeen, AreTurns, events_of_turns}
use Rattle.serve_laws.proofs.Fine.{IsFine, IsWhole, fine_turn, whole_after}

abbrev pub tick_of : Timed → ℕ
tick_of e = e.tick

-- from a tick on they don't fall
abbrev Rising : ℕ → List Timed → Type 0
Rising low [] = Unit {0}
Rising low (e ∷ es) = (low ≤ e.tick) × Rising e.tick es

lower : (low high : ℕ) (es : List Timed) → low ≤ high → Rising high es → Rising low es
lower low high [] le h = tt
lower low high (e ∷ es) le h = (omega (arith, le, h.0), h.1)

-- events at one tick, and then others
at_tick : (tick : ℕ) (es fs : List Timed) → All (IsFine tick) es → Rising tick fs → Rising tick (es ++ fs)
at_tick tick [] fs fine h = h
at_tick tick (e ∷ es) fs fine h =
    let is : e.tick ≡ tick = (All-head (IsFine tick) e es fine).tick_is in
    let low : tick ≤ e.tick = omega (arith, is) in
    (low, subst (λ (t : ℕ). Rising t (es ++ fs)) (sym is) (at_tick tick es fs (All-tail (IsFine tick) e es fine) h))

rising_turns : (n : ℕ) (texts : List (List ℕ)) (desk : Desk) (turns : List TurnSeen) → IsWhole desk → AreTurns texts desk turns → Rising (1000 * n) (events_in (events_of_turns n texts desk turns))
rising_turns n texts desk [] w h = tt
rising_turns n texts desk (t ∷ turns) w h =
    let up : 1000 * n ≤ 1000 * suc n = omega arith in
    let rest = events_in (events_of_turns (suc n) t.shown (desk_after texts desk t.answers) turns) in
    at_tick (1000 * n) (events_of_turn (1000 * n) texts desk t.answers) rest (fine_turn (1000 * n) texts desk t.answers w)
    (lower (1000 * n) (1000 * suc n) rest up (rising_turns (suc n) t.shown (desk_after texts desk t.answers) turns (whole_after texts t.shown desk t.answers w h.0) h.1.1))

low_at : (low : ℕ) (es : List Timed) (j d : ℕ) → Rising low es → j < length (map tick_of es) → low ≤ slice_index_or (map tick_of es) j d
low_at low [] j d h within = absurd (omega (arith, within))
low_at low (e ∷ es) zero d h within = h.0
low_at low (e ∷ es) (suc j) d h within =
    let rest : e.tick ≤ slice_index_or (map tick_of es) j d = low_at e.tick es j d h.1 (omega (arith, within)) in
    let first : low ≤ e.tick = h.0 in
    omega (arith, rest, first)

in_order : (low : ℕ) (es : List Timed) → Rising low es → IsNonDecreasing (map tick_of es)
in_order low [] h i j d le within = absurd (omega (arith, within))
in_order low (e ∷ es) h zero zero d le within = omega arith
in_order low (e ∷ es) h zero (suc j) d le within = low_at e.tick es j d h.1 (omega (arith, within))
in_order low (e ∷ es) h (suc i) zero d le within = absurd (omega (arith, le))
in_order low (e ∷ es) h (suc i) (suc j) d le within = in_order e.tick es h.1 i j d (omega (arith, le)) (omega (arith, within))

pub ticks_rise : (texts : List (List ℕ)) (desk : Desk) (turns : List TurnSeen) → IsWhole desk → AreTurns texts desk turns → IsNonDecreasing (map tick_of (events_in (events_of_turns 0 texts desk turns)))
ticks_rise texts desk turns w h = in_order (1000 * 0) (events_in (events_of_turns 0 texts desk turns)) (rising_turns 0 texts desk turns w h)

-- each event is at a console, may stand on a card, and comes before the end
pub record IsGood (end : ℕ) (e : Timed) : Type 0 where
  pub some : 1 ≤ e.console
  pub few : e.console ≤ 32
  pub lawful : IsLawfulEvent e.event
  pub ends : e.tick ≤ end

good : (tick end : ℕ) → tick ≤ end → (e : Timed) → IsFine tick e → IsGood end e
good tick end le e f = let is : e.tick ≡ tick = f.tick_is in record { some = f.some; few = f.few; lawful = f.lawful; ends = omega (arith, le, is) }

pub all_good : (n end : ℕ) (texts : List (List ℕ)) (desk : Desk) (turns : List TurnSeen) → 1000 * (n + length turns) ≤ end → IsWhole desk → AreTurns texts desk turns → All (IsGood end) (events_in (events_of_turns n texts desk turns))
all_good n end texts desk [] le w h = All-nil (IsGood end)
all_good n end texts desk (t ∷ turns) le w h =
    let here : 1000 * n ≤ end = omega (arith, le) in
    let rest : 1000 * (suc n + length turns) ≤ end = omega (arith, le) in
    All-append (IsGood end) (events_of_turn (1000 * n) texts desk t.answers) (events_in (events_of_turns (suc n) t.shown (desk_after texts desk t.answers) turns))
    (All-weaker (IsFine (1000 * n)) (IsGood end) (good (1000 * n) end here) (events_of_turn (1000 * n) texts desk t.answers) (fine_turn (1000 * n) texts desk t.answers w))
    (all_good (suc n) end t.shown (desk_after texts desk t.answers) turns rest (whole_after texts t.shown desk t.answers w h.0) h.1.1)
