-- What the consoles show along runs in parts, over any machine of all users.
use Rattle.std.proofs.Common.{◌≡◌, ◌≢◌, ℕ, zero, suc, ◌<◌, ◌≤◌, Bool, true, false, List, [], ◌∷◌, ◌++◌, drop, length, Some, None, refl, sym, ap, ◌∙◌, arith, ltb-true, lt-ltb, inl, inr}
use Rattle.std.proofs.lemmas.Bool.{cases_Bool, cases_eq}
use Rattle.std.proofs.lemmas.List.{append-nil}
use Rattle.time_sharing.specs.Machine.{Machine, Line}
use Rattle.time_sharing.specs.System as system
use Rattle.time_sharing.specs.System.{SystemState, World, Timed, Console, Off, On, Password, Session, at, state_of, next, next_tick, idled}
use Rattle.time_sharing.specs.Repeat.{repeat, Falls}
use Rattle.time_sharing.specs.Record.{clock_is_below, run_to, measure, Ends, with_events, AreLate}
use Rattle.time_sharing.specs.Texts.{Watched, asks_password, refusals, written, sent, shows, said, texts_after, next_watched, watched_to}
use Rattle.time_sharing.proofs.RepeatLaws.{repeat-suc, repeat-done, whole-step, whole-done}
use Rattle.time_sharing.proofs.Ending.{falls}
use Rattle.time_sharing.proofs.TextsLaws.{watched}
use Rattle.time_sharing.proofs.Given.{not_due, steps_with_more}

nothing_behind : {A : Type 0} (xs : List A) → drop (length xs) xs ≡ []
nothing_behind [] = refl
nothing_behind (x ∷ xs) = nothing_behind xs

asks_nothing : (c : Console) → asks_password c c ≡ []
asks_nothing Off = refl
asks_nothing On = refl
asks_nothing (Password name) = refl
asks_nothing (Session u) = refl

-- enough turns end because the test fails
repeat_stops : {X : Type 0} (running : X → Bool) (step : X → X) (left : X → ℕ) → Falls running step left → (n : ℕ) (x : X) → left x ≤ n → running (repeat running step n x) ≡ false
repeat_stops running step left falls zero x h = elim (cases_Bool (running x)) [ inl up ↦ absurd (omega (arith, falls x up, h)) | inr down ↦ down ]
repeat_stops running step left falls (suc n) x h =
    elim (cases_Bool (running x)) [
      | inl up ↦ ap running (repeat-suc running step left falls n x up) ∙ repeat_stops running step left falls n (step x) (omega (arith, falls x up, h))
      | inr down ↦ ap running (repeat-done running step left falls (suc n) x down) ∙ down
    ]

module _ {S P F : Type 0} (m : Machine S) (w : World S P F) where
  -- a run to a limit reaches it
  pub stopped : Ends w → (limit : ℕ) (s : SystemState S P F) → clock_is_below m w limit (run_to m w limit s) ≡ false
  stopped ends limit s = repeat_stops (clock_is_below m w limit) (next m w limit) (measure m w limit) (falls m w ends limit) (measure m w limit s) s (omega arith)

  -- idling shows nothing
  idling_is_silent : (limit c : ℕ) (s : SystemState S P F) → said m w c s (idled m w limit s) ≡ []
  idling_is_silent limit c s =
      λ i. asks_nothing (at Off s.consoles c) i
      ++ (refusals c (nothing_behind s.entries i) ++ written (nothing_behind (m.transcript (state_of m w s (shows (at Off s.consoles c) (at Off s.consoles c)))) i))

  idling_shows_nothing : (limit c : ℕ) (s : SystemState S P F) (texts : List (List ℕ)) → texts_after m w c s (idled m w limit s) texts ≡ texts
  idling_shows_nothing limit c s [] = refl
  idling_shows_nothing limit c s (text ∷ texts) =
      λ i. (ap (λ (ls : List Line). text ++ sent ls) (idling_is_silent limit c s) ∙ append-nil text) i ∷ idling_shows_nothing limit (suc c) s texts i

  module _ (es : List Timed) where
    -- with more events behind those that are left
    abbrev with_more : Watched S P F → Watched S P F
    with_more x = record x { system = with_events es x.system }

    same_shown : (c : ℕ) (s t : SystemState S P F) (texts : List (List ℕ)) → texts_after m w c (with_events es s) (with_events es t) texts ≡ texts_after m w c s t texts
    same_shown c s t [] = refl
    same_shown c s t (text ∷ texts) = λ i. (text ++ sent (said m w c s t)) ∷ same_shown (suc c) s t texts i

    module _ (ends : Ends w) where
      abbrev runs : ℕ → Watched S P F → Bool
      runs limit y = clock_is_below m w limit y.system

      abbrev left : ℕ → Watched S P F → ℕ
      left limit y = measure m w limit y.system

      step_to : (limit : ℕ) (x : Watched S P F) → x.system.clock < limit → watched_to m w limit (next_watched m w limit x) ≡ watched_to m w limit x
      step_to limit x h = whole-step (runs limit) (next_watched m w limit) (left limit) (λ y up. falls m w ends limit y.system up) x (lt-ltb x.system.clock limit h)

      -- an idle step to a greater limit, and on
      idles_to : (k : ℕ) (s : SystemState S P F) (texts : List (List ℕ)) → s.clock < k → next m w k s ≡ idled m w k s →
          watched_to m w k (record { system = s; texts = texts }) ≡ watched_to m w k (record { system = idled m w k s; texts = texts })
      idles_to k s texts h is =
          sym (step_to k (record { system = s; texts = texts }) h)
          ∙ ap (λ (t : SystemState S P F). watched_to m w k (record { system = t; texts = texts_after m w 1 s t texts })) is
          ∙ ap (λ (ts : List (List ℕ)). watched_to m w k (record { system = idled m w k s; texts = ts })) (idling_shows_nothing k 1 s texts)

      -- idling to the lesser limit, then with more events on to the greater one
      idle_on : (j k : ℕ) (s : SystemState S P F) (texts : List (List ℕ)) → j ≤ k → AreLate j es → s.clock < j → w.choose s.plan ≡ None → s.service ≡ None →
          watched_to m w k (record { system = with_events es (idled m w j s); texts = texts }) ≡ watched_to m w k (record { system = idled m w k (with_events es s); texts = texts })
      idle_on j k s texts le late h choice service =
          elim (cases_eq (next_tick j s.events) (next_tick k (s.events ++ es))) [
            | inl e ↦ ap (λ (c : ℕ). watched_to m w k (record { system = record (with_events es s) { clock = c; idling = Some (system.idle_from m w s.idling s.clock) }; texts = texts })) e
            | inr ne ↦
                let t : SystemState S P F = with_events es (idled m w j s) in
                let far = ticks s.events es late ne in
                idles_to k t texts (omega (arith, far.0, far.1)) (not_due m w es k (s.events ++ es) t far.2 ∙ ap (λ x. system.quiet_by m w k x t) (ends.none_rises s.plan (system.served_of s.service) t.clock choice) ∙ rw (choice, service) refl)
          ]
        where
          ticks : (events es : List Timed) → AreLate j es → next_tick j events ≢ next_tick k (events ++ es) →
              (next_tick j events ≡ j) × (j < k) × (next_tick j events < next_tick (suc (next_tick j events)) (events ++ es))
          ticks [] [] late ne = (refl, omega (arith, le, ne), omega arith)
          ticks [] (e ∷ es) late ne = (refl, omega (arith, le, late.0, ne), omega (arith, le, late.0, ne))
          ticks (e ∷ events) es late ne = (omega (arith, ne), omega (arith, le, ne), omega (arith, le, ne))

      -- the step before more events are there makes no difference
      one_step : (j k : ℕ) (x : Watched S P F) → j ≤ k → AreLate j es → x.system.clock < j → watched_to m w k (with_more (next_watched m w j x)) ≡ watched_to m w k (with_more x)
      one_step j k x le late h =
          elim (steps_with_more m w es j k x.system late h) [
            | inl e ↦
                ap (λ (ts : List (List ℕ)). watched_to m w k (record { system = with_events es (next m w j x.system); texts = ts })) (sym (same_shown 1 x.system (next m w j x.system) x.texts))
                ∙ ap (λ (t : SystemState S P F). watched_to m w k (record { system = t; texts = texts_after m w 1 (with_events es x.system) t x.texts })) (sym e)
                ∙ step_to k (with_more x) (omega (arith, le, h))
            | inr i ↦
                ap (λ (t : SystemState S P F). watched_to m w k (record { system = with_events es t; texts = texts_after m w 1 x.system t x.texts })) i.2
                ∙ ap (λ (ts : List (List ℕ)). watched_to m w k (record { system = with_events es (idled m w j x.system); texts = ts })) (idling_shows_nothing j 1 x.system x.texts)
                ∙ idle_on j k x.system x.texts le late h i.0 i.1
                ∙ sym (idles_to k (with_events es x.system) x.texts (omega (arith, le, h)) i.3)
          ]

      by_test : (j k n : ℕ) (x : Watched S P F) → j ≤ k → AreLate j es →
          watched_to m w k (with_more (repeat (runs j) (next_watched m w j) n (next_watched m w j x))) ≡ watched_to m w k (with_more (next_watched m w j x)) → (b : Bool) → runs j x ≡ b →
          watched_to m w k (with_more (elim b [ true ↦ repeat (runs j) (next_watched m w j) n (next_watched m w j x) | false ↦ x ])) ≡ watched_to m w k (with_more x)
      by_test j k n x le late turns true up = turns ∙ one_step j k x le late (ltb-true x.system.clock j up)
      by_test j k n x le late turns false up = refl

      by_turns : (j k n : ℕ) (x : Watched S P F) → j ≤ k → AreLate j es → watched_to m w k (with_more (repeat (runs j) (next_watched m w j) n x)) ≡ watched_to m w k (with_more x)
      by_turns j k zero x le late = refl
      by_turns j k (suc n) x le late = by_test j k n x le late (by_turns j k n (next_watched m w j x) le late) (runs j x) refl

      -- a run, then more events, then a longer run
      pub shown_in_parts : (j k : ℕ) (x : Watched S P F) → j ≤ k → AreLate j es → watched_to m w k (with_more (watched_to m w j x)) ≡ watched_to m w k (with_more x)
      shown_in_parts j k x le late = by_turns j k (measure m w j x.system) x le late

      -- events that come late show nothing before
      pub shown_before : (limit : ℕ) (x : Watched S P F) → AreLate limit es → (watched_to m w limit (with_more x)).texts ≡ (watched_to m w limit x).texts
      shown_before limit x late =
          let y = watched_to m w limit x in
          let down : runs limit (with_more y) ≡ false = ap (clock_is_below m w limit) (watched m w limit x) ∙ stopped ends limit x.system in
          ap (λ (z : Watched S P F). z.texts) (sym (shown_in_parts limit limit x (omega arith) late))
          ∙ ap (λ (z : Watched S P F). z.texts) (whole-done (runs limit) (next_watched m w limit) (left limit) (λ z up. falls m w ends limit z.system up) (with_more y) down)
