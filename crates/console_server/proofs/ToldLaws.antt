-- Sending one console after another.
use Rattle.std.specs.Prelude.{Bool, take, drop, length, get_or, set, Option, None}
use Rattle.std.specs.List.{AllZip}
use Rattle.std.proofs.Math.Seq.{drop-cons}
use Rattle.std.proofs.Common.{◌≡◌, ℕ, suc, ◌+◌, ◌<◌, List, [], ◌∷◌, ◌++◌, refl, sym, ◌∙◌, ap, subst, arith}
use Rattle.std.proofs.lemmas.List.{append_assoc, append-nil, map-append, take_more, take_more_set, length-take-le}
use Rattle.console_link.specs.Links.{LinkSeen, Done}
use Rattle.console_server.specs.declared.tasks.Task.{Task}
use Rattle.console_server.specs.Readings.{DidAll, Nothing}
use Rattle.console_server.specs.Turns.{Talk, Told, IsToldOf, AreTold, calls_told, seat_told, all_calls_told, all_seats_told}
use Rattle.console_server.specs.Seats.{Stands, StandAll, SeatIsTold, SeatsAreTold}
use Rattle.console_server.proofs.Following.{did_both}
use Rattle.console_server.proofs.DeskLaws.{stands_at, stands_set, false_is}

plus_suc : (a b : ℕ) → suc a + b ≡ a + suc b
plus_suc a b = omega arith

plus_none : (n : ℕ) → n + 0 ≡ n
plus_none n = omega arith

are_more : (texts : List (List ℕ)) (place : ℕ) (seats : List (Option Talk)) (ts : List Told) (s : Option Talk) (t : Told) → AreTold texts place seats ts → IsToldOf (get_or texts (place + length seats) []) s t.puts t.lost → AreTold texts place (seats ++ s ∷ []) (ts ++ t ∷ [])
are_more texts place [] [] s t are is = (subst (λ (n : ℕ). IsToldOf (get_or texts n []) s t.puts t.lost) (plus_none place) is, tt)
are_more texts place [] (x ∷ ts) s t are is = false_is are
are_more texts place (y ∷ seats) [] s t are is = false_is are
are_more texts place (y ∷ seats) (x ∷ ts) s t are is = (are.0, are_more texts (suc place) seats ts s t are.1 (subst (λ (n : ℕ). IsToldOf (get_or texts n []) s t.puts t.lost) (sym (plus_suc place (length seats))) is))

calls_more : (texts : List (List ℕ)) (place : ℕ) (seats : List (Option Talk)) (ts : List Told) (s : Option Talk) (t : Told) → AreTold texts place seats ts → all_calls_told (seats ++ s ∷ []) (ts ++ t ∷ []) ≡ all_calls_told seats ts ++ calls_told s t.puts t.lost
calls_more texts place [] [] s t are = append-nil (calls_told s t.puts t.lost)
calls_more texts place [] (x ∷ ts) s t are = false_is are
calls_more texts place (y ∷ seats) [] s t are = false_is are
calls_more texts place (y ∷ seats) (x ∷ ts) s t are =
    ap (λ (ds : List Done). calls_told y x.puts x.lost ++ ds) (calls_more texts (suc place) seats ts s t are.1) ∙ sym (append_assoc (calls_told y x.puts x.lost) (all_calls_told seats ts) (calls_told s t.puts t.lost))

seats_more : (texts : List (List ℕ)) (place : ℕ) (seats : List (Option Talk)) (ts : List Told) (s : Option Talk) (t : Told) → AreTold texts place seats ts → all_seats_told (seats ++ s ∷ []) (ts ++ t ∷ []) ≡ all_seats_told seats ts ++ seat_told s t.puts t.lost ∷ []
seats_more texts place [] [] s t are = refl
seats_more texts place [] (x ∷ ts) s t are = false_is are
seats_more texts place (y ∷ seats) [] s t are = false_is are
seats_more texts place (y ∷ seats) (x ∷ ts) s t are = ap (λ (l : List (Option Talk)). seat_told y x.puts x.lost ∷ l) (seats_more texts (suc place) seats ts s t are.1)

seats_length : (seats : List (Option Talk)) (ts : List Told) → length (all_seats_told seats ts) ≡ length seats
seats_length [] ts = refl
seats_length (y ∷ seats) [] = refl
seats_length (y ∷ seats) (x ∷ ts) = ap suc (seats_length seats ts)

module _ (texts : List (List ℕ)) (i : ℕ) (desk : List (Option Talk)) (a b : LinkSeen) (now : List (Option Task)) (failed : List Bool) (lt : i < length desk) (sofar : SeatsAreTold texts i desk a b now failed) where
  len : length (take i desk) ≡ i
  len = length-take-le i desk (omega (arith, lt))

  here : AllZip Stands now (all_seats_told (take i desk) sofar.told ++ get_or desk i None ∷ drop (suc i) desk)
  here = subst (λ (l : List (Option Talk)). AllZip Stands now (all_seats_told (take i desk) sofar.told ++ l)) (drop-cons desk i None lt) sofar.stands

  pub seat_next : (was : Option Task) → was ≡ get_or now i None → Stands was (get_or desk i None)
  seat_next was is = subst (λ (o : Option Task). Stands o (get_or desk i None)) (sym is) (stands_at now (all_seats_told (take i desk) sofar.told) (get_or desk i None) (drop (suc i) desk) i (seats_length (take i desk) sofar.told ∙ len) here)

  pub told_next : (c : LinkSeen) (new : Option Task) (lost : Bool) (text : List ℕ) → i < length failed → text ≡ get_or texts i [] → SeatIsTold text (get_or desk i None) lost b c new → SeatsAreTold texts (i + 1) desk a c (set now i new) (set failed i lost)
  told_next c new lost text within is one =
      let last : Told = record { puts = one.puts; lost = lost } in
      let s = get_or desk i None in
      let front : take (i + 1) desk ≡ take i desk ++ s ∷ [] = take_more desk i None lt in
      let before = all_seats_told (take i desk) sofar.told in
      let at : length before ≡ i = seats_length (take i desk) sofar.told ∙ len in
      let changed : AllZip Stands (set now (length before) new) (before ++ seat_told s one.puts lost ∷ drop (suc i) desk) = stands_set now before s (seat_told s one.puts lost) (drop (suc i) desk) new here one.stands in
      let seats : all_seats_told (take (i + 1) desk) (sofar.told ++ last ∷ []) ≡ before ++ seat_told s one.puts lost ∷ [] = ap (λ (l : List (Option Talk)). all_seats_told l (sofar.told ++ last ∷ [])) front ∙ seats_more texts 0 (take i desk) sofar.told s last sofar.lawful in
      let more : suc i ≡ i + 1 = omega arith in
      let whole : all_seats_told (take (i + 1) desk) (sofar.told ++ last ∷ []) ++ drop (i + 1) desk ≡ before ++ seat_told s one.puts lost ∷ drop (suc i) desk =
      (λ j. seats j ++ drop (sym more j) desk) ∙ append_assoc before (seat_told s one.puts lost ∷ []) (drop (suc i) desk) in
      let place : i ≡ 0 + length (take i desk) = omega (arith, len) in
      record {
        told = sofar.told ++ last ∷ [];
        lawful = subst (λ (l : List (Option Talk)). AreTold texts 0 l (sofar.told ++ last ∷ [])) (sym front) (are_more texts 0 (take i desk) sofar.told s last sofar.lawful (subst (λ (l : List ℕ). IsToldOf l s one.puts lost) (is ∙ ap (λ (n : ℕ). get_or texts n []) place) one.lawful));
        link = subst (λ (ds : List Done). DidAll ds a c) (sym (ap (λ (l : List (Option Talk)). all_calls_told l (sofar.told ++ last ∷ [])) front ∙ calls_more texts 0 (take i desk) sofar.told s last sofar.lawful)) (did_both _ _ a b c sofar.link one.link);
        stands = subst (λ (l : List (Option Talk)). AllZip Stands (set now i new) l) (sym whole) (subst (λ (n : ℕ). AllZip Stands (set now n new) (before ++ seat_told s one.puts lost ∷ drop (suc i) desk)) at changed);
        flags = take_more_set failed i lost within ∙ ap (λ (l : List Bool). l ++ lost ∷ []) sofar.flags ∙ sym (map-append (λ (t : Told). t.lost) sofar.told (last ∷ []));
      }

pub told_first : (texts : List (List ℕ)) (desk : List (Option Talk)) (a : LinkSeen) (now : List (Option Task)) (failed : List Bool) → StandAll now desk → SeatsAreTold texts 0 desk a a now failed
told_first texts desk a now failed stands = record { told = []; lawful = tt; link = Nothing a; stands = stands; flags = refl }

pub told_whole : (texts : List (List ℕ)) (i : ℕ) (desk : List (Option Talk)) (a b : LinkSeen) (now : List (Option Task)) (failed : List Bool) → i ≡ length desk → SeatsAreTold texts i desk a b now failed → SeatsAreTold texts (length desk) desk a b now failed
told_whole texts i desk a b now failed is h = subst (λ (n : ℕ). SeatsAreTold texts n desk a b now failed) is h
