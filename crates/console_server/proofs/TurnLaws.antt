-- A whole turn, of its parts.
use Rattle.std.specs.Prelude.{Bool, true, false, map, take, drop, length, get_or, Option, None}
use Rattle.std.proofs.Math.Seq.{take-length, drop-length, take-append_seam}
use Rattle.std.proofs.Common.{◌≡◌, ℕ, suc, ◌+◌, ◌*◌, ◌<◌, List, [], ◌∷◌, ◌++◌, sym, ◌∙◌, ap, subst, arith}
use Rattle.std.proofs.lemmas.List.{append_assoc, append-nil, map-append, take_all, take_more, take-append-drop}
use Rattle.ctss_types.specs.declared.script.Timed.{Timed}
use Rattle.console_link.specs.Links.{LinkSeen, Done, Did, DidWait}
use Rattle.console_server.specs.declared.seating.SeatingFault.{SeatingFault}
use Rattle.console_server.specs.declared.tasks.Task.{Task}
use Rattle.live_core.specs.Core.{CoreSeen, CoreCall, Took, Went, WentTo}
use Rattle.console_server.specs.Given.{IsGiven, IsGivenPart}
use Rattle.console_server.specs.Readings.{DidAll, Then}
use Rattle.console_server.specs.Turns.{Talk, Desk, hangs, dials, seated, calls_accepted, last_accept, all_calls_heard, all_events_heard, all_seats_after, AreHeard, all_calls_told, all_seats_told, AreTold}
use Rattle.console_server.specs.Seats.{StandAll, SeatsAreHeard, SeatsAreTold, AreAccepted, AcceptsAreCut}
use Rattle.console_server.specs.Done.{IsDone}
use Rattle.console_server.proofs.Following.{did_both, given_both}

hangs_both : (tick console : ℕ) (xs ys : List Bool) → hangs tick console (xs ++ ys) ≡ hangs tick console xs ++ hangs tick (console + length xs) ys
hangs_both tick console [] ys = ap (λ (n : ℕ). hangs tick n ys) (plus_none console)
  where
    plus_none : (n : ℕ) → n ≡ n + 0
    plus_none n = omega arith
hangs_both tick console (true ∷ xs) ys = ap (λ (l : List Timed). hangs tick console (true ∷ []) ++ l) (hangs_both tick (suc console) xs ys ∙ ap (λ (n : ℕ). hangs tick (suc console) xs ++ hangs tick n ys) (plus_suc console (length xs)))
  where
    plus_suc : (a b : ℕ) → suc a + b ≡ a + suc b
    plus_suc a b = omega arith
hangs_both tick console (false ∷ xs) ys = hangs_both tick (suc console) xs ys ∙ ap (λ (n : ℕ). hangs tick (suc console) xs ++ hangs tick n ys) (plus_suc console (length xs))
  where
    plus_suc : (a b : ℕ) → suc a + b ≡ a + suc b
    plus_suc a b = omega arith

pub hangs_next : (tick i console : ℕ) (failed : List Bool) (is_lost : Bool) → i < length failed → is_lost ≡ get_or failed i false → console ≡ i + 1 → length (take i failed) ≡ i →
    hangs tick 1 (take (i + 1) failed) ≡ hangs tick 1 (take i failed) ++ hangs tick console (is_lost ∷ [])
hangs_next tick i console failed is_lost lt is at len =
    ap (hangs tick 1) (take_more failed i false lt) ∙ hangs_both tick 1 (take i failed) (get_or failed i false ∷ [])
    ∙ (λ j. hangs tick 1 (take i failed) ++ hangs tick (place j) (sym is j ∷ []))
  where
    place : 1 + length (take i failed) ≡ console
    place = omega (arith, at, len)

module _ {C : Type 0} (goes : C → List CoreCall → C → Type 0) (none : (a : C) → goes a [] a) (on : (a b c : C) (hs gs : List CoreCall) → goes a hs b → goes b gs c → goes a (hs ++ gs) c) (see : C → CoreSeen) where
  pub turn_done : (number : ℕ) (desk : Desk) (a b c d e : LinkSeen) (p q r s t : C) (x y z w : List Timed) (one two three : List (Option Task)) (failed : List Bool) →
      Did (DidWait 10 false) a b →
      IsGiven goes (hangs (1000 * number) 1 desk.failed) p q x y →
      (acc : AreAccepted goes (1000 * number) (see p).texts desk.seats b c q r y z one) →
      (hs : SeatsAreHeard goes (1000 * number) (length (seated (see p).texts desk.seats acc.ids)) (seated (see p).texts desk.seats acc.ids) c d r s z w two) →
      goes s (Went (1000 * (number + 1)) None ∷ []) t →
      WentTo None (see p) (see t) →
      (ts : SeatsAreTold (see t).texts (length (all_seats_after (seated (see p).texts desk.seats acc.ids) hs.heard)) (all_seats_after (seated (see p).texts desk.seats acc.ids) hs.heard) d e three failed) →
      length failed ≡ length (all_seats_after (seated (see p).texts desk.seats acc.ids) hs.heard) →
      IsDone goes see number desk a e p t x w three failed
  turn_done number desk a b c d e p q r s t x y z w one two three failed waited hung acc hs last went ts long =
      let tick = 1000 * number in
      let texts = (see p).texts in
      let first = seated texts desk.seats acc.ids in
      let second = all_seats_after first hs.heard in
      let all_first : take (length first) first ≡ first = take-length first in
      let all_second : take (length second) second ≡ second = take-length second in
      let heard_calls : DidAll (all_calls_heard first hs.heard) c d = subst (λ (l : List (Option Talk)). DidAll (all_calls_heard l hs.heard) c d) all_first hs.link in
      let told_calls : DidAll (all_calls_told second ts.told) d e = subst (λ (l : List (Option Talk)). DidAll (all_calls_told l ts.told) d e) all_second ts.link in
      let taken_calls : DidAll (calls_accepted texts desk.seats acc.ids ++ (last_accept acc.ids ++ (all_calls_heard first hs.heard ++ all_calls_told second ts.told))) b e =
      subst (λ (l : List Done). DidAll l b e) (append_assoc (calls_accepted texts desk.seats acc.ids) (last_accept acc.ids) (all_calls_heard first hs.heard ++ all_calls_told second ts.told))
      (did_both _ _ b c e acc.link (did_both _ _ c d e heard_calls told_calls)) in
      let heard_events : IsGiven goes (all_events_heard tick 1 first hs.heard) r s z w = subst (λ (l : List (Option Talk)). IsGiven goes (all_events_heard tick 1 l hs.heard) r s z w) all_first hs.core in
      let es = hangs tick 1 desk.failed in
      let fs = dials tick texts desk.seats acc.ids in
      let gs = all_events_heard tick 1 first hs.heard in
      let events : map Took es ++ (map Took fs ++ (map Took gs ++ Went (1000 * (number + 1)) None ∷ [])) ≡ map Took (es ++ (fs ++ gs)) ++ Went (1000 * (number + 1)) None ∷ [] =
      ap (λ (l : List CoreCall). map Took es ++ l) (sym (append_assoc (map Took fs) (map Took gs) (Went (1000 * (number + 1)) None ∷ [])))
      ∙ sym (append_assoc (map Took es) (map Took fs ++ map Took gs) (Went (1000 * (number + 1)) None ∷ []))
      ∙ ap (λ (l : List CoreCall). l ++ Went (1000 * (number + 1)) None ∷ []) (ap (λ (l : List CoreCall). map Took es ++ l) (sym (map-append Took fs gs)) ∙ sym (map-append Took es (fs ++ gs))) in
      record {
        turn = record { accepts = acc.ids; heard = hs.heard; told = ts.told };
        lawful = record {
          accepts = acc.few;
          heard = subst (λ (l : List (Option Talk)). AreHeard l hs.heard) all_first hs.lawful;
          told = subst (λ (l : List (Option Talk)). AreTold (see t).texts 0 l ts.told) all_second ts.lawful;
        };
        link = Then (DidWait 10 false) _ a b e waited taken_calls;
        core = subst (λ (l : List CoreCall). goes p l t) events (on p q t _ _ hung.core (on q r t _ _ acc.core.core (on r s t _ _ heard_events.core last)));
        noted = heard_events.noted ∙ ap (λ (l : List Timed). l ++ gs) (acc.core.noted ∙ ap (λ (l : List Timed). l ++ fs) hung.noted) ∙ append_assoc (x ++ es) fs gs ∙ append_assoc x es (fs ++ gs);
        went = went;
        seats_are = subst (λ (l : List (Option Talk)). StandAll three l) (append-nil (all_seats_told second ts.told)) ((λ (l : StandAll three (all_seats_told (take (length second) second) ts.told ++ drop (length second) second)). subst (λ (k : List (Option Talk)). StandAll three (all_seats_told second ts.told ++ k)) (drop-length second) (subst (λ (k : List (Option Talk)). StandAll three (all_seats_told k ts.told ++ drop (length second) second)) all_second l)) ts.stands);
        failed_are = sym (take_all (length second) failed (omega (arith, long))) ∙ ts.flags;
      }

  -- after the last console the seats are those of all
  pub all_heard : (tick : ℕ) (desk : List (Option Talk)) (a b : LinkSeen) (p q : C) (x y : List Timed) (now : List (Option Task)) → (hs : SeatsAreHeard goes tick (length desk) desk a b p q x y now) → StandAll now (all_seats_after desk hs.heard)
  all_heard tick desk a b p q x y now hs =
      subst (λ (l : List (Option Talk)). StandAll now l) (append-nil (all_seats_after desk hs.heard)) ((λ (l : StandAll now (all_seats_after (take (length desk) desk) hs.heard ++ drop (length desk) desk)). subst (λ (k : List (Option Talk)). StandAll now (all_seats_after desk hs.heard ++ k)) (drop-length desk) (subst (λ (k : List (Option Talk)). StandAll now (all_seats_after k hs.heard ++ drop (length desk) desk)) (take-length desk) l)) hs.stands)

  pub given_as : (es fs : List Timed) (p q : C) (x y : List Timed) → es ≡ fs → IsGiven goes es p q x y → IsGiven goes fs p q x y
  given_as es fs p q x y is h = subst (λ (l : List Timed). IsGiven goes l p q x y) is h

  pub hung_as : (tick : ℕ) (fs gs : List Bool) (p q : C) (x y : List Timed) → fs ≡ gs → IsGiven goes (hangs tick 1 fs) p q x y → IsGiven goes (hangs tick 1 gs) p q x y
  hung_as tick fs gs p q x y is h = subst (λ (l : List Bool). IsGiven goes (hangs tick 1 l) p q x y) is h

  pub accepted_as : (tick : ℕ) (s t : CoreSeen) (desk : List (Option Talk)) (a b : LinkSeen) (p q : C) (x y : List Timed) (now : List (Option Task)) → s ≡ t → AreAccepted goes tick s.texts desk a b p q x y now → AreAccepted goes tick t.texts desk a b p q x y now
  accepted_as tick s t desk a b p q x y now is h = subst (λ (u : CoreSeen). AreAccepted goes tick u.texts desk a b p q x y now) is h

  pub went_as : (s t u : CoreSeen) → s ≡ t → WentTo None s u → WentTo None t u
  went_as s t u is h = subst (λ (v : CoreSeen). WentTo None v u) is h

  -- memory lacked for the next of these
  pub hangs_short : (tick i : ℕ) (failed : List Bool) (p q r : C) (x y z : List Timed) → IsGiven goes (hangs tick 1 (take i failed)) p q x y → IsGiven goes [] q r y z → IsGivenPart goes (hangs tick 1 failed) p r x z
  hangs_short tick i failed p q r x y z before last =
      let front = hangs tick 1 (take i failed) in
      let back = hangs tick (1 + length (take i failed)) (drop i failed) in
      let both : hangs tick 1 failed ≡ front ++ back = ap (hangs tick 1) (sym (take-append-drop i failed)) ∙ hangs_both tick 1 (take i failed) (drop i failed) in
      (length front, subst (λ (l : List Timed). IsGiven goes l p r x z) (append-nil front ∙ sym (ap (take (length front)) both ∙ take-append_seam front back)) (given_both goes none on front [] p q r x y z before last))

  pub hung_part_as : (tick : ℕ) (fs gs : List Bool) (p q : C) (x y : List Timed) → fs ≡ gs → IsGivenPart goes (hangs tick 1 fs) p q x y → IsGivenPart goes (hangs tick 1 gs) p q x y
  hung_part_as tick fs gs p q x y is h = subst (λ (l : List Bool). IsGivenPart goes (hangs tick 1 l) p q x y) is h

  pub dialled_as : (tick : ℕ) (s t : CoreSeen) (desk : List (Option Talk)) (fault : SeatingFault) (a b : LinkSeen) (p q : C) (x y : List Timed) → s ≡ t → AcceptsAreCut goes tick s.texts desk fault a b p q x y → AcceptsAreCut goes tick t.texts desk fault a b p q x y
  dialled_as tick s t desk fault a b p q x y is h = subst (λ (u : CoreSeen). AcceptsAreCut goes tick u.texts desk fault a b p q x y) is h
