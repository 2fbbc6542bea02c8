-- Reading one console after another.
use Rattle.std.specs.Prelude.{Bool, true, false, take, drop, length, get_or, set, Option, Some, None}
use Rattle.std.specs.List.{AllZip}
use Rattle.std.proofs.Math.Seq.{drop-cons, take-append-add}
use Rattle.std.proofs.Common.{◌≡◌, ◌≢◌, ℕ, zero, suc, ◌+◌, ◌<◌, List, [], ◌∷◌, ◌++◌, refl, sym, ◌∙◌, ap, subst, arith, inl, inr}
use Rattle.std.proofs.lemmas.Bool.{cases_eq, true≢false}
use Rattle.std.proofs.lemmas.List.{append_assoc, append-nil, take_more, take-append-drop, length-take-le, get_or-set_same, get_or-set_other}
use Rattle.ctss_types.specs.declared.script.Timed.{Timed}
use Rattle.console_link.specs.Links.{LinkSeen, Done}
use Rattle.console_server.specs.declared.tasks.Task.{Task}
use Rattle.live_core.specs.Core.{CoreCall}
use Rattle.console_server.specs.Given.{IsGiven}
use Rattle.console_server.specs.Readings.{DidAll, Nothing}
use Rattle.console_server.specs.Turns.{Talk, HeardOf, calls_heard, events_heard, seat_after, IsHeard, IsHeardPart, all_calls_heard, all_events_heard, all_seats_after, AreHeard, AreHeardUntil}
use Rattle.console_server.specs.Seats.{Stands, SeatIsOpen, SeatIsHeard, SeatIsHeardPart, IsNotOf, IsOther, KeepsSeat, AreSeated, StandAll, SeatsAreHeard, AreHeardPart}
use Rattle.console_server.proofs.Following.{did_both, given_both}
use Rattle.console_server.proofs.SeatLaws.{nothing_given}

still_open : (before after : ℕ → Bool) (t was : Option Task) → IsOther t was → ((k : ℕ) → IsNotOf was k → after k ≡ before k) → SeatIsOpen before t → SeatIsOpen after t
still_open before after None was other same h = tt
still_open before after (Some t) was other same h = same t.id other ∙ h

not_some : {X : Type 0} {t : Task} → Some t ≡ None → X
not_some {X} {t} is = absurd (subst (λ (o : Option Task). IsSome_of o) is tt)
  where
    IsSome_of : Option Task → Type 0
    IsSome_of None = ⊥
    IsSome_of (Some u) = Unit {0}

keeps_first : (was new t : Option Task) → KeepsSeat was new → IsOther was t → IsOther new t
keeps_first was None t k h = tt
keeps_first None (Some n) t k h = not_some k
keeps_first (Some w) (Some n) t k h = subst (λ (i : ℕ). IsNotOf t i) (sym k) h

keeps_second : (was new t : Option Task) → KeepsSeat was new → IsOther t was → IsOther t new
keeps_second was new None k h = tt
keeps_second was None (Some u) k h = tt
keeps_second None (Some n) (Some u) k h = not_some k
keeps_second (Some w) (Some n) (Some u) k h = subst (λ (i : ℕ). u.id ≢ i) (sym k) h

-- one seat was read, and all are seated as before
pub seated_next : (before after : ℕ → Bool) (seats : List (Option Task)) (i : ℕ) (was new : Option Task) → i < length seats → was ≡ get_or seats i None → AreSeated before seats →
    SeatIsOpen after new → ((k : ℕ) → IsNotOf was k → after k ≡ before k) → KeepsSeat was new → AreSeated after (set seats i new)
seated_next before after seats i was new lt is s ours same keeps =
    record {
      opens = λ c. elim (cases_eq c i) [
        | inl e ↦ subst (SeatIsOpen after) (sym (at_i c e)) ours
        | inr ne ↦ subst (SeatIsOpen after) (sym (at_other c ne)) (still_open before after (get_or seats c None) was (subst (λ (o : Option Task). IsOther (get_or seats c None) o) (sym is) (s.others c i ne)) same (s.opens c))
      ];
      others = λ c d ne. elim (cases_eq c i) [
        | inl e ↦
            let apart : d ≢ i = λ f. ne (e ∙ sym f) in
            subst (λ (o : Option Task). IsOther o (get_or (set seats i new) d None)) (sym (at_i c e))
            (subst (λ (o : Option Task). IsOther new o) (sym (at_other d apart))
            (keeps_first was new (get_or seats d None) keeps (subst (λ (o : Option Task). IsOther o (get_or seats d None)) (sym is) (s.others i d (λ f. apart (sym f))))))
        | inr other ↦
            subst (λ (o : Option Task). IsOther o (get_or (set seats i new) d None)) (sym (at_other c other))
            (elim (cases_eq d i) [
              | inl e ↦ subst (λ (o : Option Task). IsOther (get_or seats c None) o) (sym (at_i d e)) (keeps_second was new (get_or seats c None) keeps (subst (λ (o : Option Task). IsOther (get_or seats c None) o) (sym is) (s.others c i other)))
              | inr apart ↦ subst (λ (o : Option Task). IsOther (get_or seats c None) o) (sym (at_other d apart)) (s.others c d ne)
            ])
      ];
    }
  where
    at_i : (c : ℕ) → c ≡ i → get_or (set seats i new) c None ≡ new
    at_i c e = ap (λ (n : ℕ). get_or (set seats i new) n None) e ∙ get_or-set_same seats i new None lt

    at_other : (c : ℕ) → c ≢ i → get_or (set seats i new) c None ≡ get_or seats c None
    at_other c ne = get_or-set_other seats i c new None ne

pub false_is : {X : Type 0} → true ≡ false → X
false_is h = absurd (true≢false h)

heard_more : (seats : List (Option Talk)) (hs : List HeardOf) (s : Option Talk) (h : HeardOf) → AreHeard seats hs → IsHeard s h.reads h.over → AreHeard (seats ++ s ∷ []) (hs ++ h ∷ [])
heard_more [] [] s h are is = (is, tt)
heard_more [] (x ∷ hs) s h are is = false_is are
heard_more (t ∷ seats) [] s h are is = false_is are
heard_more (t ∷ seats) (x ∷ hs) s h are is = (are.0, heard_more seats hs s h are.1 is)

until_more : (seats : List (Option Talk)) (hs : List HeardOf) (s : Option Talk) (h : HeardOf) (behind : List (Option Talk)) → AreHeard seats hs → IsHeardPart s h.reads h.over → AreHeardUntil (seats ++ s ∷ behind) (hs ++ h ∷ [])
until_more [] [] s h behind are part = part
until_more [] (x ∷ hs) s h behind are part = false_is are
until_more (t ∷ seats) [] s h behind are part = false_is are
until_more (t ∷ seats) (x ∷ []) s h behind are part = (are.0, until_more seats [] s h behind are.1 part)
until_more (t ∷ seats) (x ∷ y ∷ hs) s h behind are part = (are.0, until_more seats (y ∷ hs) s h behind are.1 part)

pub none_called : (seats : List (Option Talk)) → all_calls_heard seats [] ≡ []
none_called [] = refl
none_called (t ∷ seats) = refl

-- one console more, of which others stand behind
calls_more : (seats : List (Option Talk)) (hs : List HeardOf) (s : Option Talk) (h : HeardOf) (behind : List (Option Talk)) → AreHeard seats hs →
    all_calls_heard (seats ++ s ∷ behind) (hs ++ h ∷ []) ≡ all_calls_heard seats hs ++ calls_heard s h.reads h.over
calls_more [] [] s h behind are = ap (λ (ds : List Done). calls_heard s h.reads h.over ++ ds) (none_called behind) ∙ append-nil (calls_heard s h.reads h.over)
calls_more [] (x ∷ hs) s h behind are = false_is are
calls_more (t ∷ seats) [] s h behind are = false_is are
calls_more (t ∷ seats) (x ∷ hs) s h behind are =
    ap (λ (ds : List Done). calls_heard t x.reads x.over ++ ds) (calls_more seats hs s h behind are.1) ∙ sym (append_assoc (calls_heard t x.reads x.over) (all_calls_heard seats hs) (calls_heard s h.reads h.over))

none_heard : (tick console : ℕ) (seats : List (Option Talk)) → all_events_heard tick console seats [] ≡ []
none_heard tick console [] = refl
none_heard tick console (t ∷ seats) = refl

events_more : (tick console : ℕ) (seats : List (Option Talk)) (hs : List HeardOf) (s : Option Talk) (h : HeardOf) (behind : List (Option Talk)) → AreHeard seats hs →
    all_events_heard tick console (seats ++ s ∷ behind) (hs ++ h ∷ []) ≡ all_events_heard tick console seats hs ++ events_heard tick (console + length seats) s h.reads h.over
events_more tick console [] [] s h behind are =
    ap (λ (es : List Timed). events_heard tick console s h.reads h.over ++ es) (none_heard tick (suc console) behind)
    ∙ append-nil (events_heard tick console s h.reads h.over) ∙ ap (λ (n : ℕ). events_heard tick n s h.reads h.over) (plus_none console)
  where
    plus_none : (n : ℕ) → n ≡ n + 0
    plus_none n = omega arith
events_more tick console [] (x ∷ hs) s h behind are = false_is are
events_more tick console (t ∷ seats) [] s h behind are = false_is are
events_more tick console (t ∷ seats) (x ∷ hs) s h behind are =
    ap (λ (es : List Timed). events_heard tick console t x.reads x.over ++ es) (events_more tick (suc console) seats hs s h behind are.1 ∙ ap (λ (n : ℕ). all_events_heard tick (suc console) seats hs ++ events_heard tick n s h.reads h.over) (one_more console (length seats)))
    ∙ sym (append_assoc (events_heard tick console t x.reads x.over) (all_events_heard tick (suc console) seats hs) (events_heard tick (console + suc (length seats)) s h.reads h.over))
  where
    one_more : (a b : ℕ) → suc a + b ≡ a + suc b
    one_more a b = omega arith

seats_more : (seats : List (Option Talk)) (hs : List HeardOf) (s : Option Talk) (h : HeardOf) → AreHeard seats hs → all_seats_after (seats ++ s ∷ []) (hs ++ h ∷ []) ≡ all_seats_after seats hs ++ seat_after s h.reads h.over ∷ []
seats_more [] [] s h are = refl
seats_more [] (x ∷ hs) s h are = false_is are
seats_more (t ∷ seats) [] s h are = false_is are
seats_more (t ∷ seats) (x ∷ hs) s h are = ap (λ (l : List (Option Talk)). seat_after t x.reads x.over ∷ l) (seats_more seats hs s h are.1)

seats_length : (seats : List (Option Talk)) (hs : List HeardOf) → AreHeard seats hs → length (all_seats_after seats hs) ≡ length seats
seats_length [] [] are = refl
seats_length [] (x ∷ hs) are = refl
seats_length (t ∷ seats) [] are = refl
seats_length (t ∷ seats) (x ∷ hs) are = ap suc (seats_length seats hs are.1)

-- the seat behind so many
pub stands_at : (now : List (Option Task)) (ps : List (Option Talk)) (q : Option Talk) (qs : List (Option Talk)) (i : ℕ) → length ps ≡ i → AllZip Stands now (ps ++ q ∷ qs) → Stands (get_or now i None) q
stands_at [] [] q qs i len h = absurd h
stands_at [] (p ∷ ps) q qs i len h = absurd h
stands_at (x ∷ now) [] q qs i len h = subst (λ (n : ℕ). Stands (get_or (x ∷ now) n None) q) len h.0
stands_at (x ∷ now) (p ∷ ps) q qs i len h = subst (λ (n : ℕ). Stands (get_or (x ∷ now) n None) q) len (stands_at now ps q qs (length ps) refl h.1)

pub stands_set : (now : List (Option Task)) (ps : List (Option Talk)) (q r : Option Talk) (qs : List (Option Talk)) (new : Option Task) → AllZip Stands now (ps ++ q ∷ qs) → Stands new r → AllZip Stands (set now (length ps) new) (ps ++ r ∷ qs)
stands_set [] [] q r qs new h s = absurd h
stands_set [] (p ∷ ps) q r qs new h s = absurd h
stands_set (x ∷ now) [] q r qs new h s = (s, h.1)
stands_set (x ∷ now) (p ∷ ps) q r qs new h s = (h.0, stands_set now ps q r qs new h.1 s)

pub any_default : {X : Type 0} (xs : List X) (i : ℕ) (d e : X) → i < length xs → get_or xs i d ≡ get_or xs i e
any_default [] i d e lt = absurd (omega (arith, lt))
any_default (x ∷ xs) zero d e lt = refl
any_default (x ∷ xs) (suc i) d e lt = any_default xs i d e (omega (arith, lt))

module _ {C : Type 0} (goes : C → List CoreCall → C → Type 0) (none : (a : C) → goes a [] a) (on : (a b c : C) (hs gs : List CoreCall) → goes a hs b → goes b gs c → goes a (hs ++ gs) c) where
  module _ (tick i : ℕ) (desk : List (Option Talk)) (a b : LinkSeen) (p q : C) (x y : List Timed) (now : List (Option Task)) (lt : i < length desk) (sofar : SeatsAreHeard goes tick i desk a b p q x y now) where
    len : length (take i desk) ≡ i
    len = length-take-le i desk (omega (arith, lt))

    rest : drop i desk ≡ get_or desk i None ∷ drop (suc i) desk
    rest = drop-cons desk i None lt

    here : AllZip Stands now (all_seats_after (take i desk) sofar.heard ++ get_or desk i None ∷ drop (suc i) desk)
    here = subst (λ (l : List (Option Talk)). AllZip Stands now (all_seats_after (take i desk) sofar.heard ++ l)) rest sofar.stands

    -- the seat that comes next is still that of the beginning
    pub stands_next : (was : Option Task) → was ≡ get_or now i None → Stands was (get_or desk i None)
    stands_next was is = subst (λ (o : Option Task). Stands o (get_or desk i None)) (sym is) (stands_at now (all_seats_after (take i desk) sofar.heard) (get_or desk i None) (drop (suc i) desk) i (seats_length (take i desk) sofar.heard sofar.lawful ∙ len) here)

    -- one console more was read
    pub heard_next : (c : LinkSeen) (r : C) (z : List Timed) (new : Option Task) (console : ℕ) → console ≡ i + 1 → SeatIsHeard goes tick console (get_or desk i None) b c q r y z new → SeatsAreHeard goes tick (i + 1) desk a c p r x z (set now i new)
    heard_next c r z new console is one =
        let last : HeardOf = record { reads = one.reads; over = one.over } in
        let s = get_or desk i None in
        let front : take (i + 1) desk ≡ take i desk ++ s ∷ [] = take_more desk i None lt in
        let at : console ≡ 1 + length (take i desk) = omega (arith, is, len) in
        record {
          heard = sofar.heard ++ last ∷ [];
          lawful = subst (λ (l : List (Option Talk)). AreHeard l (sofar.heard ++ last ∷ [])) (sym front) (heard_more (take i desk) sofar.heard s last sofar.lawful one.lawful);
          link = subst (λ (ds : List Done). DidAll ds a c) (sym (ap (λ (l : List (Option Talk)). all_calls_heard l (sofar.heard ++ last ∷ [])) front ∙ calls_more (take i desk) sofar.heard s last [] sofar.lawful)) (did_both _ _ a b c sofar.link one.link);
          core = subst (λ (es : List Timed). IsGiven goes es p r x z) (sym (ap (λ (l : List (Option Talk)). all_events_heard tick 1 l (sofar.heard ++ last ∷ [])) front ∙ events_more tick 1 (take i desk) sofar.heard s last [] sofar.lawful ∙ ap (λ (n : ℕ). all_events_heard tick 1 (take i desk) sofar.heard ++ events_heard tick n s one.reads one.over) (sym at))) (given_both goes none on _ _ p q r x y z sofar.core one.core);
          stands = after;
        }
      where
        after : AllZip Stands (set now i new) (all_seats_after (take (i + 1) desk) (sofar.heard ++ (record { reads = one.reads; over = one.over }) ∷ []) ++ drop (i + 1) desk)
        after =
            let last : HeardOf = record { reads = one.reads; over = one.over } in
            let s = get_or desk i None in
            let before = all_seats_after (take i desk) sofar.heard in
            let changed : AllZip Stands (set now (length before) new) (before ++ seat_after s one.reads one.over ∷ drop (suc i) desk) = stands_set now before s (seat_after s one.reads one.over) (drop (suc i) desk) new here one.stands in
            let at : length before ≡ i = seats_length (take i desk) sofar.heard sofar.lawful ∙ len in
            let seats : all_seats_after (take (i + 1) desk) (sofar.heard ++ last ∷ []) ≡ before ++ seat_after s one.reads one.over ∷ [] = ap (λ (l : List (Option Talk)). all_seats_after l (sofar.heard ++ last ∷ [])) (take_more desk i None lt) ∙ seats_more (take i desk) sofar.heard s last sofar.lawful in
            let more : suc i ≡ i + 1 = omega arith in
            let whole : all_seats_after (take (i + 1) desk) (sofar.heard ++ last ∷ []) ++ drop (i + 1) desk ≡ before ++ seat_after s one.reads one.over ∷ drop (suc i) desk =
            (λ j. seats j ++ drop (sym more j) desk) ∙ append_assoc before (seat_after s one.reads one.over ∷ []) (drop (suc i) desk) in
            subst (λ (l : List (Option Talk)). AllZip Stands (set now i new) l) (sym whole) (subst (λ (n : ℕ). AllZip Stands (set now n new) (before ++ seat_after s one.reads one.over ∷ drop (suc i) desk)) at changed)

    -- memory lacked while one console more was read
    pub heard_part : (c : LinkSeen) (r : C) (z : List Timed) (console : ℕ) → console ≡ i + 1 → SeatIsHeardPart goes tick console (get_or desk i None) b c q r y z → AreHeardPart goes tick desk a c p r x z
    heard_part c r z console is one =
        let last : HeardOf = record { reads = one.reads; over = one.over } in
        let s = get_or desk i None in
        let n = one.core.0 in
        let front = all_events_heard tick 1 (take i desk) sofar.heard in
        let back = events_heard tick console s one.reads one.over in
        let at : console ≡ 1 + length (take i desk) = omega (arith, is, len) in
        let all : desk ≡ take i desk ++ s ∷ drop (suc i) desk = sym (take-append-drop i desk) ∙ ap (λ (l : List (Option Talk)). take i desk ++ l) rest in
        let both : all_events_heard tick 1 desk (sofar.heard ++ last ∷ []) ≡ front ++ back =
        ap (λ (l : List (Option Talk)). all_events_heard tick 1 l (sofar.heard ++ last ∷ [])) all ∙ events_more tick 1 (take i desk) sofar.heard s last (drop (suc i) desk) sofar.lawful ∙ ap (λ (k : ℕ). front ++ events_heard tick k s one.reads one.over) (sym at) in
        let calls : all_calls_heard desk (sofar.heard ++ last ∷ []) ≡ all_calls_heard (take i desk) sofar.heard ++ calls_heard s one.reads one.over =
        ap (λ (l : List (Option Talk)). all_calls_heard l (sofar.heard ++ last ∷ [])) all ∙ calls_more (take i desk) sofar.heard s last (drop (suc i) desk) sofar.lawful in
        record {
          heard = sofar.heard ++ last ∷ [];
          lawful = subst (λ (l : List (Option Talk)). AreHeardUntil l (sofar.heard ++ last ∷ [])) (sym all) (until_more (take i desk) sofar.heard s last (drop (suc i) desk) sofar.lawful one.lawful);
          link = subst (λ (ds : List Done). DidAll ds a c) (sym calls) (did_both _ _ a b c sofar.link one.link);
          core = (length front + n, subst (λ (es : List Timed). IsGiven goes es p r x z) (sym (ap (take (length front + n)) both ∙ take-append-add front back n)) (given_both goes none on front (take n back) p q r x y z sofar.core one.core.1));
        }

  pub heard_first : (tick : ℕ) (desk : List (Option Talk)) (a : LinkSeen) (p : C) (x : List Timed) (now : List (Option Task)) → StandAll now desk → SeatsAreHeard goes tick 0 desk a a p p x x now
  heard_first tick desk a p x now stands = record { heard = []; lawful = tt; link = Nothing a; core = nothing_given goes none on p x; stands = stands }

  pub heard_whole : (tick i : ℕ) (desk : List (Option Talk)) (a b : LinkSeen) (p q : C) (x y : List Timed) (now : List (Option Task)) → i ≡ length desk → SeatsAreHeard goes tick i desk a b p q x y now → SeatsAreHeard goes tick (length desk) desk a b p q x y now
  heard_whole tick i desk a b p q x y now is h = subst (λ (n : ℕ). SeatsAreHeard goes tick n desk a b p q x y now) is h
