-- What a turn leaves that was not done to its end.
use Rattle.std.specs.Prelude.{Bool, true, false, map, length, get_or, set, take, drop, replicate, Option, Some, None}
use Rattle.std.proofs.Math.Seq.{take-append_seam, take-append-add, take-length}
use Rattle.std.proofs.Common.{◌≡◌, ◌≢◌, ℕ, zero, suc, ◌+◌, ◌*◌, ◌<◌, List, [], ◌∷◌, ◌++◌, refl, sym, ◌∙◌, ap, subst, arith}
use Rattle.std.proofs.lemmas.List.{append_assoc, append-nil, take_more, take-append-drop}
use Rattle.ctss_types.specs.declared.script.Timed.{Timed}
use Rattle.console_link.specs.Links.{LinkSeen, Done, Did, DidWait, DidClose}
use Rattle.live_core.specs.Core.{CoreSeen, CoreCall, Took}
use Rattle.console_server.specs.declared.fault.ServeFault.{ServeFault}
use Rattle.console_server.specs.declared.fault.ServeFault.TheVariants as serve
use Rattle.console_server.specs.declared.tasks.Task.{Task}
use Rattle.console_server.specs.Given.{IsGiven, IsGivenPart}
use Rattle.console_server.specs.Readings.{DidAll, Nothing, Then}
use Rattle.console_server.specs.Turns.{Talk, Desk, HeardOf, TurnAnswers, AreHeard, hangs, dials, seated, seats_to_read, calls_accepted, last_accept, all_calls_heard, all_events_heard, events_of_turn}
use Rattle.console_server.specs.Seats.{AreSeated, SeatIsOpen, IsOther, SeatsAreHeard, AreAccepted, AreDialled, AreDialledPart, AreHeardPart}
use Rattle.console_server.specs.Server.{CutAt, Waiting, Hanging, Accepting, Dialling, Reading, Advancing, calls_until, GivenUntil, ends_with, IsCutTurn, IsCut, closes, closes_of}
use Rattle.console_server.proofs.Following.{given_both, did_both}
use Rattle.console_server.proofs.SeatLaws.{nothing_given}

-- a beginning of a list is one of a longer list too
part_of : (n : ℕ) (xs ys : List Timed) → take n xs ≡ take (length (take n xs)) (xs ++ ys)
part_of n xs ys = sym (ap (take (length (take n xs))) both ∙ take-append_seam (take n xs) (drop n xs ++ ys))
  where
    both : xs ++ ys ≡ take n xs ++ (drop n xs ++ ys)
    both = ap (λ (l : List Timed). l ++ ys) (sym (take-append-drop n xs)) ∙ append_assoc (take n xs) (drop n xs) ys

-- the faults of the core
abbrev pub IsOfCore : ServeFault → Type 0
IsOfCore serve.Link = ⊥
IsOfCore serve.Drum = Unit {0}
IsOfCore serve.Disk = Unit {0}
IsOfCore serve.NoMemory = Unit {0}

not_link : (fault : ServeFault) → IsOfCore fault → fault ≢ serve.Link
not_link fault h is = subst IsOfCore is h

again : (n : ℕ) (xs : List Timed) → take n xs ≡ take (length (take n xs)) xs
again n xs = part_of n xs [] ∙ ap (take (length (take n xs))) (append-nil xs)

begins_longer : (now xs ys : List Timed) → now ≡ take (length now) xs → now ≡ take (length now) (xs ++ ys)
begins_longer now xs ys is = is ∙ part_of (length now) xs ys ∙ ap (λ (l : List Timed). take (length l) (xs ++ ys)) (sym is)

whole_begins : (now xs ys : List Timed) → now ≡ xs → now ≡ take (length now) (xs ++ ys)
whole_begins now xs ys is = is ∙ sym (take-append_seam xs ys) ∙ ap (λ (l : List Timed). take (length l) (xs ++ ys)) (sym is)

whole_is : (now xs : List Timed) → now ≡ xs → now ≡ take (length now) xs
whole_is now xs is = is ∙ sym (take-length xs) ∙ ap (λ (l : List Timed). take (length l) xs) (sym is)

-- what was given until then is a beginning of the turn's events
part_until : (tick : ℕ) (texts : List (List ℕ)) (desk : Desk) (turn : TurnAnswers) (at : CutAt) (events : List Timed) → GivenUntil tick texts desk turn at events → events ≡ take (length events) (events_of_turn tick texts desk turn)
part_until tick texts desk turn Waiting events h = h ∙ sym (ap (λ (l : List Timed). take (length l) (events_of_turn tick texts desk turn)) h)
part_until tick texts desk turn Hanging events h =
    begins_longer events (hangs tick 1 desk.failed) (dials tick texts desk.seats turn.accepts ++ all_events_heard tick 1 (seats_to_read texts desk turn) turn.heard) h
part_until tick texts desk turn Accepting events h =
    let es = hangs tick 1 desk.failed in
    let fs = dials tick texts desk.seats turn.accepts in
    let gs = all_events_heard tick 1 (seats_to_read texts desk turn) turn.heard in
    whole_begins events (es ++ fs) gs h ∙ ap (take (length events)) (append_assoc es fs gs)
part_until tick texts desk turn Dialling events h =
    let es = hangs tick 1 desk.failed in
    let fs = dials tick texts desk.seats turn.accepts in
    let gs = all_events_heard tick 1 (seats_to_read texts desk turn) turn.heard in
    begins_longer events (es ++ fs) gs h ∙ ap (take (length events)) (append_assoc es fs gs)
part_until tick texts desk turn Reading events h = h
part_until tick texts desk turn Advancing events h = whole_is events (events_of_turn tick texts desk turn) h

-- the calls of a turn up to its reads
calls_joined : (texts : List (List ℕ)) (seats : List (Option Talk)) (ids : List ℕ) (heard : List HeardOf) (b c d : LinkSeen) → DidAll (calls_accepted texts seats ids ++ last_accept ids) b c → DidAll (all_calls_heard (seated texts seats ids) heard) c d →
    DidAll (calls_accepted texts seats ids ++ (last_accept ids ++ all_calls_heard (seated texts seats ids) heard)) b d
calls_joined texts seats ids heard b c d one two =
    subst (λ (ds : List Done). DidAll ds b d) (append_assoc (calls_accepted texts seats ids) (last_accept ids) (all_calls_heard (seated texts seats ids) heard))
    (did_both (calls_accepted texts seats ids ++ last_accept ids) (all_calls_heard (seated texts seats ids) heard) b c d one two)

abbrev accepted_only : List ℕ → TurnAnswers
accepted_only ids = record { accepts = ids; heard = []; told = [] }

module _ {C : Type 0} (goes : C → List CoreCall → C → Type 0) (none : (a : C) → goes a [] a) (on : (a b c : C) (hs gs : List CoreCall) → goes a hs b → goes b gs c → goes a (hs ++ gs) c) (see : C → CoreSeen) (number : ℕ) (desk : Desk) where
  cut_by : (fault : ServeFault) (answers : TurnAnswers) (at : CutAt) (events : List Timed) (a b : LinkSeen) (p q r : C) (x y : List Timed) →
      IsCutTurn number (see p).texts desk answers at fault events → DidAll (calls_until (see p).texts desk answers at) a b → IsGiven goes events p q x y → goes q (ends_with number fault at) r →
      IsCut goes see number desk fault a b p r x y
  cut_by fault answers at events a b p q r x y cut did given last =
      record {
        answers = answers;
        at = at;
        events = events;
        cut = cut;
        link = did;
        part = part_until (1000 * number) (see p).texts desk answers at events cut.given;
        core = on p q r (map Took events) (ends_with number fault at) given.core last;
        noted = given.noted;
      }

  pub cut_waiting : (a b : LinkSeen) (p : C) (x : List Timed) → Did (DidWait 10 true) a b → IsCut goes see number desk serve.Link a b p p x x
  cut_waiting a b p x did =
      cut_by serve.Link (accepted_only []) Waiting [] a b p p p x x (record { met = refl; lawful = tt; given = refl })
      (Then (DidWait 10 true) [] a b b did (Nothing b)) (nothing_given goes none on p x) (none p)

  pub cut_hanging : (a b : LinkSeen) (p q : C) (x y : List Timed) → Did (DidWait 10 false) a b → IsGivenPart goes (hangs (1000 * number) 1 desk.failed) p q x y → IsCut goes see number desk serve.NoMemory a b p q x y
  cut_hanging a b p q x y did hung =
      let es = hangs (1000 * number) 1 desk.failed in
      cut_by serve.NoMemory (accepted_only []) Hanging (take hung.0 es) a b p q q x y (record { met = refl; lawful = tt; given = again hung.0 es })
      (Then (DidWait 10 false) [] a b b did (Nothing b)) hung.1 (none q)

  pub cut_accepting : (a b c : LinkSeen) (p q r : C) (x y z : List Timed) → Did (DidWait 10 false) a b → IsGiven goes (hangs (1000 * number) 1 desk.failed) p q x y →
      AreDialled goes (1000 * number) (see p).texts desk.seats b c q r y z → IsCut goes see number desk serve.Link a c p r x z
  cut_accepting a b c p q r x y z did hung d =
      let es = hangs (1000 * number) 1 desk.failed in
      let fs = dials (1000 * number) (see p).texts desk.seats d.ids in
      cut_by serve.Link (accepted_only d.ids) Accepting (es ++ fs) a c p r r x z (record { met = refl; lawful = d.few; given = refl })
      (Then (DidWait 10 false) _ a b c did d.link) (given_both goes none on es fs p q r x y z hung d.core) (none r)

  pub cut_dialling : (a b c : LinkSeen) (p q r : C) (x y z : List Timed) → Did (DidWait 10 false) a b → IsGiven goes (hangs (1000 * number) 1 desk.failed) p q x y →
      AreDialledPart goes (1000 * number) (see p).texts desk.seats b c q r y z → IsCut goes see number desk serve.NoMemory a c p r x z
  cut_dialling a b c p q r x y z did hung d =
      let es = hangs (1000 * number) 1 desk.failed in
      let fs = dials (1000 * number) (see p).texts desk.seats d.ids in
      let n = length es + d.core.0 in
      let part : es ++ take d.core.0 fs ≡ take n (es ++ fs) = sym (take-append-add es fs d.core.0) in
      cut_by serve.NoMemory (accepted_only d.ids) Dialling (take n (es ++ fs)) a c p r r x z (record { met = refl; lawful = d.few; given = again n (es ++ fs) })
      (Then (DidWait 10 false) _ a b c did d.link)
      (subst (λ (l : List Timed). IsGiven goes l p r x z) part (given_both goes none on es (take d.core.0 fs) p q r x y z hung d.core.1)) (none r)

  pub cut_reading : (a b c d : LinkSeen) (p q r s : C) (x y z w : List Timed) (one : List (Option Task)) → Did (DidWait 10 false) a b → IsGiven goes (hangs (1000 * number) 1 desk.failed) p q x y →
      (acc : AreAccepted goes (1000 * number) (see p).texts desk.seats b c q r y z one) →
      AreHeardPart goes (1000 * number) (seated (see p).texts desk.seats acc.ids) c d r s z w → IsCut goes see number desk serve.NoMemory a d p s x w
  cut_reading a b c d p q r s x y z w one did hung acc h =
      let tick = 1000 * number in
      let texts = (see p).texts in
      let first = seated texts desk.seats acc.ids in
      let turn : TurnAnswers = record { accepts = acc.ids; heard = h.heard; told = [] } in
      let es = hangs tick 1 desk.failed in
      let fs = dials tick texts desk.seats acc.ids in
      let gs = all_events_heard tick 1 first h.heard in
      let n = length (es ++ fs) + h.core.0 in
      let part : (es ++ fs) ++ take h.core.0 gs ≡ take n (es ++ (fs ++ gs)) = sym (take-append-add (es ++ fs) gs h.core.0) ∙ ap (take n) (append_assoc es fs gs) in
      cut_by serve.NoMemory turn Reading (take n (es ++ (fs ++ gs))) a d p s s x w (record { met = refl; lawful = (acc.few, h.lawful); given = again n (es ++ (fs ++ gs)) })
      (Then (DidWait 10 false) _ a b d did (calls_joined texts desk.seats acc.ids h.heard b c d acc.link h.link))
      (subst (λ (l : List Timed). IsGiven goes l p s x w) part (given_both goes none on (es ++ fs) (take h.core.0 gs) p r s x z w (given_both goes none on es fs p q r x y z hung acc.core) h.core.1)) (none s)

  pub cut_advancing : (fault : ServeFault) (a b c d : LinkSeen) (p q r s t : C) (x y z w : List Timed) (one two : List (Option Task)) → IsOfCore fault → Did (DidWait 10 false) a b → IsGiven goes (hangs (1000 * number) 1 desk.failed) p q x y →
      (acc : AreAccepted goes (1000 * number) (see p).texts desk.seats b c q r y z one) →
      (hs : SeatsAreHeard goes (1000 * number) (length (seated (see p).texts desk.seats acc.ids)) (seated (see p).texts desk.seats acc.ids) c d r s z w two) →
      goes s (ends_with number fault Advancing) t → IsCut goes see number desk fault a d p t x w
  cut_advancing fault a b c d p q r s t x y z w one two core did hung acc hs last =
      let tick = 1000 * number in
      let texts = (see p).texts in
      let first = seated texts desk.seats acc.ids in
      let all : take (length first) first ≡ first = take-length first in
      let turn : TurnAnswers = record { accepts = acc.ids; heard = hs.heard; told = [] } in
      let es = hangs tick 1 desk.failed in
      let fs = dials tick texts desk.seats acc.ids in
      let gs = all_events_heard tick 1 first hs.heard in
      let lawful : AreHeard first hs.heard = subst (λ (l : List (Option Talk)). AreHeard l hs.heard) all hs.lawful in
      let calls : DidAll (all_calls_heard first hs.heard) c d = subst (λ (l : List (Option Talk)). DidAll (all_calls_heard l hs.heard) c d) all hs.link in
      let events : IsGiven goes gs r s z w = subst (λ (l : List (Option Talk)). IsGiven goes (all_events_heard tick 1 l hs.heard) r s z w) all hs.core in
      cut_by fault turn Advancing (es ++ (fs ++ gs)) a d p s t x w (record { met = not_link fault core; lawful = (acc.few, lawful); given = refl })
      (Then (DidWait 10 false) _ a b d did (calls_joined texts desk.seats acc.ids hs.heard b c d acc.link calls))
      (given_both goes none on es (fs ++ gs) p q s x y w hung (given_both goes none on fs gs q r s y z w acc.core events)) last

-- closing one console's connection after another
closes_end : (seats : List (Option Task)) (s : Option Task) → closes (seats ++ s ∷ []) ≡ closes seats ++ closes_of s
closes_end [] s = append-nil (closes_of s)
closes_end (t ∷ seats) s = ap (λ (l : List Done). closes_of t ++ l) (closes_end seats s) ∙ sym (append_assoc (closes_of t) (closes seats) (closes_of s))

pub closes_no_task : (s : Option Task) (a : LinkSeen) → s ≡ None → DidAll (closes_of s) a a
closes_no_task s a is = subst (λ (t : Option Task). DidAll (closes_of t) a a) (sym is) (Nothing a)

pub closes_task : (s : Option Task) (task : Task) (a b : LinkSeen) → s ≡ Some task → Did (DidClose task.id) a b → DidAll (closes_of s) a b
closes_task s task a b is did = subst (λ (t : Option Task). DidAll (closes_of t) a b) (sym is) (Then (DidClose task.id) [] a b b did (Nothing b))

pub close_next : (seats : List (Option Task)) (i : ℕ) (was : Option Task) (a b c : LinkSeen) → i < length seats → was ≡ get_or seats i None → DidAll (closes (take i seats)) a b → DidAll (closes_of was) b c → DidAll (closes (take (i + 1) seats)) a c
close_next seats i was a b c lt is before here =
    subst (λ (ds : List Done). DidAll ds a c)
    (sym (ap closes (take_more seats i None lt) ∙ closes_end (take i seats) (get_or seats i None) ∙ ap (λ (s : Option Task). closes (take i seats) ++ closes_of s) (sym is)))
    (did_both (closes (take i seats)) (closes_of was) a b c before here)

-- the seats behind those that were closed
rest_same : (now all : List (Option Task)) (i : ℕ) (new : Option Task) → i < length now → drop i now ≡ drop i all → length now ≡ length all → drop (suc i) (set now i new) ≡ drop (suc i) all
rest_same [] all i new lt same long = absurd (omega arith)
rest_same (s ∷ now) [] i new lt same long = absurd (omega (arith, long))
rest_same (s ∷ now) (t ∷ all) zero new lt same long = tail_of same
  where
    tail_of : s ∷ now ≡ t ∷ all → now ≡ all
    tail_of is = ap (drop 1) is
rest_same (s ∷ now) (t ∷ all) (suc i) new lt same long = rest_same now all i new (omega arith) same (omega (arith, long))

pub rest_next : (now all : List (Option Task)) (i : ℕ) (new : Option Task) → i < length now → drop i now ≡ drop i all → length now ≡ length all → drop (i + 1) (set now i new) ≡ drop (i + 1) all
rest_next now all i new lt same long =
    let more : suc i ≡ i + 1 = omega arith in
    subst (λ (n : ℕ). drop n (set now i new) ≡ drop n all) more (rest_same now all i new lt same long)

abbrev no_seats : List (Option Task)
no_seats = []

drop_none : (k : ℕ) → drop k no_seats ≡ no_seats
drop_none zero = refl
drop_none (suc k) = refl

pub seat_same : (now all : List (Option Task)) (i : ℕ) → i < length now → drop i now ≡ drop i all → get_or now i None ≡ get_or all i None
seat_same [] all i lt same = absurd (omega arith)
seat_same (s ∷ now) [] zero lt same = ap (λ (l : List (Option Task)). get_or l 0 None) same
seat_same (s ∷ now) [] (suc i) lt same = seat_same now [] i (omega arith) (same ∙ sym (drop_none i))
seat_same (s ∷ now) (t ∷ all) zero lt same = ap (λ (l : List (Option Task)). get_or l 0 None) same
seat_same (s ∷ now) (t ∷ all) (suc i) lt same = seat_same now all i (omega arith) same

-- consoles without a connection
abbrev no_task : Option Task
no_task = None

none_at : (n c : ℕ) → get_or (replicate n no_task) c None ≡ None
none_at zero c = refl
none_at (suc n) zero = refl
none_at (suc n) (suc c) = none_at n c

none_at_all : (seats : List (Option Task)) (c : ℕ) → seats ≡ replicate 32 no_task → get_or seats c None ≡ None
none_at_all seats c is = ap (λ (l : List (Option Task)). get_or l c None) is ∙ none_at 32 c

pub none_seated : (is_open : ℕ → Bool) (seats : List (Option Task)) → seats ≡ replicate 32 no_task → AreSeated is_open seats
none_seated is_open seats is = record {
  opens = λ c. subst (SeatIsOpen is_open) (sym (none_at_all seats c is)) tt;
  others = λ c d ne. subst (λ (s : Option Task). IsOther s (get_or seats d None)) (sym (none_at_all seats c is)) tt;
}
