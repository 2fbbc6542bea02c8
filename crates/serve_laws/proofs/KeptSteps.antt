-- What passed over a console's connections in a turn: what each sent, and what it was sent.
use Rattle.std.specs.Prelude.{Bool, true, false, nat_eq, nat_lt, min, ◌^◌, if◌then◌else◌, length, drop, get_or, Option, Some, None}
use Rattle.std.specs.List.{All}
use Rattle.std.proofs.Common.{◌≡◌, ◌≢◌, ℕ, ◌+◌, ◌-◌, ◌≤◌, List, [], ◌∷◌, ◌++◌, refl, sym, ◌∙◌, ap, subst, arith, ◌⊎◌, inl, inr, length-append}
use Rattle.std.proofs.lemmas.Bool.{cases_eq}
use Rattle.std.proofs.lemmas.List.{append_assoc, take-append-drop, drop-append-le, drop_all}
use Rattle.std.proofs.lemmas.List.Elements.{All-append, All-cons, All-nil}
use Rattle.console_link.specs.declared.link.Accepted.TheVariants as accepted
use Rattle.console_link.specs.declared.link.LinkTook.{LinkTook}
use Rattle.console_link.specs.declared.link.LinkTook.TheVariants as took
use Rattle.console_link.specs.Links.{LinkSeen, Passed, nothing_passed, Done, Did, DidAccept, DidWait}
use Rattle.live_core.specs.Core.{Grows}
use Rattle.console_server.specs.Readings.{Gave, bytes_of, DidAll, Nothing, Then}
use Rattle.console_server.specs.Turns.{Talk, Desk, TurnAnswers, IsTurn, HeardOf, Told, Wrote, sent_of, MayPut, IsPutting, IsToldOf, AreTold, end_of, talk_of, free_from, put_first, seats_with, seated, seat_after, all_seats_after, seat_told, all_seats_told, calls_of_new, calls_accepted, last_accept, all_calls_heard, all_calls_told, seats_to_read, seats_to_write, calls_of_turn, desk_after}
use Rattle.console_server.specs.Visits.{Visit}
use Rattle.serve_laws.proofs.Watching.{Watch, hung, ended, ended_if, new_visit, come, all_come, with_bytes, read, watched, none_heard, none_told, IsNow, OnNow}
use Rattle.serve_laws.proofs.AtConsole.{same, other, same_of, not_same, some_is, none_is, number_of, seat_heard, seat_sent, told_lawful, put_here, put_there}
use Rattle.serve_laws.proofs.SentSteps.{Begins, most, IsSentTo, none_sent, sent_on, sent_same, next_place, first_place}
use Rattle.serve_laws.proofs.Passing.{passed_all, passed_is, tells_still, did_split, WasGiven, given_one, given_still, new_given, new_differs, OnSeat, IsApart, all_heard_off, all_heard_on, all_told_off, all_told_on, on_heard, on_told, on_put}

-- an accept that isn't ready
pub accept_quiet : (ids : List ℕ) (k : ℕ) (p : Passed) → passed_all (last_accept ids) k p ≡ p
accept_quiet ids k p = by_test (nat_lt (length ids) 32)
  where
    by_test : (t : Bool) → passed_all (if t then DidAccept accepted.NotYet ∷ [] else []) k p ≡ p
    by_test true = refl
    by_test false = refl

no_puts : (bytes : List ℕ) (puts : List Wrote) → bytes ≡ [] → puts ≡ [] → bytes ++ sent_of puts ≡ []
no_puts bytes puts is none = (λ i. is i ++ sent_of (none i))

-- what is sent is the beginning of what may be
sent_begins : (lost : Bool) (puts : List Wrote) (may : ℕ) (rest : List ℕ) → IsPutting lost puts may rest → Begins (sent_of puts) rest
sent_begins lost [] may rest h = (rest, refl)
sent_begins lost (p ∷ puts) may rest h = by_answer (λ m r k. sent_begins lost puts m r k) p.answer h.1
  where
    by_answer : ((m : ℕ) (r : List ℕ) → IsPutting lost puts m r → Begins (sent_of puts) r) → (answer : LinkTook) → MayPut answer may rest p.bytes (IsPutting lost puts) (puts ≡ []) lost → Begins (p.bytes ++ sent_of puts) rest
    by_answer goes_on (took.Bytes n) k =
        let more = goes_on (may - n) (drop n rest) k.3 in
        (more.0, sym (take-append-drop n rest) ∙ (λ i. sym k.2 i ++ more.1 i) ∙ sym (append_assoc p.bytes (sent_of puts) more.0))
    by_answer goes_on took.NotYet k = (rest, sym (ap (λ (l : List ℕ). l ++ rest) (no_puts p.bytes puts k.0 k.2)))
    by_answer goes_on took.Failed k = (rest, sym (ap (λ (l : List ℕ). l ++ rest) (no_puts p.bytes puts k.0 k.2)))

-- what goes on from a place of a text goes on from there in a longer one
begins_longer : (place : ℕ) (ys text whole : List ℕ) → Grows text whole → Begins ys (drop place text) → Begins ys (drop place whole)
begins_longer place ys text whole grows begins = by_place (decide place (length text))
  where
    decide : (a b : ℕ) → (a ≤ b) ⊎ (b ≤ a)
    decide a b = grind arith

    by_place : (place ≤ length text) ⊎ (length text ≤ place) → Begins ys (drop place whole)
    by_place (inl le) =
        (begins.0 ++ grows.0, ap (drop place) grows.1 ∙ drop-append-le place text grows.0 le ∙ ap (λ (l : List ℕ). l ++ grows.0) begins.1 ∙ append_assoc ys begins.0 grows.0)
    by_place (inr le) = (drop place whole, ap (λ (l : List ℕ). l ++ drop place whole) (sym (none_of ys begins.0 (sym (drop_all place text le) ∙ begins.1))))
      where
        none_of : (xs more : List ℕ) → [] ≡ xs ++ more → xs ≡ []
        none_of [] more e = refl
        none_of (x ∷ xs) more e = absurd (not_cons x (xs ++ more) e)
          where
            not_cons : (y : ℕ) (zs : List ℕ) → [] ≡ y ∷ zs → ⊥
            not_cons y zs f = cc

module _ (console : ℕ) (whole : List ℕ) where
  -- what passed over a visit's connection
  pub record Carried (s : LinkSeen) (v : Visit) : Type 0 where
    pub given : WasGiven s v.id
    pub taken : (s.passed v.id).taken ≡ v.bytes
    pub sent : IsSentTo most v.place whole (s.passed v.id).sent

  pub record IsOver (s : LinkSeen) (seats : List (Option Talk)) (v : Visit) : Type 0 where
    pub carried : Carried s v
    pub apart : (j : ℕ) → IsApart v.id (get_or seats j None)

  -- it is sent its text from there on
  abbrev pub IsPlaceOf : LinkSeen → Visit → Talk → Type 0
  IsPlaceOf s v t = t.place ≡ min (v.place + length (s.passed v.id).sent) most

  -- the seat of the visit that isn't over
  abbrev pub IsSeatOf : LinkSeen → Visit → Option Talk → Type 0
  IsSeatOf s v None = Unit {0}
  IsSeatOf s v (Some t) = (t.id ≡ v.id) × IsPlaceOf s v t

  pub record IsOn (s : LinkSeen) (seats : List (Option Talk)) (v : Visit) : Type 0 where
    pub carried : Carried s v
    pub apart : (j : ℕ) → j ≢ console - 1 → IsApart v.id (get_or seats j None)
    pub seat : IsSeatOf s v (get_or seats (console - 1) None)

  pub record Kept (s : LinkSeen) (seats : List (Option Talk)) (w : Watch) : Type 0 where
    pub given : (j : ℕ) → OnSeat (WasGiven s) (get_or seats j None)
    pub past : All (IsOver s seats) w.past
    pub now : OnNow (IsOn s seats) w.now

  carried_still : (a b : LinkSeen) (v : Visit) → ((k : ℕ) → WasGiven a k → WasGiven b k) → b.passed v.id ≡ a.passed v.id → Carried a v → Carried b v
  carried_still a b v given is c =
      record {
        given = given v.id c.given;
        taken = ap (λ (p : Passed). p.taken) is ∙ c.taken;
        sent = sent_same most v.place whole (a.passed v.id).sent (b.passed v.id).sent (ap (λ (p : Passed). p.sent) is) c.sent;
      }

  seat_still : (a b : LinkSeen) (v : Visit) (o : Option Talk) → b.passed v.id ≡ a.passed v.id → IsSeatOf a v o → IsSeatOf b v o
  seat_still a b v None is h = tt
  seat_still a b v (Some t) is h = (h.0, h.1 ∙ ap (λ (p : Passed). min (v.place + length p.sent) most) (sym is))

  on_more : (Q R : ℕ → Type 0) (o : Option Talk) → ((k : ℕ) → Q k → R k) → OnSeat Q o → OnSeat R o
  on_more Q R None f h = tt
  on_more Q R (Some t) f h = f t.id h

  now_still : (P Q : Visit → Type 0) (o : Option Visit) → ((v : Visit) → P v → Q v) → OnNow P o → OnNow Q o
  now_still P Q None f h = tt
  now_still P Q (Some v) f h = f v h

  over_still : (a b : LinkSeen) (seats next : List (Option Talk)) → ((k : ℕ) → WasGiven a k → WasGiven b k) → ((k : ℕ) → ((j : ℕ) → IsApart k (get_or seats j None)) → b.passed k ≡ a.passed k) →
      ((k j : ℕ) → IsApart k (get_or seats j None) → IsApart k (get_or next j None)) → (v : Visit) → IsOver a seats v → IsOver b next v
  over_still a b seats next given quiet apart v o = record { carried = carried_still a b v given (quiet v.id o.apart) o.carried; apart = λ j. apart v.id j (o.apart j) }

  apart_all : (seats : List (Option Talk)) (k : ℕ) → get_or seats (console - 1) None ≡ None → ((j : ℕ) → j ≢ console - 1 → IsApart k (get_or seats j None)) → (j : ℕ) → IsApart k (get_or seats j None)
  apart_all seats k none apart j = by_seat (cases_eq j (console - 1))
    where
      by_seat : (j ≡ console - 1) ⊎ (j ≢ console - 1) → IsApart k (get_or seats j None)
      by_seat (inl is) = subst (IsApart k) (sym (ap (λ (n : ℕ). get_or seats n None) is ∙ none)) tt
      by_seat (inr ne) = apart j ne

  -- calls over which nothing passes
  pub quiet_step : (ds : List Done) (a b : LinkSeen) (seats : List (Option Talk)) (w : Watch) → a.tells ≡ true → DidAll ds a b → ((k : ℕ) (p : Passed) → passed_all ds k p ≡ p) → Kept a seats w → Kept b seats w
  quiet_step ds a b seats w tells did quiet h =
      let given : (k : ℕ) → WasGiven a k → WasGiven b k = λ k. given_still ds k a b tells did in
      let same_passed : (k : ℕ) → b.passed k ≡ a.passed k = λ k. passed_is ds k a b tells did ∙ quiet k (a.passed k) in
      record {
        given = λ j. on_more (WasGiven a) (WasGiven b) (get_or seats j None) given (h.given j);
        past = λ k d lt. over_still a b seats seats given (λ n apart. same_passed n) (λ n j apart. apart) (get_or w.past k d) (h.past k d lt);
        now = now_still (IsOn a seats) (IsOn b seats) w.now (λ v n. record { carried = carried_still a b v given (same_passed v.id) n.carried; apart = n.apart; seat = seat_still a b v (get_or seats (console - 1) None) (same_passed v.id) n.seat }) h.now;
      }

  -- a visit's end is heard
  is_over : (s : LinkSeen) (seats : List (Option Talk)) (v : Visit) → get_or seats (console - 1) None ≡ None → IsOn s seats v → IsOver s seats (hung v)
  is_over s seats v none on =
      record {
        carried = record { given = on.carried.given; taken = on.carried.taken; sent = on.carried.sent };
        apart = apart_all seats v.id none on.apart;
      }

  end_step : (s : LinkSeen) (seats : List (Option Talk)) (past : List Visit) (now : Option Visit) → get_or seats (console - 1) None ≡ None → ((j : ℕ) → OnSeat (WasGiven s) (get_or seats j None)) → All (IsOver s seats) past → OnNow (IsOn s seats) now → Kept s seats (ended past now)
  end_step s seats past None none given all on = record { given = given; past = all; now = tt }
  end_step s seats past (Some v) none given all on =
      record { given = given; past = All-append (IsOver s seats) past (hung v ∷ []) all (All-cons (IsOver s seats) (hung v) [] (is_over s seats v none on) (All-nil (IsOver s seats))); now = tt }

  pub kept_hang : (s : LinkSeen) (seats : List (Option Talk)) (lost : Bool) (w : Watch) → IsNow (get_or seats (console - 1) None) lost w.now → Kept s seats w → Kept s seats (ended_if lost w)
  kept_hang s seats false w fits h = h
  kept_hang s seats true w fits h = end_step s seats w.past w.now (no_seat (get_or seats (console - 1) None) w.now fits) h.given h.past h.now
    where
      no_seat : (o : Option Talk) (now : Option Visit) → IsNow o true now → o ≡ None
      no_seat None now k = refl
      no_seat (Some t) None k = absurd k
      no_seat (Some t) (Some v) k = absurd k

  module _ (a b : LinkSeen) (tells : a.tells ≡ true) (seats : List (Option Talk)) where
    -- the consoles were read
    module _ (hs : List HeardOf) (did : DidAll (all_calls_heard seats hs) a b) where
      heard_given : (k : ℕ) → WasGiven a k → WasGiven b k
      heard_given k = given_still (all_calls_heard seats hs) k a b tells did

      heard_quiet : (k : ℕ) → ((j : ℕ) → IsApart k (get_or seats j None)) → b.passed k ≡ a.passed k
      heard_quiet k apart = passed_is (all_calls_heard seats hs) k a b tells did ∙ all_heard_off k seats hs (a.passed k) apart

      heard_apart : (k j : ℕ) → IsApart k (get_or seats j None) → IsApart k (get_or (all_seats_after seats hs) j None)
      heard_apart k j = on_heard (λ (id : ℕ). id ≢ k) j seats hs

      -- the visit that isn't over
      heard_on_it : (t : Talk) (v : Visit) → get_or seats (console - 1) None ≡ Some t → IsOn a seats v → b.passed v.id ≡ record (a.passed v.id) { taken = (a.passed v.id).taken ++ bytes_of (get_or hs (console - 1) none_heard).reads }
      heard_on_it t v is on =
          let id : t.id ≡ v.id = (subst (IsSeatOf a v) is on.seat).0 in
          let apart : (j : ℕ) → j ≢ console - 1 → IsApart t.id (get_or seats j None) = λ j ne. subst (λ (k : ℕ). IsApart k (get_or seats j None)) (sym id) (on.apart j ne) in
          ap (λ (k : ℕ). b.passed k) (sym id)
          ∙ passed_is (all_calls_heard seats hs) t.id a b tells did
          ∙ all_heard_on (console - 1) t seats hs (a.passed t.id) is apart
          ∙ ap (λ (k : ℕ). record (a.passed k) { taken = (a.passed k).taken ++ bytes_of (get_or hs (console - 1) none_heard).reads }) id

      pub kept_heard : (w : Watch) → Kept a seats w → Kept b (all_seats_after seats hs) (read (get_or seats (console - 1) None) (get_or hs (console - 1) none_heard).reads (get_or hs (console - 1) none_heard).over w)
      kept_heard w h = by_seat (get_or seats (console - 1) None) refl (seat_heard (console - 1) seats hs)
        where
          reads : List Gave
          reads = (get_or hs (console - 1) none_heard).reads

          given : (j : ℕ) → OnSeat (WasGiven b) (get_or (all_seats_after seats hs) j None)
          given j = on_heard (WasGiven b) j seats hs (on_more (WasGiven a) (WasGiven b) (get_or seats j None) heard_given (h.given j))

          past : All (IsOver b (all_seats_after seats hs)) w.past
          past = λ k d lt. over_still a b seats (all_seats_after seats hs) heard_given heard_quiet heard_apart (get_or w.past k d) (h.past k d lt)

          by_seat : (o : Option Talk) → get_or seats (console - 1) None ≡ o → get_or (all_seats_after seats hs) (console - 1) None ≡ seat_after (get_or seats (console - 1) None) reads (get_or hs (console - 1) none_heard).over →
              Kept b (all_seats_after seats hs) (read o reads (get_or hs (console - 1) none_heard).over w)
          by_seat None is next = record { given = given; past = past; now = now_still (IsOn a seats) (IsOn b (all_seats_after seats hs)) w.now goes_on h.now }
            where
              goes_on : (v : Visit) → IsOn a seats v → IsOn b (all_seats_after seats hs) v
              goes_on v on =
                  record {
                    carried = carried_still a b v heard_given (heard_quiet v.id (apart_all seats v.id is on.apart)) on.carried;
                    apart = λ j ne. heard_apart v.id j (on.apart j ne);
                    seat = subst (IsSeatOf b v) (sym (next ∙ ap (λ (o : Option Talk). seat_after o reads (get_or hs (console - 1) none_heard).over) is)) tt;
                  }
          by_seat (Some t) is next = by_over (get_or hs (console - 1) none_heard).over (next ∙ ap (λ (o : Option Talk). seat_after o reads (get_or hs (console - 1) none_heard).over) is)
            where
              goes_on : (over : Bool) → get_or (all_seats_after seats hs) (console - 1) None ≡ seat_after (Some t) reads over → (now : Option Visit) → OnNow (IsOn a seats) now → OnNow (IsOn b (all_seats_after seats hs)) (with_bytes (bytes_of reads) now)
              goes_on over here None on = tt
              goes_on over here (Some v) on =
                  let passed = heard_on_it t v is on in
                  let was = subst (IsSeatOf a v) is on.seat in
                  record {
                    carried = record {
                      given = heard_given v.id on.carried.given;
                      taken = ap (λ (p : Passed). p.taken) passed ∙ ap (λ (l : List ℕ). l ++ bytes_of reads) on.carried.taken;
                      sent = sent_same most v.place whole (a.passed v.id).sent (b.passed v.id).sent (ap (λ (p : Passed). p.sent) passed) on.carried.sent;
                    };
                    apart = λ j ne. heard_apart v.id j (on.apart j ne);
                    seat = subst (IsSeatOf b (record v { bytes = v.bytes ++ bytes_of reads })) (sym here) (seat_is over passed was);
                  }
                where
                  seat_is : (o : Bool) → b.passed v.id ≡ record (a.passed v.id) { taken = (a.passed v.id).taken ++ bytes_of reads } → IsSeatOf a v (Some t) → IsSeatOf b (record v { bytes = v.bytes ++ bytes_of reads }) (seat_after (Some t) reads o)
                  seat_is true passed was = tt
                  seat_is false passed was = (was.0, was.1 ∙ ap (λ (p : Passed). min (v.place + length p.sent) most) (sym passed))

              by_over : (over : Bool) → get_or (all_seats_after seats hs) (console - 1) None ≡ seat_after (Some t) reads over → Kept b (all_seats_after seats hs) (read (Some t) reads over w)
              by_over true here = end_step b (all_seats_after seats hs) w.past (with_bytes (bytes_of reads) w.now) here given past (goes_on true here w.now h.now)
              by_over false here = record { given = given; past = past; now = goes_on false here w.now h.now }

    -- the consoles were sent their texts
    module _ (shown : List (List ℕ)) (ts : List Told) (are : AreTold shown 0 seats ts) (did : DidAll (all_calls_told seats ts) a b) where
      told_given : (k : ℕ) → WasGiven a k → WasGiven b k
      told_given k = given_still (all_calls_told seats ts) k a b tells did

      told_quiet : (k : ℕ) → ((j : ℕ) → IsApart k (get_or seats j None)) → b.passed k ≡ a.passed k
      told_quiet k apart = passed_is (all_calls_told seats ts) k a b tells did ∙ all_told_off k seats ts (a.passed k) apart

      told_apart : (k j : ℕ) → IsApart k (get_or seats j None) → IsApart k (get_or (all_seats_told seats ts) j None)
      told_apart k j = on_told (λ (id : ℕ). id ≢ k) j seats ts

      told_on_it : (t : Talk) (v : Visit) → get_or seats (console - 1) None ≡ Some t → IsOn a seats v → b.passed v.id ≡ record (a.passed v.id) { sent = (a.passed v.id).sent ++ sent_of (get_or ts (console - 1) none_told).puts }
      told_on_it t v is on =
          let id : t.id ≡ v.id = (subst (IsSeatOf a v) is on.seat).0 in
          let apart : (j : ℕ) → j ≢ console - 1 → IsApart t.id (get_or seats j None) = λ j ne. subst (λ (k : ℕ). IsApart k (get_or seats j None)) (sym id) (on.apart j ne) in
          ap (λ (k : ℕ). b.passed k) (sym id)
          ∙ passed_is (all_calls_told seats ts) t.id a b tells did
          ∙ all_told_on shown 0 (console - 1) t seats ts (a.passed t.id) are is apart
          ∙ ap (λ (k : ℕ). record (a.passed k) { sent = (a.passed k).sent ++ sent_of (get_or ts (console - 1) none_told).puts }) id

      -- what is sent now goes on from the seat's place
      sent_goes_on : (t : Talk) → Grows (get_or shown (console - 1) []) whole → get_or seats (console - 1) None ≡ Some t → Begins (sent_of (get_or ts (console - 1) none_told).puts) (drop t.place whole)
      sent_goes_on t grows is =
          let puts = (get_or ts (console - 1) none_told).puts in
          let lost = (get_or ts (console - 1) none_told).lost in
          let zero_plus : console - 1 ≡ 0 + (console - 1) = omega arith in
          let lawful : IsPutting lost puts 4096 (drop t.place (get_or shown (console - 1) [])) =
          subst (λ (o : Option Talk). IsToldOf (get_or shown (console - 1) []) o puts lost) is (told_lawful shown 0 (console - 1) (console - 1) seats ts zero_plus are) in
          begins_longer t.place (sent_of puts) (get_or shown (console - 1) []) whole grows (sent_begins lost puts 4096 (drop t.place (get_or shown (console - 1) [])) lawful)

      pub kept_told : (w : Watch) → Grows (get_or shown (console - 1) []) whole → Kept a seats w → Kept b (all_seats_told seats ts) w
      kept_told w grows h = record { given = given; past = past; now = by_seat (get_or seats (console - 1) None) refl (seat_sent shown 0 (console - 1) seats ts are) w.now h.now }
        where
          puts : List Wrote
          puts = (get_or ts (console - 1) none_told).puts

          given : (j : ℕ) → OnSeat (WasGiven b) (get_or (all_seats_told seats ts) j None)
          given j = on_told (WasGiven b) j seats ts (on_more (WasGiven a) (WasGiven b) (get_or seats j None) told_given (h.given j))

          past : All (IsOver b (all_seats_told seats ts)) w.past
          past = λ k d lt. over_still a b seats (all_seats_told seats ts) told_given told_quiet told_apart (get_or w.past k d) (h.past k d lt)

          by_seat : (o : Option Talk) → get_or seats (console - 1) None ≡ o → get_or (all_seats_told seats ts) (console - 1) None ≡ seat_told (get_or seats (console - 1) None) puts (get_or ts (console - 1) none_told).lost →
              (now : Option Visit) → OnNow (IsOn a seats) now → OnNow (IsOn b (all_seats_told seats ts)) now
          by_seat o is next None on = tt
          by_seat None is next (Some v) on =
              record {
                carried = carried_still a b v told_given (told_quiet v.id (apart_all seats v.id is on.apart)) on.carried;
                apart = λ j ne. told_apart v.id j (on.apart j ne);
                seat = subst (IsSeatOf b v) (sym (next ∙ ap (λ (o : Option Talk). seat_told o puts (get_or ts (console - 1) none_told).lost) is)) tt;
              }
          by_seat (Some t) is next (Some v) on =
              record {
                carried = record {
                  given = told_given v.id on.carried.given;
                  taken = ap (λ (p : Passed). p.taken) passed ∙ on.carried.taken;
                  sent = sent_same most v.place whole ((a.passed v.id).sent ++ sent_of puts) (b.passed v.id).sent (ap (λ (p : Passed). p.sent) passed)
                      (sent_on most v.place t.place whole (a.passed v.id).sent (sent_of puts) was.1 (sent_goes_on t grows is) on.carried.sent);
                };
                apart = λ j ne. told_apart v.id j (on.apart j ne);
                seat = subst (IsSeatOf b v) (sym (next ∙ ap (λ (o : Option Talk). seat_told o puts (get_or ts (console - 1) none_told).lost) is)) (seat_is (get_or ts (console - 1) none_told).lost);
              }
            where
              passed : b.passed v.id ≡ record (a.passed v.id) { sent = (a.passed v.id).sent ++ sent_of puts }
              passed = told_on_it t v is on

              was : IsSeatOf a v (Some t)
              was = subst (IsSeatOf a v) is on.seat

              long : length (b.passed v.id).sent ≡ length (a.passed v.id).sent + length (sent_of puts)
              long = ap (λ (p : Passed). length p.sent) passed ∙ length-append (a.passed v.id).sent (sent_of puts)

              seat_is : (l : Bool) → IsSeatOf b v (seat_told (Some t) puts l)
              seat_is true = tt
              seat_is false = (was.0, next_place most v.place t.place (length (a.passed v.id).sent) (length (sent_of puts)) (length (b.passed v.id).sent) was.1 long)

  module _ (one : 1 ≤ console) (turn : ℕ) (texts : List (List ℕ)) (grows : Grows (get_or texts (console - 1) []) whole) where
    end_within : end_of texts (Some console) ≤ length whole
    end_within = fits (length (get_or texts (console - 1) [])) (length grows.0) (length whole) (ap length grows.1 ∙ length-append (get_or texts (console - 1) []) grows.0)
      where
        fits : (n m k : ℕ) → k ≡ n + m → min n (2 ^ 64 - 1) ≤ k
        fits n m k e = omega (arith, e)

    end_most : end_of texts (Some console) ≤ most
    end_most = least (length (get_or texts (console - 1) []))
      where
        least : (n : ℕ) → min n most ≤ most
        least n = omega arith

    -- one new connection
    module _ (a b : LinkSeen) (tells : a.tells ≡ true) (id : ℕ) (seats : List (Option Talk)) (did : Did (DidAccept (accepted.New id)) a b) where
      new_keeps : (k : ℕ) → WasGiven a k → WasGiven b k
      new_keeps k = given_one (DidAccept (accepted.New id)) k a b tells did

      new_quiet : (k : ℕ) → WasGiven a k → b.passed k ≡ a.passed k
      new_quiet k was = (did.bytes tells).passed k ∙ ap (λ (t : Bool). if t then nothing_passed else a.passed k) (other k id (λ e. new_differs id k a b tells did was (sym e)))

      nothing_yet : b.passed id ≡ nothing_passed
      nothing_yet = (did.bytes tells).passed id ∙ ap (λ (t : Bool). if t then nothing_passed else a.passed id) (same id)

      put_apart : (t : Talk) (k j : ℕ) → t.id ≡ id → WasGiven a k → IsApart k (get_or seats j None) → IsApart k (get_or (put_first t seats) j None)
      put_apart t k j is was = on_put (λ (n : ℕ). n ≢ k) j t seats (λ e. new_differs id k a b tells did was (sym is ∙ e))

      come_given : (t : Talk) → t.id ≡ id → ((j : ℕ) → OnSeat (WasGiven a) (get_or seats j None)) → (j : ℕ) → OnSeat (WasGiven b) (get_or (put_first t seats) j None)
      come_given t is all j = on_put (WasGiven b) j t seats (subst (WasGiven b) (sym is) (new_given id a b tells did)) (on_more (WasGiven a) (WasGiven b) (get_or seats j None) new_keeps (all j))

      come_past : (t : Talk) (w : Watch) → t.id ≡ id → All (IsOver a seats) w.past → All (IsOver b (put_first t seats)) w.past
      come_past t w is all = λ k d lt. still (get_or w.past k d) (all k d lt)
        where
          still : (v : Visit) → IsOver a seats v → IsOver b (put_first t seats) v
          still v o = record { carried = carried_still a b v new_keeps (new_quiet v.id o.carried.given) o.carried; apart = λ j. put_apart t v.id j is o.carried.given (o.apart j) }

      -- it gets no console, or another
      come_elsewhere : (t : Talk) (w : Watch) → t.id ≡ id → ((c : ℕ) → free_from 1 seats ≡ Some c → c ≢ 1 + (console - 1)) → Kept a seats w → Kept b (put_first t seats) w
      come_elsewhere t w is apart h = record { given = come_given t is h.given; past = come_past t w is h.past; now = now_still (IsOn a seats) (IsOn b (put_first t seats)) w.now still h.now }
        where
          still : (v : Visit) → IsOn a seats v → IsOn b (put_first t seats) v
          still v on =
              record {
                carried = carried_still a b v new_keeps (new_quiet v.id on.carried.given) on.carried;
                apart = λ j ne. put_apart t v.id j is on.carried.given (on.apart j ne);
                seat = subst (IsSeatOf b v) (sym (put_there 1 (console - 1) t seats apart)) (seat_still a b v (get_or seats (console - 1) None) (new_quiet v.id on.carried.given) on.seat);
              }

      -- it gets the console
      abbrev came : Watch → Watch
      came w = record w { now = Some (new_visit console turn texts id) }

      come_here : (c : ℕ) (w : Watch) → free_from 1 seats ≡ Some c → c ≡ console → Kept a seats w → Kept b (put_first (talk_of texts (Some c) id) seats) (came w)
      come_here c w free is h =
          record {
            given = come_given (talk_of texts (Some c) id) refl h.given;
            past = come_past (talk_of texts (Some c) id) w refl h.past;
            now = record {
              carried = record { given = new_given id a b tells did; taken = ap (λ (p : Passed). p.taken) nothing_yet; sent = sent_same most (end_of texts (Some console)) whole [] (b.passed id).sent (ap (λ (p : Passed). p.sent) nothing_yet) (none_sent most (end_of texts (Some console)) whole end_within) };
              apart = λ j ne. subst (IsApart id) (sym (put_there 1 j (talk_of texts (Some c) id) seats (elsewhere j ne))) (given_apart (get_or seats j None) (h.given j));
              seat = subst (IsSeatOf b (new_visit console turn texts id)) (sym (put_here 1 c (console - 1) (talk_of texts (Some c) id) seats free (is ∙ number_of console one))) seat;
            };
          }
        where
          given_apart : (o : Option Talk) → OnSeat (WasGiven a) o → IsApart id o
          given_apart None was = tt
          given_apart (Some t) was = λ e. new_differs id t.id a b tells did was (sym e)

          elsewhere : (j : ℕ) → j ≢ console - 1 → (d : ℕ) → free_from 1 seats ≡ Some d → d ≢ 1 + j
          elsewhere j ne d some at = ne (same_place (sym at ∙ some_is d c (sym some ∙ free) ∙ is ∙ number_of console one))
            where
              same_place : 1 + j ≡ 1 + (console - 1) → j ≡ console - 1
              same_place e = omega (arith, e)

          place_is : end_of texts (Some c) ≡ end_of texts (Some console)
          place_is = ap (λ (n : ℕ). end_of texts (Some n)) is

          seat : IsSeatOf b (new_visit console turn texts id) (Some (talk_of texts (Some c) id))
          seat = (refl, place_is ∙ first_place most (end_of texts (Some console)) (length (b.passed id).sent) end_most (ap (λ (p : Passed). length p.sent) nothing_yet))

      kept_come : (w : Watch) → Kept a seats w → Kept b (seats_with texts id seats) (come console turn texts (free_from 1 seats) id w)
      kept_come w h = by_free (free_from 1 seats) refl
        where
          by_free : (free : Option ℕ) → free_from 1 seats ≡ free → Kept b (put_first (talk_of texts free id) seats) (come console turn texts free id w)
          by_free None is = come_elsewhere (talk_of texts None id) w refl (λ c some. none_is c (sym is ∙ some)) h
          by_free (Some c) is = by_test (nat_eq c console) refl
            where
              by_test : (t : Bool) → nat_eq c console ≡ t → Kept b (put_first (talk_of texts (Some c) id) seats) (come console turn texts (Some c) id w)
              by_test true e =
                  subst (λ (x : Watch). Kept b (put_first (talk_of texts (Some c) id) seats) x) (sym (ap (λ (t : Bool). if t then came w else w) e)) (come_here c w is (same_of c console e) h)
              by_test false e =
                  subst (λ (x : Watch). Kept b (put_first (talk_of texts (Some c) id) seats) x) (sym (ap (λ (t : Bool). if t then came w else w) e))
                  (come_elsewhere (talk_of texts (Some c) id) w refl (λ d some at. not_same c console e (some_is c d (sym is ∙ some) ∙ at ∙ sym (number_of console one))) h)

    close_quiet : (console' : Option ℕ) (id k : ℕ) (p : Passed) → passed_all (calls_of_new console' id) k p ≡ p
    close_quiet None id k p = refl
    close_quiet (Some c) id k p = refl

    -- all new connections of a turn
    kept_all_come : (seats : List (Option Talk)) (ids : List ℕ) (a b : LinkSeen) (w : Watch) → a.tells ≡ true → DidAll (calls_accepted texts seats ids) a b → Kept a seats w → Kept b (seated texts seats ids) (all_come console turn texts seats ids w)
    kept_all_come seats [] a b w tells (Nothing _) h = h
    kept_all_come seats (id ∷ ids) a b w tells (Then _ _ _ m _ did rest) h =
        let free = free_from 1 seats in
        let parts = did_split (calls_of_new free id) (calls_accepted texts (seats_with texts id seats) ids) m b rest in
        let here : m.tells ≡ true = did.tells ∙ tells in
        let come_now = kept_come a m tells id seats did w h in
        let closed = quiet_step (calls_of_new free id) m parts.0 (seats_with texts id seats) (come console turn texts free id w) here parts.1 (close_quiet free id) come_now in
        kept_all_come (seats_with texts id seats) ids parts.0 b (come console turn texts free id w) (tells_still (calls_of_new free id) m parts.0 here parts.1) parts.2 closed

    -- a turn up to its reads, with calls before and behind its accepts over which nothing passes
    pub kept_read : (desk : Desk) (answers : TurnAnswers) (first last : List Done) (a b : LinkSeen) (w : Watch) → ((k : ℕ) (p : Passed) → passed_all first k p ≡ p) → ((k : ℕ) (p : Passed) → passed_all last k p ≡ p) → a.tells ≡ true →
        DidAll (first ++ (calls_accepted texts desk.seats answers.accepts ++ (last ++ all_calls_heard (seats_to_read texts desk answers) answers.heard))) a b →
        IsNow (get_or desk.seats (console - 1) None) (get_or desk.failed (console - 1) false) w.now → Kept a desk.seats w → Kept b (seats_to_write texts desk answers) (watched console turn texts desk answers w)
    kept_read desk answers first last a b w quiet_first quiet_last tells did now h =
        let seats = seats_to_read texts desk answers in
        let lost = get_or desk.failed (console - 1) false in
        let news = calls_accepted texts desk.seats answers.accepts in
        let heard = all_calls_heard seats answers.heard in
        let one_part = did_split first (news ++ (last ++ heard)) a b did in
        let two_part = did_split news (last ++ heard) one_part.0 b one_part.2 in
        let three_part = did_split last heard two_part.0 b two_part.2 in
        let at_one_part : one_part.0.tells ≡ true = tells_still first a one_part.0 tells one_part.1 in
        let at_two_part : two_part.0.tells ≡ true = tells_still news one_part.0 two_part.0 at_one_part two_part.1 in
        let at_three_part : three_part.0.tells ≡ true = tells_still last two_part.0 three_part.0 at_two_part three_part.1 in
        let w1 = ended_if lost w in
        let w2 = all_come console turn texts desk.seats answers.accepts w1 in
        let begun : Kept one_part.0 desk.seats w = quiet_step first a one_part.0 desk.seats w tells one_part.1 quiet_first h in
        let hung_now : Kept one_part.0 desk.seats w1 = kept_hang one_part.0 desk.seats lost w now begun in
        let accepted_all : Kept two_part.0 seats w2 = kept_all_come desk.seats answers.accepts one_part.0 two_part.0 w1 at_one_part two_part.1 hung_now in
        let listened : Kept three_part.0 seats w2 = quiet_step last two_part.0 three_part.0 seats w2 at_two_part three_part.1 quiet_last accepted_all in
        kept_heard three_part.0 b at_three_part seats answers.heard three_part.2 w2 listened

    -- a whole turn
    pub kept_turn : (shown : List (List ℕ)) (desk : Desk) (answers : TurnAnswers) (a b : LinkSeen) (w : Watch) → Grows (get_or shown (console - 1) []) whole → a.tells ≡ true →
        IsTurn texts shown desk answers → DidAll (calls_of_turn texts desk answers) a b → IsNow (get_or desk.seats (console - 1) None) (get_or desk.failed (console - 1) false) w.now → Kept a desk.seats w →
        Kept b (desk_after texts desk answers).seats (watched console turn texts desk answers w)
    kept_turn shown desk answers a b w longer tells lawful did now h =
        let second = seats_to_write texts desk answers in
        let news = calls_accepted texts desk.seats answers.accepts in
        let last = last_accept answers.accepts in
        let heard = all_calls_heard (seats_to_read texts desk answers) answers.heard in
        let told = all_calls_told second answers.told in
        let reads = DidWait 10 false ∷ (news ++ (last ++ heard)) in
        let calls : calls_of_turn texts desk answers ≡ reads ++ told =
        ap (λ (ds : List Done). DidWait 10 false ∷ ds) (ap (λ (ds : List Done). news ++ ds) (sym (append_assoc last heard told)) ∙ sym (append_assoc news (last ++ heard) told)) in
        let parts = did_split reads told a b (subst (λ (ds : List Done). DidAll ds a b) calls did) in
        let heard_all : Kept parts.0 second (watched console turn texts desk answers w) =
        kept_read desk answers (DidWait 10 false ∷ []) last a parts.0 w (λ k p. refl) (accept_quiet answers.accepts) tells parts.1 now h in
        kept_told parts.0 b (tells_still reads a parts.0 tells parts.1) second shown answers.told lawful.told parts.2 (watched console turn texts desk answers w) longer heard_all
