-- In a turn each console's connection stays open, and its number stays that of no other console's.
use Rattle.std.specs.Prelude.{length, nat_lt, Bool, true, false, nat_eq, if◌then◌else◌, map, get_or, Option, Some, None}
use Rattle.std.proofs.lemmas.List.{append_assoc}
use Rattle.std.proofs.Common.{◌≡◌, ◌≢◌, ℕ, zero, suc, List, [], ◌∷◌, ◌++◌, refl, sym, ◌∙◌, ap, subst}
use Rattle.console_link.specs.declared.link.Accepted.TheVariants as accepted
use Rattle.console_link.specs.Links.{LinkSeen, Done, DidAccept, DidClose, DidWait}
use Rattle.console_server.specs.Readings.{Gave, did_read, DidAll, Nothing, Then}
use Rattle.console_server.specs.Turns.{Talk, Desk, HeardOf, Told, Wrote, TurnAnswers, if_over, calls_heard, all_calls_heard, seat_after, all_seats_after, calls_told, all_calls_told, seat_told, all_seats_told, free_from, put_first, talk_of, seated, calls_of_new, calls_accepted, last_accept, seats_to_read, seats_to_write, calls_of_turn, desk_after}
use Rattle.console_server.specs.Writings.{did_write}
use Rattle.console_server.specs.Server.{calls_to_read}
use Rattle.console_server.proofs.DeskLaws.{false_is}
use Rattle.serve_laws.proofs.AtConsole.{same, other, none_is}
use Rattle.serve_laws.proofs.Passing.{did_split, IsApart}

-- no seat's connection has this number
abbrev pub IsOff : ℕ → List (Option Talk) → Type 0
IsOff k [] = Unit {0}
IsOff k (s ∷ seats) = IsApart k s × IsOff k seats

abbrev pub SeatIsOpen : (ℕ → Bool) → Option Talk → List (Option Talk) → Type 0
SeatIsOpen open_now None seats = Unit {0}
SeatIsOpen open_now (Some t) seats = (open_now t.id ≡ true) × IsOff t.id seats

-- each seat's connection is open, and its number is no other seat's
abbrev pub AreOpen : (ℕ → Bool) → List (Option Talk) → Type 0
AreOpen open_now [] = Unit {0}
AreOpen open_now (s ∷ seats) = SeatIsOpen open_now s seats × AreOpen open_now seats

pub off_at : (k i : ℕ) (seats : List (Option Talk)) → IsOff k seats → IsApart k (get_or seats i None)
off_at k i [] h = tt
off_at k zero (s ∷ seats) h = h.0
off_at k (suc i) (s ∷ seats) h = off_at k i seats h.1

-- others are open too
seat_on : (f g : ℕ → Bool) (s : Option Talk) (seats : List (Option Talk)) → ((k : ℕ) → f k ≡ true → g k ≡ true) → SeatIsOpen f s seats → SeatIsOpen g s seats
seat_on f g None seats more h = tt
seat_on f g (Some t) seats more h = (more t.id h.0, h.1)

open_on : (f g : ℕ → Bool) (seats : List (Option Talk)) → ((k : ℕ) → f k ≡ true → g k ≡ true) → AreOpen f seats → AreOpen g seats
open_on f g [] more h = tt
open_on f g (s ∷ seats) more h = (seat_on f g s seats more h.0, open_on f g seats more h.1)

pub open_same : (a b : LinkSeen) (seats : List (Option Talk)) → ((k : ℕ) → b.is_open k ≡ a.is_open k) → AreOpen a.is_open seats → AreOpen b.is_open seats
open_same a b seats is h = open_on a.is_open b.is_open seats (λ k open_now. is k ∙ open_now) h

-- all but one, which is no seat's
seat_but : (f g : ℕ → Bool) (bad : ℕ) (s : Option Talk) (seats : List (Option Talk)) → ((k : ℕ) → k ≢ bad → f k ≡ true → g k ≡ true) → IsApart bad s → SeatIsOpen f s seats → SeatIsOpen g s seats
seat_but f g bad None seats more off h = tt
seat_but f g bad (Some t) seats more off h = (more t.id off h.0, h.1)

open_but : (f g : ℕ → Bool) (bad : ℕ) (seats : List (Option Talk)) → ((k : ℕ) → k ≢ bad → f k ≡ true → g k ≡ true) → IsOff bad seats → AreOpen f seats → AreOpen g seats
open_but f g bad [] more off h = tt
open_but f g bad (s ∷ seats) more off h = (seat_but f g bad s seats more off.0 h.0, open_but f g bad seats more off.1 h.1)

-- a number that is not open is no seat's
fresh_seat : (f : ℕ → Bool) (k : ℕ) (s : Option Talk) (seats : List (Option Talk)) → f k ≡ false → SeatIsOpen f s seats → IsApart k s
fresh_seat f k None seats fresh h = tt
fresh_seat f k (Some t) seats fresh h = λ is. false_is (sym h.0 ∙ ap f is ∙ fresh)

fresh_off : (f : ℕ → Bool) (k : ℕ) (seats : List (Option Talk)) → f k ≡ false → AreOpen f seats → IsOff k seats
fresh_off f k [] fresh h = tt
fresh_off f k (s ∷ seats) fresh h = (fresh_seat f k s seats fresh h.0, fresh_off f k seats fresh h.1)

-- calls that open and close nothing

read_open : (id : ℕ) (reads : List Gave) (a b : LinkSeen) → DidAll (map (did_read id) reads) a b → (k : ℕ) → b.is_open k ≡ a.is_open k
read_open id [] a b (Nothing _) k = refl
read_open id (r ∷ reads) a b (Then _ _ _ m _ did rest) k = read_open id reads m b rest k ∙ did.opens k

put_open : (id : ℕ) (puts : List Wrote) (a b : LinkSeen) → DidAll (map (did_write id) puts) a b → (k : ℕ) → b.is_open k ≡ a.is_open k
put_open id [] a b (Nothing _) k = refl
put_open id (p ∷ puts) a b (Then _ _ _ m _ did rest) k = put_open id puts m b rest k ∙ did.opens k

pub wait_open : (failed : Bool) (a b : LinkSeen) → DidAll (DidWait 10 failed ∷ []) a b → (k : ℕ) → b.is_open k ≡ a.is_open k
wait_open failed a b (Then _ _ _ m _ did (Nothing _)) k = did.opens k

last_by : (t : Bool) (a b : LinkSeen) → DidAll (if t then DidAccept accepted.NotYet ∷ [] else []) a b → (k : ℕ) → b.is_open k ≡ a.is_open k
last_by true a b (Then _ _ _ m _ did (Nothing _)) k = did.opens k
last_by false a b (Nothing _) k = refl

last_open : (ids : List ℕ) (a b : LinkSeen) → DidAll (last_accept ids) a b → (k : ℕ) → b.is_open k ≡ a.is_open k
last_open ids a b did = last_by (nat_lt (length ids) 32) a b did

-- a close, if the connection is over
none_closed : (id : ℕ) (a b : LinkSeen) → DidAll (if_over false (DidClose id ∷ [])) a b → (k : ℕ) → b.is_open k ≡ a.is_open k
none_closed id a b (Nothing _) k = refl

closed_others : (over : Bool) (id : ℕ) (a b : LinkSeen) → DidAll (if_over over (DidClose id ∷ [])) a b → (k : ℕ) → k ≢ id → b.is_open k ≡ a.is_open k
closed_others true id a b (Then _ _ _ m _ did (Nothing _)) k ne = did.opens k ∙ ap (λ (t : Bool). if t then false else a.is_open k) (other k id ne)
closed_others false id a b (Nothing _) k ne = refl

-- a console was read

heard_off : (k : ℕ) (s : Option Talk) (reads : List Gave) (over : Bool) (a b : LinkSeen) → IsApart k s → DidAll (calls_heard s reads over) a b → b.is_open k ≡ a.is_open k
heard_off k None reads over a b off (Nothing _) = refl
heard_off k (Some t) reads over a b off did =
    let parts = did_split (map (did_read t.id) reads) (if_over over (DidClose t.id ∷ [])) a b did in
    closed_others over t.id parts.0 b parts.2 k (λ e. off (sym e)) ∙ read_open t.id reads a parts.0 parts.1 k

all_heard_off : (k : ℕ) (seats : List (Option Talk)) (hs : List HeardOf) (a b : LinkSeen) → IsOff k seats → DidAll (all_calls_heard seats hs) a b → b.is_open k ≡ a.is_open k
all_heard_off k [] hs a b off (Nothing _) = refl
all_heard_off k (s ∷ seats) [] a b off (Nothing _) = refl
all_heard_off k (s ∷ seats) (h ∷ hs) a b off did =
    let parts = did_split (calls_heard s h.reads h.over) (all_calls_heard seats hs) a b did in
    all_heard_off k seats hs parts.0 b off.1 parts.2 ∙ heard_off k s h.reads h.over a parts.0 off.0 parts.1

seat_heard_off : (k : ℕ) (s : Option Talk) (reads : List Gave) (over : Bool) → IsApart k s → IsApart k (seat_after s reads over)
seat_heard_off k None reads over off = tt
seat_heard_off k (Some t) reads true off = tt
seat_heard_off k (Some t) reads false off = off

still_heard_off : (k : ℕ) (seats : List (Option Talk)) (hs : List HeardOf) → IsOff k seats → IsOff k (all_seats_after seats hs)
still_heard_off k [] hs off = tt
still_heard_off k (s ∷ seats) [] off = off
still_heard_off k (s ∷ seats) (h ∷ hs) off = (seat_heard_off k s h.reads h.over off.0, still_heard_off k seats hs off.1)

heard_step : (s : Option Talk) (seats : List (Option Talk)) (reads : List Gave) (over : Bool) (a b : LinkSeen) → DidAll (calls_heard s reads over) a b → AreOpen a.is_open (s ∷ seats) →
    SeatIsOpen b.is_open (seat_after s reads over) seats × AreOpen b.is_open seats
heard_step None seats reads over a b (Nothing _) h = h
heard_step (Some t) seats reads true a b did h =
    (tt, open_but a.is_open b.is_open t.id seats (λ k ne open_now. heard_off k (Some t) reads true a b (λ e. ne (sym e)) did ∙ open_now) h.0.1 h.1)
heard_step (Some t) seats reads false a b did h =
    let parts = did_split (map (did_read t.id) reads) (if_over false (DidClose t.id ∷ [])) a b did in
    let is : (k : ℕ) → b.is_open k ≡ a.is_open k = λ k. none_closed t.id parts.0 b parts.2 k ∙ read_open t.id reads a parts.0 parts.1 k in
    ((is t.id ∙ h.0.0, h.0.1), open_same a b seats is h.1)

pub heard_open : (seats : List (Option Talk)) (hs : List HeardOf) (a b : LinkSeen) → DidAll (all_calls_heard seats hs) a b → AreOpen a.is_open seats → AreOpen b.is_open (all_seats_after seats hs)
heard_open [] hs a b did h = tt
heard_open (s ∷ seats) [] a b (Nothing _) h = h
heard_open (s ∷ seats) (x ∷ hs) a b did h =
    let parts = did_split (calls_heard s x.reads x.over) (all_calls_heard seats hs) a b did in
    let first = heard_step s seats x.reads x.over a parts.0 parts.1 h in
    (still (seat_after s x.reads x.over) parts.0 parts.2 first.0, heard_open seats hs parts.0 b parts.2 first.1)
  where
    still : (o : Option Talk) (m : LinkSeen) → DidAll (all_calls_heard seats hs) m b → SeatIsOpen m.is_open o seats → SeatIsOpen b.is_open o (all_seats_after seats hs)
    still None m rest k = tt
    still (Some t) m rest k = (all_heard_off t.id seats hs m b k.1 rest ∙ k.0, still_heard_off t.id seats hs k.1)

-- a console was sent its text

told_off : (k : ℕ) (s : Option Talk) (puts : List Wrote) (lost : Bool) (a b : LinkSeen) → IsApart k s → DidAll (calls_told s puts lost) a b → b.is_open k ≡ a.is_open k
told_off k None puts lost a b off (Nothing _) = refl
told_off k (Some t) puts lost a b off did =
    let parts = did_split (map (did_write t.id) puts) (if_over lost (DidClose t.id ∷ [])) a b did in
    closed_others lost t.id parts.0 b parts.2 k (λ e. off (sym e)) ∙ put_open t.id puts a parts.0 parts.1 k

all_told_off : (k : ℕ) (seats : List (Option Talk)) (ts : List Told) (a b : LinkSeen) → IsOff k seats → DidAll (all_calls_told seats ts) a b → b.is_open k ≡ a.is_open k
all_told_off k [] ts a b off (Nothing _) = refl
all_told_off k (s ∷ seats) [] a b off (Nothing _) = refl
all_told_off k (s ∷ seats) (t ∷ ts) a b off did =
    let parts = did_split (calls_told s t.puts t.lost) (all_calls_told seats ts) a b did in
    all_told_off k seats ts parts.0 b off.1 parts.2 ∙ told_off k s t.puts t.lost a parts.0 off.0 parts.1

seat_told_off : (k : ℕ) (s : Option Talk) (puts : List Wrote) (lost : Bool) → IsApart k s → IsApart k (seat_told s puts lost)
seat_told_off k None puts lost off = tt
seat_told_off k (Some t) puts true off = tt
seat_told_off k (Some t) puts false off = off

still_told_off : (k : ℕ) (seats : List (Option Talk)) (ts : List Told) → IsOff k seats → IsOff k (all_seats_told seats ts)
still_told_off k [] ts off = tt
still_told_off k (s ∷ seats) [] off = off
still_told_off k (s ∷ seats) (t ∷ ts) off = (seat_told_off k s t.puts t.lost off.0, still_told_off k seats ts off.1)

told_step : (s : Option Talk) (seats : List (Option Talk)) (puts : List Wrote) (lost : Bool) (a b : LinkSeen) → DidAll (calls_told s puts lost) a b → AreOpen a.is_open (s ∷ seats) →
    SeatIsOpen b.is_open (seat_told s puts lost) seats × AreOpen b.is_open seats
told_step None seats puts lost a b (Nothing _) h = h
told_step (Some t) seats puts true a b did h =
    (tt, open_but a.is_open b.is_open t.id seats (λ k ne open_now. told_off k (Some t) puts true a b (λ e. ne (sym e)) did ∙ open_now) h.0.1 h.1)
told_step (Some t) seats puts false a b did h =
    let parts = did_split (map (did_write t.id) puts) (if_over false (DidClose t.id ∷ [])) a b did in
    let is : (k : ℕ) → b.is_open k ≡ a.is_open k = λ k. none_closed t.id parts.0 b parts.2 k ∙ put_open t.id puts a parts.0 parts.1 k in
    ((is t.id ∙ h.0.0, h.0.1), open_same a b seats is h.1)

told_open : (seats : List (Option Talk)) (ts : List Told) (a b : LinkSeen) → DidAll (all_calls_told seats ts) a b → AreOpen a.is_open seats → AreOpen b.is_open (all_seats_told seats ts)
told_open [] ts a b did h = tt
told_open (s ∷ seats) [] a b (Nothing _) h = h
told_open (s ∷ seats) (x ∷ ts) a b did h =
    let parts = did_split (calls_told s x.puts x.lost) (all_calls_told seats ts) a b did in
    let first = told_step s seats x.puts x.lost a parts.0 parts.1 h in
    (still (seat_told s x.puts x.lost) parts.0 parts.2 first.0, told_open seats ts parts.0 b parts.2 first.1)
  where
    still : (o : Option Talk) (m : LinkSeen) → DidAll (all_calls_told seats ts) m b → SeatIsOpen m.is_open o seats → SeatIsOpen b.is_open o (all_seats_told seats ts)
    still None m rest k = tt
    still (Some t) m rest k = (all_told_off t.id seats ts m b k.1 rest ∙ k.0, still_told_off t.id seats ts k.1)

-- new connections

seat_put_off : (k : ℕ) (t : Talk) (seats : List (Option Talk)) → t.id ≢ k → IsOff k seats → IsOff k (put_first t seats)
seat_put_off k t [] ne off = tt
seat_put_off k t (None ∷ seats) ne off = (ne, off.1)
seat_put_off k t (Some u ∷ seats) ne off = (off.0, seat_put_off k t seats ne off.1)

put_first_open : (f : ℕ → Bool) (t : Talk) (seats : List (Option Talk)) → f t.id ≡ true → IsOff t.id seats → AreOpen f seats → AreOpen f (put_first t seats)
put_first_open f t [] is off h = tt
put_first_open f t (None ∷ seats) is off h = ((is, off.1), h.1)
put_first_open f t (Some u ∷ seats) is off h = ((h.0.0, seat_put_off u.id t seats (λ e. off.0 (sym e)) h.0.1), put_first_open f t seats is off.1 h.1)

put_full : (k : ℕ) (t : Talk) (seats : List (Option Talk)) → free_from k seats ≡ None → seats ≡ put_first t seats
put_full k t [] is = refl
put_full k t (None ∷ seats) is = none_is k (sym is)
put_full k t (Some u ∷ seats) is = ap (λ (l : List (Option Talk)). Some u ∷ l) (put_full (suc k) t seats is)

module _ (texts : List (List ℕ)) where
  pub accepts_open : (seats : List (Option Talk)) (ids : List ℕ) (a b : LinkSeen) → DidAll (calls_accepted texts seats ids) a b → AreOpen a.is_open seats → AreOpen b.is_open (seated texts seats ids)
  accepts_open seats [] a b (Nothing _) h = h
  accepts_open seats (id ∷ ids) a b (Then _ _ _ m _ did rest) h = by_free (free_from 1 seats) refl (λ next l more k. accepts_open next ids l b more k) rest
    where
      off : IsOff id seats
      off = fresh_off a.is_open id seats did.fresh.0 h

      goes_on : (k : ℕ) → a.is_open k ≡ true → m.is_open k ≡ true
      goes_on k open_now = did.opens k ∙ either (nat_eq k id)
        where
          either : (t : Bool) → (if t then true else a.is_open k) ≡ true
          either true = refl
          either false = open_now

      here : m.is_open id ≡ true
      here = did.opens id ∙ ap (λ (t : Bool). if t then true else a.is_open id) (same id)

      still : AreOpen m.is_open seats
      still = open_on a.is_open m.is_open seats goes_on h

      by_free : (free : Option ℕ) → free_from 1 seats ≡ free → ((next : List (Option Talk)) (l : LinkSeen) → DidAll (calls_accepted texts next ids) l b → AreOpen l.is_open next → AreOpen b.is_open (seated texts next ids))
          → DidAll (calls_of_new free id ++ calls_accepted texts (put_first (talk_of texts free id) seats) ids) m b → AreOpen b.is_open (seated texts (put_first (talk_of texts free id) seats) ids)
      by_free (Some c) is rest_open more = rest_open (put_first (talk_of texts (Some c) id) seats) m more (put_first_open m.is_open (talk_of texts (Some c) id) seats here off still)
      by_free None is rest_open more = shut (put_first (talk_of texts None id) seats) (put_full 1 (talk_of texts None id) seats is) more
        where
          shut : (next : List (Option Talk)) → seats ≡ next → DidAll (DidClose id ∷ calls_accepted texts next ids) m b → AreOpen b.is_open (seated texts next ids)
          shut next full (Then _ _ _ l _ closed rest_calls) =
              rest_open next l rest_calls
              (subst (AreOpen l.is_open) full
              (open_but m.is_open l.is_open id seats (λ k ne open_now. closed.opens k ∙ ap (λ (t : Bool). if t then false else m.is_open k) (other k id ne) ∙ open_now) off still))

  -- a turn up to its reads, and a whole turn

  pub reads_open : (desk : Desk) (answers : TurnAnswers) (a b : LinkSeen) → DidAll (calls_to_read texts desk answers) a b → AreOpen a.is_open desk.seats →
      (c : LinkSeen) × DidAll (all_calls_heard (seats_to_read texts desk answers) answers.heard) c b × AreOpen c.is_open (seats_to_read texts desk answers)
  reads_open desk answers a b did h =
      let news = calls_accepted texts desk.seats answers.accepts in
      let last = last_accept answers.accepts in
      let heard = all_calls_heard (seats_to_read texts desk answers) answers.heard in
      let one = did_split (DidWait 10 false ∷ []) (news ++ (last ++ heard)) a b did in
      let two = did_split news (last ++ heard) one.0 b one.2 in
      let three = did_split last heard two.0 b two.2 in
      let seats = seats_to_read texts desk answers in (
        three.0,
        three.2,
        open_same two.0 three.0 seats (last_open answers.accepts two.0 three.0 three.1)
            (accepts_open desk.seats answers.accepts one.0 two.0 two.1 (open_same a one.0 desk.seats (wait_open false a one.0 one.1) h)),
      )

  pub calls_are : (desk : Desk) (answers : TurnAnswers) → calls_of_turn texts desk answers ≡ calls_to_read texts desk answers ++ all_calls_told (seats_to_write texts desk answers) answers.told
  calls_are desk answers =
      let news = calls_accepted texts desk.seats answers.accepts in
      let last = last_accept answers.accepts in
      let heard = all_calls_heard (seats_to_read texts desk answers) answers.heard in
      let told = all_calls_told (seats_to_write texts desk answers) answers.told in
      ap (λ (ds : List Done). DidWait 10 false ∷ ds) (ap (λ (ds : List Done). news ++ ds) (sym (append_assoc last heard told)) ∙ sym (append_assoc news (last ++ heard) told))

  pub turn_open : (desk : Desk) (answers : TurnAnswers) (a b : LinkSeen) → DidAll (calls_of_turn texts desk answers) a b → AreOpen a.is_open desk.seats →
      (c : LinkSeen) × DidAll (calls_to_read texts desk answers) a c × AreOpen c.is_open (seats_to_write texts desk answers) × AreOpen b.is_open (desk_after texts desk answers).seats
  turn_open desk answers a b did h =
      let second = seats_to_write texts desk answers in
      let parts = did_split (calls_to_read texts desk answers) (all_calls_told second answers.told) a b (subst (λ (ds : List Done). DidAll ds a b) (calls_are desk answers) did) in
      let read = reads_open desk answers a parts.0 parts.1 h in
      let heard : AreOpen (parts.0).is_open second = heard_open (seats_to_read texts desk answers) answers.heard read.0 parts.0 read.1 read.2 in
      (parts.0, parts.1, heard, told_open second answers.told parts.0 b parts.2 heard)
