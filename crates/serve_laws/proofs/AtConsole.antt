-- The events of a turn at one console, and its seat.
use Rattle.std.specs.Prelude.{Bool, true, false, nat_eq, if◌then◌else◌, map, filter, get_or, Option, Some, None}
use Rattle.std.proofs.Common.{◌≡◌, ◌≢◌, ℕ, zero, suc, ◌+◌, ◌-◌, ◌<◌, ◌≤◌, List, [], ◌∷◌, ◌++◌, refl, sym, ◌∙◌, ap, subst, arith}
use Rattle.std.proofs.lemmas.Bool.Decides.{nat_tests}
use Rattle.std.proofs.lemmas.List.{append-nil, map-append}
use Rattle.ctss_types.specs.declared.script.Event.{Event}
use Rattle.ctss_types.specs.declared.script.Event.TheVariants.{Dial, Hang}
use Rattle.ctss_types.specs.declared.script.Timed.{Timed}
use Rattle.console_wire.specs.Items.{items_from, piece_from}
use Rattle.console_server.specs.Readings.{Gave, bytes_of, timed, all_timed}
use Rattle.console_server.specs.Turns.{Talk, HeardOf, Told, events_heard, all_events_heard, seat_after, all_seats_after, free_from, put_first, dial, seat_told, all_seats_told, IsToldOf, AreTold, losses, hangs}
use Rattle.console_server.specs.Visits.{events_at}
use Rattle.console_server.proofs.DeskLaws.{false_is}
use Rattle.serve_laws.proofs.Watching.{none_heard, none_told}

pub same : (n : ℕ) → nat_eq n n ≡ true
same n = grind (arith, nat_tests)

pub other : (k n : ℕ) → k ≢ n → nat_eq k n ≡ false
other k n h = grind (arith, nat_tests)

pub same_of : (c n : ℕ) → nat_eq c n ≡ true → c ≡ n
same_of c n e = grind (arith, nat_tests)

pub not_same : (c n : ℕ) → nat_eq c n ≡ false → c ≢ n
not_same c n e = grind (arith, nat_tests)

pub some_is : (k c : ℕ) → Some k ≡ Some c → k ≡ c
some_is k c is = cc

pub none_is : {X : Type 0} (c : ℕ) → None ≡ Some c → X
none_is {X} c is = absurd (subst IsNone_of is tt)
  where
    IsNone_of : Option ℕ → Type 0
    IsNone_of None = Unit {0}
    IsNone_of (Some m) = ⊥

-- consoles are numbered from 1, places from 0
pub number_of : (console : ℕ) → 1 ≤ console → console ≡ 1 + (console - 1)
number_of console one = omega (arith, one)

filter_both : {X : Type 0} (p : X → Bool) (xs ys : List X) → filter p (xs ++ ys) ≡ filter p xs ++ filter p ys
filter_both p [] ys = refl
filter_both p (x ∷ xs) ys = elim (p x) as (λ b. (if b then x ∷ filter p (xs ++ ys) else filter p (xs ++ ys)) ≡ (if b then x ∷ filter p xs else filter p xs) ++ filter p ys) [
  | true ↦ ap (λ l. x ∷ l) (filter_both p xs ys)
  | false ↦ filter_both p xs ys
]

abbrev is_at : ℕ → Timed → Bool
is_at console e = nat_eq e.console console

abbrev event_of : Timed → Event
event_of e = e.event

pub at_both : (c : ℕ) (xs ys : List Timed) → events_at c (xs ++ ys) ≡ events_at c xs ++ events_at c ys
at_both c xs ys = ap (map event_of) (filter_both (is_at c) xs ys) ∙ map-append event_of (filter (is_at c) xs) (filter (is_at c) ys)

-- one event
one_here : (c tick : ℕ) (e : Event) → events_at c (timed tick c e ∷ []) ≡ e ∷ []
one_here c tick e = ap (λ (t : Bool). map event_of (if t then timed tick c e ∷ [] else [])) (same c)

one_there : (c k tick : ℕ) (e : Event) → k ≢ c → events_at c (timed tick k e ∷ []) ≡ []
one_there c k tick e ne = ap (λ (t : Bool). map event_of (if t then timed tick k e ∷ [] else [])) (other k c ne)

pub all_here : (c tick : ℕ) (es : List Event) → events_at c (all_timed tick c es) ≡ es
all_here c tick [] = refl
all_here c tick (e ∷ es) = at_both c (timed tick c e ∷ []) (all_timed tick c es) ∙ (λ i. one_here c tick e i ++ all_here c tick es i)

all_there : (c k tick : ℕ) (es : List Event) → k ≢ c → events_at c (all_timed tick k es) ≡ []
all_there c k tick [] ne = refl
all_there c k tick (e ∷ es) ne = at_both c (timed tick k e ∷ []) (all_timed tick k es) ∙ (λ i. one_there c k tick e ne i ++ all_there c k tick es ne i)

-- hangs of connections that were lost

abbrev pub hang_if : Bool → List Event
hang_if true = Hang ∷ []
hang_if false = []

no_hang_there : (c k tick : ℕ) (failed : List Bool) → c < k → events_at c (hangs tick k failed) ≡ []
no_hang_there c k tick [] lt = refl
no_hang_there c k tick (true ∷ failed) lt = at_both c (timed tick k Hang ∷ []) (hangs tick (suc k) failed) ∙ (λ i. one_there c k tick Hang (λ e. absurd (omega (arith, e, lt))) i ++ no_hang_there c (suc k) tick failed (omega (arith, lt)) i)
no_hang_there c k tick (false ∷ failed) lt = no_hang_there c (suc k) tick failed (omega (arith, lt))

pub hangs_at : (c k i tick : ℕ) (failed : List Bool) → c ≡ k + i → events_at c (hangs tick k failed) ≡ hang_if (get_or failed i false)
hangs_at c k i tick [] is = refl
hangs_at c k zero tick (true ∷ failed) is =
    let here : k ≡ c = omega (arith, is) in
    at_both c (timed tick k Hang ∷ []) (hangs tick (suc k) failed)
    ∙ (λ i. (ap (λ (n : ℕ). events_at c (timed tick n Hang ∷ [])) here ∙ one_here c tick Hang) i ++ no_hang_there c (suc k) tick failed (omega (arith, is)) i)
hangs_at c k zero tick (false ∷ failed) is = no_hang_there c (suc k) tick failed (omega (arith, is))
hangs_at c k (suc i) tick (true ∷ failed) is =
    at_both c (timed tick k Hang ∷ []) (hangs tick (suc k) failed)
    ∙ (λ j. one_there c k tick Hang (λ e. absurd (omega (arith, e, is))) j ++ hangs_at c (suc k) i tick failed (omega (arith, is)) j)
hangs_at c k (suc i) tick (false ∷ failed) is = hangs_at c (suc k) i tick failed (omega (arith, is))

-- what was read

one_heard_there : (c k tick : ℕ) (s : Option Talk) (reads : List Gave) (over : Bool) → k ≢ c → events_at c (events_heard tick k s reads over) ≡ []
one_heard_there c k tick None reads over ne = refl
one_heard_there c k tick (Some t) reads true ne =
    let items = items_from t.piece (bytes_of reads) in
    at_both c (all_timed tick k items) (timed tick k Hang ∷ []) ∙ (λ i. all_there c k tick items ne i ++ one_there c k tick Hang ne i)
one_heard_there c k tick (Some t) reads false ne =
    let items = items_from t.piece (bytes_of reads) in
    at_both c (all_timed tick k items) [] ∙ (λ i. all_there c k tick items ne i ++ [])

none_heard_there : (c k tick : ℕ) (seats : List (Option Talk)) (hs : List HeardOf) → c < k → events_at c (all_events_heard tick k seats hs) ≡ []
none_heard_there c k tick [] hs lt = refl
none_heard_there c k tick (s ∷ seats) [] lt = refl
none_heard_there c k tick (s ∷ seats) (h ∷ hs) lt =
    at_both c (events_heard tick k s h.reads h.over) (all_events_heard tick (suc k) seats hs)
    ∙ (λ i. one_heard_there c k tick s h.reads h.over (λ e. absurd (omega (arith, e, lt))) i ++ none_heard_there c (suc k) tick seats hs (omega (arith, lt)) i)

-- a console that wasn't read
none_said : (c tick : ℕ) (o : Option Talk) → events_at c (events_heard tick c o [] false) ≡ []
unfolding items_from
none_said c tick None = refl
none_said c tick (Some t) = refl

none_read : (o : Option Talk) → o ≡ seat_after o [] false
unfolding piece_from
none_read None = refl
none_read (Some t) = refl

pub heard_there : (c k i tick : ℕ) (seats : List (Option Talk)) (hs : List HeardOf) → c ≡ k + i →
    events_at c (all_events_heard tick k seats hs) ≡ events_at c (events_heard tick c (get_or seats i None) (get_or hs i none_heard).reads (get_or hs i none_heard).over)
heard_there c k i tick [] hs is = refl
heard_there c k i tick (s ∷ seats) [] is = sym (none_said c tick (get_or (s ∷ seats) i None))
heard_there c k zero tick (s ∷ seats) (h ∷ hs) is =
    let here : k ≡ c = omega (arith, is) in
    at_both c (events_heard tick k s h.reads h.over) (all_events_heard tick (suc k) seats hs)
    ∙ (λ j. events_at c (events_heard tick (here j) s h.reads h.over) ++ none_heard_there c (suc k) tick seats hs (omega (arith, is)) j)
    ∙ append-nil (events_at c (events_heard tick c s h.reads h.over))
heard_there c k (suc i) tick (s ∷ seats) (h ∷ hs) is =
    at_both c (events_heard tick k s h.reads h.over) (all_events_heard tick (suc k) seats hs)
    ∙ (λ j. one_heard_there c k tick s h.reads h.over (λ e. absurd (omega (arith, e, is))) j ++ heard_there c (suc k) i tick seats hs (omega (arith, is)) j)

pub seat_heard : (i : ℕ) (seats : List (Option Talk)) (hs : List HeardOf) →
    get_or (all_seats_after seats hs) i None ≡ seat_after (get_or seats i None) (get_or hs i none_heard).reads (get_or hs i none_heard).over
seat_heard i [] hs = refl
seat_heard i (s ∷ seats) [] = none_read (get_or (s ∷ seats) i None)
seat_heard zero (s ∷ seats) (h ∷ hs) = refl
seat_heard (suc i) (s ∷ seats) (h ∷ hs) = seat_heard i seats hs

-- what was sent

pub seat_sent : (texts : List (List ℕ)) (place i : ℕ) (seats : List (Option Talk)) (ts : List Told) → AreTold texts place seats ts →
    get_or (all_seats_told seats ts) i None ≡ seat_told (get_or seats i None) (get_or ts i none_told).puts (get_or ts i none_told).lost
seat_sent texts place i [] [] are = refl
seat_sent texts place i [] (t ∷ ts) are = false_is are
seat_sent texts place i (s ∷ seats) [] are = false_is are
seat_sent texts place zero (s ∷ seats) (t ∷ ts) are = refl
seat_sent texts place (suc i) (s ∷ seats) (t ∷ ts) are = seat_sent texts (suc place) i seats ts are.1

pub told_lawful : (texts : List (List ℕ)) (place i n : ℕ) (seats : List (Option Talk)) (ts : List Told) → n ≡ place + i → AreTold texts place seats ts →
    IsToldOf (get_or texts n []) (get_or seats i None) (get_or ts i none_told).puts (get_or ts i none_told).lost
told_lawful texts place i n [] [] is are = (refl, refl)
told_lawful texts place i n [] (t ∷ ts) is are = false_is are
told_lawful texts place i n (s ∷ seats) [] is are = false_is are
told_lawful texts place zero n (s ∷ seats) (t ∷ ts) is are = subst (λ (m : ℕ). IsToldOf (get_or texts m []) s t.puts t.lost) here are.0
  where
    here : place ≡ n
    here = omega (arith, is)
told_lawful texts place (suc i) n (s ∷ seats) (t ∷ ts) is are = told_lawful texts (suc place) i n seats ts (omega (arith, is)) are.1

pub lost_at : (i : ℕ) (ts : List Told) → get_or (losses ts) i false ≡ (get_or ts i none_told).lost
lost_at i [] = refl
lost_at zero (t ∷ ts) = refl
lost_at (suc i) (t ∷ ts) = lost_at i ts

-- new connections

free_ge : (k c : ℕ) (seats : List (Option Talk)) → free_from k seats ≡ Some c → k ≤ c
free_ge k c [] is = none_is c is
free_ge k c (None ∷ seats) is = omega (arith, some_is k c is)
free_ge k c (Some t ∷ seats) is = omega (arith, free_ge (suc k) c seats is)

pub free_seat : (k c i : ℕ) (seats : List (Option Talk)) → free_from k seats ≡ Some c → c ≡ k + i → get_or seats i None ≡ None
free_seat k c i [] is at = refl
free_seat k c zero (None ∷ seats) is at = refl
free_seat k c (suc i) (None ∷ seats) is at = absurd (omega (arith, some_is k c is, at))
free_seat k c zero (Some u ∷ seats) is at = absurd (omega (arith, free_ge (suc k) c seats is, at))
free_seat k c (suc i) (Some u ∷ seats) is at = free_seat (suc k) c i seats is (omega (arith, at))

pub put_here : (k c i : ℕ) (t : Talk) (seats : List (Option Talk)) → free_from k seats ≡ Some c → c ≡ k + i → get_or (put_first t seats) i None ≡ Some t
put_here k c i t [] is at = none_is c is
put_here k c zero t (None ∷ seats) is at = refl
put_here k c (suc i) t (None ∷ seats) is at = absurd (omega (arith, some_is k c is, at))
put_here k c zero t (Some u ∷ seats) is at = absurd (omega (arith, free_ge (suc k) c seats is, at))
put_here k c (suc i) t (Some u ∷ seats) is at = put_here (suc k) c i t seats is (omega (arith, at))

pub put_there : (k i : ℕ) (t : Talk) (seats : List (Option Talk)) → ((c : ℕ) → free_from k seats ≡ Some c → c ≢ k + i) → get_or (put_first t seats) i None ≡ get_or seats i None
put_there k i t [] not_at = refl
put_there k zero t (None ∷ seats) not_at = absurd (not_at k refl (omega arith))
put_there k (suc i) t (None ∷ seats) not_at = refl
put_there k zero t (Some u ∷ seats) not_at = refl
put_there k (suc i) t (Some u ∷ seats) not_at = put_there (suc k) i t seats (λ c is at. not_at c is (omega (arith, at)))

pub dial_here : (c tick : ℕ) → events_at c (dial tick (Some c)) ≡ Dial ∷ []
dial_here c tick = one_here c tick _

pub dial_there : (c k tick : ℕ) → k ≢ c → events_at c (dial tick (Some k)) ≡ []
dial_there c k tick ne = one_there c k tick _ ne
