-- Users that rise, and a tick before which none does.
use Rattle.std.proofs.Common.{◌≡◌, ℕ, suc, zero, ◌+◌, ◌-◌, ◌<◌, ◌≤◌, Bool, true, false, cond, not, ◌&&◌, nat_eq, nat_le, List, [], ◌∷◌, ◌++◌, length, get_or, set, map, take, drop, Option, Some, None, IfSome, refl, sym, ◌∙◌, ap, subst, arith}
use Rattle.std.proofs.lemmas.List.{length-map}
use Rattle.std.proofs.Math.Seq.{take-length}
use Rattle.std.proofs.lemmas.Bool.Decides.{nat_tests}
use Rattle.ctss_types.specs.declared.session.Waiting.{Waiting}
use Rattle.plan_model.specs.Levels.{Levels, without_user, from_now, is_served, has_waited, first_that, at_or, first_with, riser}
use Rattle.plan_model.specs.Spent.{less, NobodyRises}
use Rattle.std.specs.Option.{is_some}
use Rattle.level_queues.specs.Sound.{times, count, AreEmpty, IsSound, RowIsLater, AreLater, RiseLater, covers}

-- to have waited
over : (a n : ℕ) → n < a → nat_le a n ≡ false
over a n h = grind (arith, nat_tests)

pub waited_so_long : (age since now : ℕ) → 0 < age → nat_le age (now - since) ≡ nat_le (since + age) now
waited_so_long age since now some = grind (arith, nat_tests)

besides_too : (b s : Option ℕ) (u : ℕ) → covers b s ≡ true → is_served s u ≡ false → is_served b u ≡ false
besides_too None s u c e = refl
besides_too (Some a) None u c e = cc
besides_too (Some a) (Some v) u c e = let same : a ≡ v = grind (arith, nat_tests) in ap (λ (k : ℕ). nat_eq k u) same ∙ e

not_yet : (age soon t : ℕ) (b s : Option ℕ) (x : Waiting) → covers b s ≡ true → t < soon → (is_served b x.user ≡ false → soon ≤ x.since + age) → has_waited age s t x ≡ false
not_yet age soon t b s x cover early later = by_test (is_served s x.user) refl
  where
    by_test : (c : Bool) → is_served s x.user ≡ c → (not c && nat_le (x.since + age) t) ≡ false
    by_test true e = refl
    by_test false e = let k = later (besides_too b s x.user cover e) in over (x.since + age) t (omega (arith, k, early))

none_in_row : (age soon t : ℕ) (b s : Option ℕ) (row : List Waiting) → covers b s ≡ true → t < soon → RowIsLater age soon b row → first_that (has_waited age s t) row ≡ None
none_in_row age soon t b s [] cover early later = refl
none_in_row age soon t b s (x ∷ row) cover early later =
    ap (λ (c : Bool). cond c (Some x) (first_that (has_waited age s t) row)) (not_yet age soon t b s x cover early later.0) ∙ none_in_row age soon t b s row cover early later.1

none_in_rows : (age soon t l : ℕ) (b s : Option ℕ) (rows : List (List Waiting)) → covers b s ≡ true → t < soon → AreLater age soon b rows → first_with (has_waited age s t) l rows ≡ None
none_in_rows age soon t l b s [] cover early later = refl
none_in_rows age soon t l b s (row ∷ rows) cover early later =
    ap (λ (o : Option Waiting). at_or l o (first_with (has_waited age s t) (suc l) rows)) (none_in_row age soon t b s row cover early later.0) ∙ none_in_rows age soon t (suc l) b s rows cover early later.1

pub nobody_before : (t soon : ℕ) (b s : Option ℕ) (q : Levels) → 0 < q.age → RiseLater q.age soon b q.rows → covers b s ≡ true → t < soon → riser s t q ≡ None
unfolding riser
nobody_before t soon b s q some later cover early =
    let off : nat_eq q.age 0 ≡ false = grind (arith, nat_tests) in
    ap (λ (c : Bool). cond c None (first_with (has_waited q.age s t) 1 (drop 1 q.rows))) off ∙ none_in_rows q.age soon t 1 b s (drop 1 q.rows) cover early (later some)

pub nobody_ever : (t : ℕ) (s : Option ℕ) (q : Levels) → q.age ≡ 0 → riser s t q ≡ None
unfolding riser
nobody_ever t s q none = let on : nat_eq q.age 0 ≡ true = grind (arith, nat_tests) in ap (λ (c : Bool). cond c None (first_with (has_waited q.age s t) 1 (drop 1 q.rows))) on

pub never : (until : ℕ) (s : Option ℕ) (q : Levels) → q.age ≡ 0 → NobodyRises s until q
unfolding NobodyRises
never until s q none t early = nobody_ever t s q none

pub before : (soon : ℕ) (b s : Option ℕ) (q : Levels) → 0 < q.age → RiseLater q.age soon b q.rows → covers b s ≡ true → NobodyRises s soon q
unfolding NobodyRises
before soon b s q some later cover t early = nobody_before t soon b s q some later cover early

pub not_before_all : (s : Option ℕ) (q : Levels) → NobodyRises s 0 q
unfolding NobodyRises
not_before_all s q t early = absurd (omega (arith, early))

pub none_yet : (t until : ℕ) (s : Option ℕ) (q : Levels) → NobodyRises s until q → t < until → is_some (riser s t q) ≡ false
unfolding NobodyRises
none_yet t until s q nobody early = ap is_some (nobody t early)

-- an earlier tick
pub row_earlier : (age soon less : ℕ) (b : Option ℕ) (row : List Waiting) → RowIsLater age soon b row → less ≤ soon → RowIsLater age less b row
row_earlier age soon less b [] h le = tt
row_earlier age soon less b (x ∷ row) h le = (λ e. let k = h.0 e in omega (arith, k, le), row_earlier age soon less b row h.1 le)

pub front_of : {X : Type 0} (xs : List X) (x : X) → 1 ≤ length xs → x ≡ get_or xs 0 x → xs ≡ x ∷ take (length xs - 1) (drop 1 xs)
front_of [] x h e = absurd (omega (arith, h))
front_of (y ∷ ys) x h e =
    let k : suc (length ys) - 1 ≡ length ys = omega arith in
    ap (λ z. z ∷ ys) (sym e) ∙ ap (λ zs. x ∷ zs) (sym (take-length ys)) ∙ ap (λ (n : ℕ). x ∷ take n ys) (sym k)

pub rows_later : (age soon less : ℕ) (b : Option ℕ) (row : List Waiting) (rest rows : List (List Waiting)) → rows ≡ row ∷ rest → RowIsLater age soon b row → less ≤ soon → AreLater age less b rest → AreLater age less b rows
rows_later age soon less b row rest rows is h le more = subst (AreLater age less b) (sym is) (row_earlier age soon less b row h le, more)

rows_earlier : (age soon less : ℕ) (b : Option ℕ) (rows : List (List Waiting)) → AreLater age soon b rows → less ≤ soon → AreLater age less b rows
rows_earlier age soon less b [] h le = tt
rows_earlier age soon less b (row ∷ rows) h le = (row_earlier age soon less b row h.0 le, rows_earlier age soon less b rows h.1 le)

-- a user less
row_out_by : (age soon : ℕ) (b : Option ℕ) (c : Bool) (x : Waiting) (xs : List Waiting) → (is_served b x.user ≡ false → soon ≤ x.since + age) → RowIsLater age soon b xs → RowIsLater age soon b (cond (not c) (x ∷ xs) xs)
row_out_by age soon b true x xs h rest = rest
row_out_by age soon b false x xs h rest = (h, rest)

row_out : (age soon u : ℕ) (b : Option ℕ) (row : List Waiting) → RowIsLater age soon b row → RowIsLater age soon b (without_user u row)
row_out age soon u b [] h = tt
row_out age soon u b (x ∷ row) h = row_out_by age soon b (nat_eq x.user u) x (without_user u row) h.0 (row_out age soon u b row h.1)

rows_out : (age soon u : ℕ) (b : Option ℕ) (rows : List (List Waiting)) → AreLater age soon b rows → AreLater age soon b (map (without_user u) rows)
rows_out age soon u b [] h = tt
rows_out age soon u b (row ∷ rows) h = (row_out age soon u b row h.0, rows_out age soon u b rows h.1)

pub rise_out : (age soon u : ℕ) (b : Option ℕ) (rows : List (List Waiting)) → RiseLater age soon b rows → RiseLater age soon b (map (without_user u) rows)
rise_out age soon u b [] h some = tt
rise_out age soon u b (row ∷ rows) h some = rows_out age soon u b rows (h some)

-- users that keep their tick
row_spent : (age soon n u : ℕ) (b : Option ℕ) (row : List Waiting) → RowIsLater age soon b row → RowIsLater age soon b (map (less n u) row)
row_spent age soon n u b [] h = tt
row_spent age soon n u b (x ∷ row) h = (by_test (nat_eq x.user u), row_spent age soon n u b row h.1)
  where
    by_test : (c : Bool) → is_served b (cond c (record x { left = x.left - n }) x).user ≡ false → soon ≤ (cond c (record x { left = x.left - n }) x).since + age
    by_test true e = h.0 e
    by_test false e = h.0 e

rows_spent : (age soon n u : ℕ) (b : Option ℕ) (rows : List (List Waiting)) → AreLater age soon b rows → AreLater age soon b (map (map (less n u)) rows)
rows_spent age soon n u b [] h = tt
rows_spent age soon n u b (row ∷ rows) h = (row_spent age soon n u b row h.0, rows_spent age soon n u b rows h.1)

pub rise_spent : (age soon n u : ℕ) (b : Option ℕ) (rows : List (List Waiting)) → RiseLater age soon b rows → RiseLater age soon b (map (map (less n u)) rows)
rise_spent age soon n u b [] h some = tt
rise_spent age soon n u b (row ∷ rows) h some = rows_spent age soon n u b rows (h some)

-- a user that waits from now on
row_now : (age soon u now : ℕ) (b : Option ℕ) (row : List Waiting) → RowIsLater age soon b row → soon ≤ now + age → RowIsLater age soon b (map (from_now u now) row)
row_now age soon u now b [] h le = tt
row_now age soon u now b (x ∷ row) h le = (by_test (nat_eq x.user u), row_now age soon u now b row h.1 le)
  where
    by_test : (c : Bool) → is_served b (cond c (record x { since = now }) x).user ≡ false → soon ≤ (cond c (record x { since = now }) x).since + age
    by_test true e = le
    by_test false e = h.0 e

rows_now : (age soon u now : ℕ) (b : Option ℕ) (rows : List (List Waiting)) → AreLater age soon b rows → soon ≤ now + age → AreLater age soon b (map (map (from_now u now)) rows)
rows_now age soon u now b [] h le = tt
rows_now age soon u now b (row ∷ rows) h le = (row_now age soon u now b row h.0 le, rows_now age soon u now b rows h.1 le)

pub rise_now : (age soon less u now : ℕ) (b : Option ℕ) (rows : List (List Waiting)) → RiseLater age soon b rows → less ≤ soon → less ≤ now + age → RiseLater age less b (map (map (from_now u now)) rows)
rise_now age soon less u now b [] h le up some = tt
rise_now age soon less u now b (row ∷ rows) h le up some = rows_now age less u now b rows (rows_earlier age soon less b rows (h some) le) up

-- a user more
row_more : (age soon : ℕ) (b : Option ℕ) (row : List Waiting) (x : Waiting) → RowIsLater age soon b row → soon ≤ x.since + age → RowIsLater age soon b (row ++ x ∷ [])
row_more age soon b [] x h le = (λ e. le, tt)
row_more age soon b (y ∷ row) x h le = (h.0, row_more age soon b row x h.1 le)

rows_more : (age soon : ℕ) (b : Option ℕ) (rows : List (List Waiting)) (l : ℕ) (x : Waiting) → AreLater age soon b rows → soon ≤ x.since + age → AreLater age soon b (set rows l (get_or rows l [] ++ x ∷ []))
rows_more age soon b [] l x h le = tt
rows_more age soon b (row ∷ rows) zero x h le = (row_more age soon b row x h.0 le, h.1)
rows_more age soon b (row ∷ rows) (suc l) x h le = (h.0, rows_more age soon b rows l x h.1 le)

pub rise_enter : (age soon less now l : ℕ) (b : Option ℕ) (rows : List (List Waiting)) (x : Waiting) → RiseLater age soon b rows → less ≤ soon → (0 < l → less ≤ now + age) → x.since ≡ now
    → RiseLater age less b (set rows l (get_or rows l [] ++ x ∷ []))
rise_enter age soon less now l b [] x h le up is some = tt
rise_enter age soon less now zero b (row ∷ rows) x h le up is some = rows_earlier age soon less b rows (h some) le
rise_enter age soon less now (suc l) b (row ∷ rows) x h le up is some =
    let k = up (omega arith) in
    rows_more age less b rows l x (rows_earlier age soon less b rows (h some) le) (omega (arith, k, is))

-- counts of users where none goes or comes
from_now_user : (u now : ℕ) (x : Waiting) → (from_now u now x).user ≡ x.user
from_now_user u now x = by_test (nat_eq x.user u)
  where
    by_test : (c : Bool) → (cond c (record x { since = now }) x).user ≡ x.user
    by_test true = refl
    by_test false = refl

times_now : (v u now : ℕ) (row : List Waiting) → times v (map (from_now u now) row) ≡ times v row
times_now v u now [] = refl
times_now v u now (x ∷ row) =
    ap (λ (k : ℕ). cond (nat_eq k v) 1 0 + times v (map (from_now u now) row)) (from_now_user u now x) ∙ ap (λ (k : ℕ). cond (nat_eq x.user v) 1 0 + k) (times_now v u now row)

count_now : (v u now : ℕ) (rows : List (List Waiting)) → count v (map (map (from_now u now)) rows) ≡ count v rows
count_now v u now [] = refl
count_now v u now (row ∷ rows) = omega (arith, times_now v u now row, count_now v u now rows)

pub sound_now : (wq quantum : ℕ) (rows : List (List Waiting)) (u now : ℕ) → IsSound wq quantum rows → IsSound wq quantum (map (map (from_now u now)) rows)
sound_now wq quantum rows u now sound =
    record {
      some = sound.some;
      small = sound.small;
      nine = simp length-map sound.nine;
      once = λ v. let a = count_now v u now rows in let b = sound.once v in omega (arith, a, b);
      known = λ v h. let a = count_now v u now rows in let more : 1 ≤ count v rows = omega (arith, a, h) in sound.known v more;
    }

pub empty_now : (n u now : ℕ) (rows : List (List Waiting)) → AreEmpty n rows → AreEmpty n (map (map (from_now u now)) rows)
empty_now zero u now rows h = tt
empty_now (suc n) u now [] h = tt
empty_now (suc n) u now (row ∷ rows) h = (ap (map (from_now u now)) h.0, empty_now n u now rows h.1)

-- who rises is known
that_counts : (p : Waiting → Bool) (row : List Waiting) (x : Waiting) → first_that p row ≡ Some x → 1 ≤ times x.user row
that_counts p [] x e = cc
that_counts p (y ∷ row) x e = by_test (that_counts p row x) (p y) e
  where
    here : (c : Bool) → c ≡ true → 1 ≤ cond c 1 0 + times x.user row
    here true e = omega arith
    here false e = cc

    more : (c : Bool) → 1 ≤ times x.user row → 1 ≤ cond c 1 0 + times x.user row
    more true h = omega arith
    more false h = omega (arith, h)

    by_test : (first_that p row ≡ Some x → 1 ≤ times x.user row) → (c : Bool) → cond c (Some y) (first_that p row) ≡ Some x → 1 ≤ times x.user (y ∷ row)
    by_test rest true e = let same : y ≡ x = cc in here (nat_eq y.user x.user) (let s : y.user ≡ x.user = ap (λ (z : Waiting). z.user) same in grind (arith, nat_tests))
    by_test rest false e = more (nat_eq y.user x.user) (rest e)

with_counts : (p : Waiting → Bool) (l : ℕ) (rows : List (List Waiting)) (x : ℕ × Waiting) → first_with p l rows ≡ Some x → 1 ≤ count (x.1).user rows
with_counts p l [] x e = cc
with_counts p l (row ∷ rows) x e = by_first (with_counts p (suc l) rows x) (first_that p row) refl e
  where
    by_first : (first_with p (suc l) rows ≡ Some x → 1 ≤ count (x.1).user rows) → (o : Option Waiting) → first_that p row ≡ o → at_or l o (first_with p (suc l) rows) ≡ Some x → 1 ≤ count (x.1).user (row ∷ rows)
    by_first rest None is e = omega (arith, rest e)
    by_first rest (Some y) is e =
        let same : (l, y) ≡ x = cc in
        subst (λ (z : ℕ × Waiting). 1 ≤ count (z.1).user (row ∷ rows)) same (omega (arith, that_counts p row y is))

behind_counts : (p : Waiting → Bool) (rows : List (List Waiting)) (x : ℕ × Waiting) → first_with p 1 (drop 1 rows) ≡ Some x → 1 ≤ count (x.1).user rows
behind_counts p [] x e = cc
behind_counts p (row ∷ rows) x e = omega (arith, with_counts p 1 rows x e)

pub waiting_known : (wq quantum : ℕ) (rows : List (List Waiting)) (p : Waiting → Bool) (o : Option (ℕ × Waiting)) → IsSound wq quantum rows → o ≡ first_with p 1 (drop 1 rows)
    → IfSome o (λ x. (1 ≤ (x.1).user) × ((x.1).user ≤ 30))
waiting_known wq quantum rows p None sound e = tt
waiting_known wq quantum rows p (Some x) sound e = let k = sound.known (x.1).user (behind_counts p rows x (sym e)) in (k.0, omega (arith, k.1))

-- nobody waits
row_none : (age soon : ℕ) (b : Option ℕ) (row : List Waiting) → row ≡ [] → RowIsLater age soon b row
row_none age soon b [] e = tt
row_none age soon b (x ∷ row) e = cc

rows_none : (age soon : ℕ) (b : Option ℕ) (n : ℕ) (rows : List (List Waiting)) → AreEmpty n rows → length rows ≤ n → AreLater age soon b rows
rows_none age soon b n [] h le = tt
rows_none age soon b zero (row ∷ rows) h le = absurd (omega (arith, le))
rows_none age soon b (suc n) (row ∷ rows) h le = (row_none age soon b row h.0, rows_none age soon b n rows h.1 (omega (arith, le)))

pub rise_none : (age soon : ℕ) (b : Option ℕ) (rows : List (List Waiting)) → AreEmpty 9 rows → length rows ≡ 9 → RiseLater age soon b rows
rise_none age soon b [] h is some = tt
rise_none age soon b (row ∷ rows) h is some = rows_none age soon b 8 rows h.1 (omega (arith, is))
