-- The lowest free console.
use Rattle.std.specs.Prelude.{min, ◌-◌, ◌^◌, length, get_or, set, Option, Some, None}
use Rattle.std.proofs.Common.{◌≡◌, ℕ, zero, suc, ◌+◌, ◌≤◌, List, [], ◌∷◌, refl, sym, ◌∙◌, ap, subst, arith}
use Rattle.std.proofs.lemmas.List.{append-nil}
use Rattle.ctss_types.specs.declared.script.Event.TheVariants.{Dial}
use Rattle.ctss_types.specs.declared.script.Timed.{Timed}
use Rattle.console_link.specs.Links.{LinkSeen, Did, DidClose}
use Rattle.console_server.specs.declared.tasks.Task.{Task}
use Rattle.live_core.specs.Core.{CoreCall}
use Rattle.console_server.specs.Given.{IsGiven}
use Rattle.console_server.specs.Readings.{DidAll, Nothing, Then, timed}
use Rattle.console_server.specs.Turns.{Talk, free_from, put_first, talk_of, end_of, seats_with, calls_of_new, dial}
use Rattle.console_server.specs.Seats.{Stands, StandAll}

number_in : Option ℕ → ℕ
number_in None = 0
number_in (Some n) = n

is_of : (a b : ℕ) → Some a ≡ Some b → a ≡ b
unfolding number_in
is_of a b h = ap number_in h

none_is_some : {X : Type 0} {n : ℕ} → None ≡ Some n → X
none_is_some {X} {n} is = absurd (subst IsNone_of is tt)
  where
    IsNone_of : Option ℕ → Type 0
    IsNone_of None = Unit {0}
    IsNone_of (Some m) = ⊥

free_ge : {T : Type 0} (k n : ℕ) (xs : List (Option T)) → free_from k xs ≡ Some n → k ≤ n
free_ge k n [] is = none_is_some is
free_ge k n (None ∷ xs) is = omega (arith, is_of k n is)
free_ge k n (Some t ∷ xs) is = omega (arith, free_ge (suc k) n xs is)

-- consoles are numbered from 1, places from 0
pub free_console : (k n : ℕ) (seats : List (Option Task)) (desk : List (Option Talk)) → StandAll seats desk → free_from k seats ≡ Some n → free_from (suc k) desk ≡ Some (n + 1)
free_console k n [] [] s is = none_is_some is
free_console k n [] (d ∷ desk) s is = absurd s
free_console k n (x ∷ seats) [] s is = absurd s
free_console k n (None ∷ seats) (None ∷ desk) s is = ap (λ (m : ℕ). Some m) more
  where
    more : suc k ≡ n + 1
    more = omega (arith, is_of k n is)
free_console k n (None ∷ seats) (Some d ∷ desk) s is = absurd s.0
free_console k n (Some t ∷ seats) (None ∷ desk) s is = absurd s.0
free_console k n (Some t ∷ seats) (Some d ∷ desk) s is = free_console (suc k) n seats desk s.1 is

pub free_none : (k : ℕ) (seats : List (Option Task)) (desk : List (Option Talk)) → StandAll seats desk → free_from k seats ≡ None → free_from (suc k) desk ≡ None
free_none k [] [] s is = refl
free_none k [] (d ∷ desk) s is = absurd s
free_none k (x ∷ seats) [] s is = absurd s
free_none k (None ∷ seats) (None ∷ desk) s is = none_is_some (sym is)
free_none k (None ∷ seats) (Some d ∷ desk) s is = absurd s.0
free_none k (Some t ∷ seats) (None ∷ desk) s is = absurd s.0
free_none k (Some t ∷ seats) (Some d ∷ desk) s is = free_none (suc k) seats desk s.1 is

pub put_none : (k : ℕ) (t : Talk) (desk : List (Option Talk)) → free_from k desk ≡ None → put_first t desk ≡ desk
put_none k t [] is = refl
put_none k t (None ∷ desk) is = none_is_some (sym is)
put_none k t (Some d ∷ desk) is = ap (λ (l : List (Option Talk)). Some d ∷ l) (put_none (suc k) t desk is)

pub put_stands : (k j : ℕ) (seats : List (Option Task)) (desk : List (Option Talk)) (task : Task) (talk : Talk) → StandAll seats desk → free_from k seats ≡ Some (k + j) → Stands (Some task) (Some talk) → StandAll (set seats j (Some task)) (put_first talk desk)
put_stands k j [] [] task talk s is new = none_is_some is
put_stands k j [] (d ∷ desk) task talk s is new = absurd s
put_stands k j (x ∷ seats) [] task talk s is new = absurd s
put_stands k zero (None ∷ seats) (None ∷ desk) task talk s is new = (new, s.1)
put_stands k (suc j) (None ∷ seats) (None ∷ desk) task talk s is new = absurd (omega (arith, is_of k (k + suc j) is))
put_stands k j (None ∷ seats) (Some d ∷ desk) task talk s is new = absurd s.0
put_stands k j (Some t ∷ seats) (None ∷ desk) task talk s is new = absurd s.0
put_stands k zero (Some t ∷ seats) (Some d ∷ desk) task talk s is new = absurd (omega (arith, free_ge (suc k) (k + 0) seats is))
put_stands k (suc j) (Some t ∷ seats) (Some d ∷ desk) task talk s is new = (s.0, put_stands (suc k) j seats desk task talk s.1 (is ∙ ap (λ (m : ℕ). Some m) more) new)
  where
    more : k + suc j ≡ suc k + j
    more = omega arith

pub closed_at_once : (id : ℕ) (console : Option ℕ) (a b : LinkSeen) → console ≡ None → Did (DidClose id) a b → DidAll (calls_of_new console id) a b
closed_at_once id None a b is did = Then (DidClose id) [] a b b did (Nothing b)
closed_at_once id (Some n) a b is did = none_is_some (sym is)

pub kept_open : (id : ℕ) (console : Option ℕ) (n : ℕ) (a : LinkSeen) → console ≡ Some n → DidAll (calls_of_new console id) a a
kept_open id None n a is = none_is_some is
kept_open id (Some m) n a is = Nothing a

-- a new connection's task stands for its talk
pub seat_stands : (texts : List (List ℕ)) (seats : List (Option Task)) (desk : List (Option Talk)) (i console id : ℕ) (task : Task) → StandAll seats desk → free_from 0 seats ≡ Some i → console ≡ i + 1 →
    task.id ≡ id → task.wire ≡ [] → task.place ≡ min (length (get_or texts (console - 1) [])) (2 ^ 64 - 1) → StandAll (set seats i (Some task)) (seats_with texts id desk)
seat_stands texts seats desk i console id task s free is number wire place =
    put_stands 0 i seats desk task (talk_of texts (free_from 1 desk) id) s (free ∙ ap (λ (m : ℕ). Some m) plus)
    (record { id = number; wire = wire; place = place ∙ sym (ap (end_of texts) (free_console 0 i seats desk s free ∙ ap (λ (m : ℕ). Some m) (sym is))) })
  where
    plus : i ≡ 0 + i
    plus = omega arith

module _ {C : Type 0} (goes : C → List CoreCall → C → Type 0) (none : (a : C) → goes a [] a) where
  pub dialled_none : (tick : ℕ) (console : Option ℕ) (p : C) (x : List Timed) → console ≡ None → IsGiven goes (dial tick console) p p x x
  dialled_none tick None p x is = record { core = none p; noted = sym (append-nil x) }
  dialled_none tick (Some n) p x is = none_is_some (sym is)

  pub dialled : (tick n m : ℕ) (console : Option ℕ) (p q : C) (x y : List Timed) → console ≡ Some m → n ≡ m → IsGiven goes (timed tick n Dial ∷ []) p q x y → IsGiven goes (dial tick console) p q x y
  dialled tick n m None p q x y is same given = none_is_some is
  dialled tick n m (Some k) p q x y is same given = subst (λ (c : ℕ). IsGiven goes (timed tick c Dial ∷ []) p q x y) (same ∙ sym (is_of k m is)) given
