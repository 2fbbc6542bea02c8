use Rattle.std.proofs.Common.{◌≡◌, ℕ, suc, zero, ◌+◌, ◌<◌, ◌≤◌, Bool, true, false, cond, nat_eq, List, [], ◌∷◌, ◌++◌, length, get_or, set, map, take, drop, Option, Some, None, IfSome, refl, sym, ◌∙◌, ap, subst, arith, length-set}
use Rattle.std.proofs.lemmas.List.{length-map}
use Rattle.std.proofs.lemmas.Bool.Decides.{nat_tests}
use Rattle.std.proofs.lemmas.List.Edits.{map_over_more}
use Rattle.ctss_types.specs.declared.session.Waiting.{Waiting}
use Rattle.plan_model.specs.Levels.{Levels, is_in, without_user, waits, dropped, first_of}
use Rattle.plan_model.specs.Spent.{less}
use Rattle.plan_model.proofs.Times.{none_count, out-rows, count-enter, count-out, few_others, first_counts}
use Rattle.level_queues.specs.Sound.{times, count, IsSound}

pub over_more : {X : Type 0} (f : X → X) (xs ys : List X) (i : ℕ) (x : X) → i < length xs → ys ≡ map f (take i xs) ++ drop i xs → x ≡ get_or ys i x → set ys i (f x) ≡ map f (take (i + 1) xs) ++ drop (i + 1) xs
over_more = map_over_more

any_default : {X : Type 0} (xs : List X) (i : ℕ) (d e : X) → i < length xs → get_or xs i d ≡ get_or xs i e
any_default [] i d e h = absurd (omega arith)
any_default (x ∷ xs) zero d e h = refl
any_default (x ∷ xs) (suc i) d e h = any_default xs i d e (omega arith)

pub over_at : {X : Type 0} (f : X → X) (xs ys : List X) (i : ℕ) (d z : X) → i < length xs → length ys ≡ length xs → ys ≡ map f (take i xs) ++ drop i xs → z ≡ f (get_or ys i d) → set ys i z ≡ map f (take (i + 1) xs) ++ drop (i + 1) xs
over_at f xs ys i d z h n k e =
    let within : i < length ys = omega (arith, n) in
    ap (set ys i) e ∙ map_over_more f xs ys i (get_or ys i d) h k (any_default ys i d (get_or ys i d) within)

pub not_waits : (u : ℕ) (q : Levels) → waits u (dropped u q) ≡ false
unfolding waits dropped
not_waits u q = out-rows u q.rows

pub room : (wq quantum : ℕ) (rows : List (List Waiting)) (u l : ℕ) → IsSound wq quantum rows → is_in u rows ≡ false → 1 ≤ u → u < 31 → length (get_or rows l []) < 31
room wq quantum rows u l sound none some low =
    let few = few_others 30 u l rows sound.once (λ v h. let k = sound.known v h in (k.0, omega (arith, k.1))) (none_count u rows none) some (omega (arith, low)) in
    omega (arith, few)

pub sound_enter : (wq quantum : ℕ) (rows : List (List Waiting)) (l : ℕ) (x : Waiting) → IsSound wq quantum rows → l ≤ 8 → is_in x.user rows ≡ false → (1 ≤ x.user) × (x.user < 31) → IsSound wq quantum (set rows l (get_or rows l [] ++ x ∷ []))
sound_enter wq quantum rows l x sound small none low =
    let within : l < length rows = let n = sound.nine in omega (arith, n) in
    record {
      some = sound.some;
      small = sound.small;
      nine = simp length-set sound.nine;
      once = λ v. once v (nat_eq x.user v) (λ e. eq v e) (count-enter v rows l x within);
      known = λ v. known v (nat_eq x.user v) (λ e. here v e) (count-enter v rows l x within);
    }
  where
    eq : (v : ℕ) → nat_eq x.user v ≡ true → count v rows ≡ 0
    eq v e = let s : x.user ≡ v = grind (arith, nat_tests) in subst (λ (w : ℕ). count w rows ≡ 0) s (none_count x.user rows none)

    once : (v : ℕ) (b : Bool) → (b ≡ true → count v rows ≡ 0) → count v (set rows l (get_or rows l [] ++ x ∷ [])) ≡ count v rows + (cond b 1 0 + 0) → count v (set rows l (get_or rows l [] ++ x ∷ [])) ≤ 1
    once v true zero_here e = let z = zero_here refl in omega (arith, e, z)
    once v false zero_here e = let z = sound.once v in omega (arith, e, z)

    here : (v : ℕ) → nat_eq x.user v ≡ true → (1 ≤ v) × (v < 31)
    here v e = let s : x.user ≡ v = grind (arith, nat_tests) in subst (λ (w : ℕ). (1 ≤ w) × (w < 31)) s low

    known : (v : ℕ) (b : Bool) → (b ≡ true → (1 ≤ v) × (v < 31)) → count v (set rows l (get_or rows l [] ++ x ∷ [])) ≡ count v rows + (cond b 1 0 + 0) → 1 ≤ count v (set rows l (get_or rows l [] ++ x ∷ [])) → (1 ≤ v) × (v < 31)
    known v true here e h = here refl
    known v false here e h = let more : 1 ≤ count v rows = omega (arith, e, h) in sound.known v more

pub sound_out : (wq quantum : ℕ) (rows : List (List Waiting)) (u : ℕ) → IsSound wq quantum rows → IsSound wq quantum (map (without_user u) rows)
sound_out wq quantum rows u sound =
    record {
      some = sound.some;
      small = sound.small;
      nine = simp length-map sound.nine;
      once = λ v. let a = count-out v u rows in let b = sound.once v in omega (arith, a, b);
      known = λ v h. let a = count-out v u rows in let more : 1 ≤ count v rows = omega (arith, a, h) in sound.known v more;
    }

times-spent_by : (v n u : ℕ) (b : Bool) (x : Waiting) → nat_eq x.user u ≡ b → nat_eq (less n u x).user v ≡ nat_eq x.user v
times-spent_by v n u true x e = rw e refl
times-spent_by v n u false x e = rw e refl

times-spent : (v n u : ℕ) (row : List Waiting) → times v (map (less n u) row) ≡ times v row
times-spent v n u [] = refl
times-spent v n u (x ∷ xs) = rw (times-spent_by v n u (nat_eq x.user u) x refl, times-spent v n u xs) refl

count-spent : (v n u : ℕ) (rows : List (List Waiting)) → count v (map (map (less n u)) rows) ≡ count v rows
count-spent v n u [] = refl
count-spent v n u (row ∷ rows) = rw (times-spent v n u row, count-spent v n u rows) refl

pub sound_spent : (wq quantum : ℕ) (rows : List (List Waiting)) (n u : ℕ) → IsSound wq quantum rows → IsSound wq quantum (map (map (less n u)) rows)
sound_spent wq quantum rows n u sound =
    record {
      some = sound.some;
      small = sound.small;
      nine = simp length-map sound.nine;
      once = λ v. let a = count-spent v n u rows in let b = sound.once v in omega (arith, a, b);
      known = λ v h. let a = count-spent v n u rows in let more : 1 ≤ count v rows = omega (arith, a, h) in sound.known v more;
    }

pub first_known : (wq quantum : ℕ) (rows : List (List Waiting)) (p : ℕ × Waiting) → IsSound wq quantum rows → first_of 0 rows ≡ Some p → (1 ≤ (p.1).user) × ((p.1).user ≤ 30)
first_known wq quantum rows p sound h = let k = sound.known (p.1).user (first_counts 0 rows p h) in (k.0, omega (arith, k.1))

pub first_known_if : (wq quantum : ℕ) (rows : List (List Waiting)) (o : Option (ℕ × Waiting)) → IsSound wq quantum rows → o ≡ first_of 0 rows → IfSome o (λ p. (1 ≤ (p.1).user) × ((p.1).user ≤ 30))
first_known_if wq quantum rows None sound h = tt
first_known_if wq quantum rows (Some p) sound h = first_known wq quantum rows p sound (sym h)

pub ruleset entering = (room, sound_enter)
