-- Fields of a case and index registers, one after the other.
use Rattle.std.proofs.Common.{◌≡◌, ◌≢◌, ℕ, ◌+◌, ◌-◌, ◌<◌, List, [], map, length, get_or, set, nat_eq, false, sym, ◌∙◌, refl, subst, arith, below_more, get_or-set_same, get_or-set_other, Bor}
use Rattle.std.proofs.lemmas.Bool.{ne_eqb}
use Rattle.std.proofs.lemmas.List.{get_or-map, length-set}
use Rattle.cpu_regs.specs.Index.{with_index}
use Rattle.step_cases.specs.Fields.{field_at}

-- the text of a field
pub field_in : (fields : List (Bor (List ℕ))) (k : ℕ) (d : Bor (List ℕ)) → k < length fields → (get_or fields k d).now ≡ field_at (map (λ field. field.now) fields) k
field_in fields k d h = sym (get_or-map (λ field. field.now) fields k d [] h)

-- an index register that is set
is_set : (xs : List ℕ) (tag v : ℕ) → 0 < tag → with_index xs tag v ≡ set xs (tag - 1) v
is_set xs tag v h =
    let tagged : nat_eq tag 0 ≡ false = ne_eqb tag 0 (λ e. omega (arith, e, h)) in
    rw tagged refl

-- one more index register is set
pub one_more : (xs ys : List ℕ) (tag v : ℕ) (wanted : ℕ → ℕ) → ys ≡ with_index xs tag v → length xs ≡ 7 → 0 < tag → tag < 8 → v ≡ wanted (tag - 1) → ((k : ℕ) → k < tag - 1 → get_or xs k 0 ≡ wanted k) → (length ys ≡ 7) × ((k : ℕ) → k < tag + 1 - 1 → get_or ys k 0 ≡ wanted k)
one_more xs ys tag v wanted e seven low high value before =
    let i : ℕ = tag - 1 in
    let at : i < length xs = omega arith in
    let Wanted : List ℕ → Type 0 = λ l. (length l ≡ 7) × ((k : ℕ) → k < tag + 1 - 1 → get_or l k 0 ≡ wanted k) in
    let lower : (k : ℕ) → k < i → get_or (set xs i v) k 0 ≡ wanted k = λ k h. let other : k ≢ i = omega arith in rw get_or-set_other (before k h) in
    let here : get_or (set xs i v) i 0 ≡ wanted i = rw get_or-set_same value in
    subst Wanted (sym (e ∙ is_set xs tag v low)) (length-set xs i v ∙ seven, λ k h. below_more (λ j. get_or (set xs i v) j 0 ≡ wanted j) i lower here k (omega (arith, h, low)))
