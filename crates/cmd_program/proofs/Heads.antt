-- The registers in the first words of a saved program one after another, and the words of its core.
use Rattle.std.proofs.Common.{◌≡◌, ◌≤◌, ◌<◌, ◌+◌, ◌-◌, ℕ, false, nat_eq, zero, suc, List, [], ◌∷◌, ◌++◌, length, map, take, drop, slice_index, slice_set, append_assoc, add-one, refl, sym, ap, ◌∙◌, arith}
use Rattle.std.proofs.lemmas.List.{append-nil, drop_all, take_all}
use Rattle.std.proofs.Math.Seq.{take-suc}
use Rattle.std.proofs.lemmas.Bool.{ne_eqb}
use Rattle.cpu_regs.specs.Index.{with_index}
use Rattle.cpu_regs.specs.Registers.{set_xr}
use Rattle.cpu_regs.specs.declared.regs.Regs.{Regs}
use Rattle.program_model.specs.Lines.{with_words}
use Rattle.program_model.specs.Saved.{tags, index_in}

-- the first that is not yet set
put_next : (f : ℕ → ℕ) (ws xs : List ℕ) (k : ℕ) → k < length ws → k < length xs →
    slice_set (map f (take k ws) ++ drop k xs) k (f (slice_index ws k)) ≡ map f (take (k + 1) ws) ++ drop (k + 1) xs
put_next f [] xs k h j = absurd (omega arith)
put_next f (w ∷ ws) [] k h j = absurd (omega arith)
put_next f (w ∷ ws) (x ∷ xs) zero h j = refl
put_next f (w ∷ ws) (x ∷ xs) (suc k) h j =
    let e : suc (k + 1) ≡ suc k + 1 = omega arith in
    ap (λ (ys : List ℕ). f w ∷ ys) (put_next f ws xs k (omega (arith, h)) (omega (arith, j)))
    ∙ ap (λ (n : ℕ). map f (take n (w ∷ ws)) ++ drop n (x ∷ xs)) e

tag_at : (tag : ℕ) → 1 ≤ tag → tag < 8 → slice_index tags (tag - 1) ≡ tag
tag_at zero p q = absurd (omega (arith, p))
tag_at (suc zero) p q = refl
tag_at (suc (suc zero)) p q = refl
tag_at (suc (suc (suc zero))) p q = refl
tag_at (suc (suc (suc (suc zero)))) p q = refl
tag_at (suc (suc (suc (suc (suc zero))))) p q = refl
tag_at (suc (suc (suc (suc (suc (suc zero)))))) p q = refl
tag_at (suc (suc (suc (suc (suc (suc (suc zero))))))) p q = refl
tag_at (suc (suc (suc (suc (suc (suc (suc (suc n)))))))) p q = absurd (omega (arith, q))

-- the indexes of tags up to k, and the others as they were
abbrev pub indexes_to : (k : ℕ) (ws xs : List ℕ) → List ℕ
indexes_to k ws xs = map (index_in ws) (take k tags) ++ drop k xs

indexes_next : (ws xs : List ℕ) (tag v : ℕ) → 1 ≤ tag → tag < 8 → length xs ≡ 7 → v ≡ index_in ws tag →
    with_index (indexes_to (tag - 1) ws xs) tag v ≡ indexes_to (tag + 1 - 1) ws xs
indexes_next ws xs tag v p q j e =
    let seven : length tags ≡ 7 = refl in
    let n : tag - 1 < length tags = omega (arith, seven) in
    let m : tag - 1 < length xs = omega arith in
    let some : nat_eq tag 0 ≡ false = ne_eqb tag 0 (λ z. omega (arith, z)) in
    let a : tag - 1 + 1 ≡ tag + 1 - 1 = omega arith in
    let value : v ≡ index_in ws (slice_index tags (tag - 1)) = e ∙ ap (index_in ws) (sym (tag_at tag p q)) in
    rw some
    (ap (slice_set (indexes_to (tag - 1) ws xs) (tag - 1)) value
    ∙ put_next (index_in ws) tags xs (tag - 1) n m
    ∙ ap (λ (k : ℕ). indexes_to k ws xs) a)

abbrev pub with_indexes : Regs → List ℕ → Regs
with_indexes r xs = record r { index = xs }

-- the register of one more tag is set
pub set_next : (ws : List ℕ) (first before after : Regs) (tag v : ℕ) → 1 ≤ tag → tag < 8 → length first.index ≡ 7 →
    before ≡ with_indexes first (indexes_to (tag - 1) ws first.index) → v ≡ index_in ws tag → after ≡ set_xr before tag v →
    after ≡ with_indexes first (indexes_to (tag + 1 - 1) ws first.index)
set_next ws first before after tag v p q j e d g =
    g ∙ ap (λ (r : Regs). set_xr r tag v) e ∙ ap (with_indexes first) (indexes_next ws first.index tag v p q j d)

-- all seven are set
pub set_all : (ws : List ℕ) (first last : Regs) (tag : ℕ) → tag ≡ 8 → length first.index ≡ 7 →
    last ≡ with_indexes first (indexes_to (tag - 1) ws first.index) → last ≡ with_indexes first (map (index_in ws) tags)
set_all ws first last tag t h e =
    let k : tag - 1 ≡ 7 = omega arith in
    let few : length first.index ≤ 7 = omega arith in
    e ∙ ap (λ (n : ℕ). with_indexes first (indexes_to n ws first.index)) k
    ∙ ap (λ (ys : List ℕ). with_indexes first (map (index_in ws) tags ++ ys)) (drop_all 7 first.index few)
    ∙ ap (with_indexes first) (append-nil (map (index_in ws) tags))

-- one word more of a core
pub core_next : (core : List ℕ) (k : ℕ) → k < length core → take k core ++ slice_index core k ∷ [] ≡ take (k + 1) core
core_next core k h = rw add-one (sym (take-suc core k 0 h))

pub pushed_next : (before core : List ℕ) (k : ℕ) → k < length core → (before ++ take k core) ++ slice_index core k ∷ [] ≡ before ++ take (k + 1) core
pushed_next before core k h = append_assoc before (take k core) (slice_index core k ∷ []) ∙ ap (λ (ws : List ℕ). before ++ ws) (core_next core k h)

pub pushed_none : (before core : List ℕ) → before ≡ before ++ take 0 core
pushed_none before core = sym (append-nil before)

pub pushed_all : (before core : List ℕ) (n : ℕ) → n ≡ length core → before ++ take n core ≡ before ++ core
pushed_all before core n e = ap (λ (ws : List ℕ). before ++ ws) (take_all n core (omega arith))

pub ruleset cores = (pushed_next, pushed_none, pushed_all)

pub words_empty : (core ws : List ℕ) → length ws ≤ 16 → core ≡ with_words core 0 (drop 16 ws)
words_empty core ws h = rw (drop_all 16 ws h) refl

pub ruleset behind = (words_empty)
