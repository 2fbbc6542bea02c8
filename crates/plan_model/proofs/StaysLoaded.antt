-- A user whose blocks are all in core keeps them where another user is cut.
use Rattle.std.proofs.Common.{◌≡◌, ◌≢◌, ℕ, zero, suc, ◌+◌, Bool, true, false, not, ◌&&◌, cond, if◌then◌else◌}
use Rattle.std.proofs.Common.{nat_eq, nat_le, refl, sym, ap, ◌∙◌, arith, eq-eqb, inl, inr}
use Rattle.std.proofs.lemmas.Bool.Decides.{eqb_tells}
use Rattle.time_sharing.specs.Machine.{CutKind, Quit, Hang, Spent, End}
use Rattle.plan_model.specs.Levels.{Levels}
use Rattle.plan_model.specs.Loads.{Places, count_below, is_in, is_loaded, given_up}
use Rattle.plan_model.specs.Plan.{must_load, places_cut}

-- where no block was missing, and none is that wasn't, no block is missing

one_more : (n k : ℕ) (had has : ℕ → Bool) → ((b : ℕ) → had b ≡ false → has b ≡ false) → (k ≡ 0 → count_below n has ≡ 0)
    → (b : Bool) → had n ≡ b → k + cond b 1 0 ≡ 0 → count_below n has + cond (has n) 1 0 ≡ 0
one_more n k had has h rest true e q = absurd (omega (arith, q))
one_more n k had has h rest false e q =
    rw (h n e) (let none : count_below n has ≡ 0 = rest (omega (arith, q)) in omega (arith, none))

none_passes : (n : ℕ) (had has : ℕ → Bool) → ((b : ℕ) → had b ≡ false → has b ≡ false) → count_below n had ≡ 0
    → count_below n has ≡ 0
none_passes zero had has h k = refl
none_passes (suc n) had has h k = one_more n (count_below n had) had has h (none_passes n had has h) (had n) refl k

is_equal : (x y : ℕ) → not (nat_eq x y) ≡ false → x ≡ y
is_equal x y h =
    elim (eqb_tells x y) [ inl e ↦ e.1 | inr e ↦ absurd (let k : true ≡ false = ap not (sym e.0) ∙ h in cc) ]

-- what v gives up isn't u's
gives_other : (u v : ℕ) (within : Bool) → u ≢ v → (if nat_eq u v && within then 0 else u) ≡ u
gives_other u v within h = elim (eqb_tells u v) [ inl e ↦ absurd (h e.1) | inr e ↦ rw e.0 refl ]

still_in : (p : Places) (u v b : ℕ) → u ≢ v → not (is_in p u b) ≡ false → not (is_in (given_up p v 0) u b) ≡ false
still_in p u v b other h =
    let q : ℕ = p.base u + b in
    let mine : p.owner q ≡ u = is_equal (p.owner q) u h in
    let within : Bool = nat_le (p.base v + 0) q in
    ap (λ (x : ℕ). not (nat_eq (if nat_eq x v && within then 0 else x) u)) mine
    ∙ ap (λ (x : ℕ). not (nat_eq x u)) (gives_other u v within other) ∙ ap not (eq-eqb u u refl)

-- what another user gives up leaves a loaded user loaded
still_loaded : (p : Places) (u v n : ℕ) → u ≢ v → not (is_loaded p u n) ≡ false
    → not (is_loaded (given_up p v 0) u n) ≡ false
still_loaded p u v n other h =
    let had : ℕ → Bool = λ b. not (is_in p u b) in
    let has : ℕ → Bool = λ b. not (is_in (given_up p v 0) u b) in
    let none : count_below n had ≡ 0 = is_equal (count_below n had) 0 h in
    ap (λ (k : ℕ). not (nat_eq k 0)) (none_passes n had has (λ b k. still_in p u v b other k) none)

pub cut_stays : (levels : Levels) (p : Places) (u v n : ℕ) (kind : CutKind) → u ≢ v → not (is_loaded p u n) ≡ false
    → must_load (record { levels = levels; places = places_cut kind v p }) u n ≡ false
cut_stays levels p u v n Quit other h = h
cut_stays levels p u v n Hang other h = still_loaded p u v n other h
cut_stays levels p u v n Spent other h = still_loaded p u v n other h
cut_stays levels p u v n End other h = h
