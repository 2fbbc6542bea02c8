-- What a hole such as `{:012o}` writes: the octal digits, with zeros before them.
use Rattle.std.proofs.Common.{◌≡◌, ℕ, zero, suc, ◌+◌, ◌-◌, ◌/◌, ◌%◌, ◌^◌, ◌<◌, ◌≤◌, false, eqb, List, [], ◌∷◌, ◌++◌, length, replicate, refl, ap, subst, ◌∙◌, append_assoc, add-zero, arith, inl, inr}
use Rattle.std.proofs.Math.Nat.{pow-suc}
use Rattle.std.proofs.lemmas.Bool.{cases_lt, ne_eqb}
use Rattle.std.proofs.lemmas.Bool.Decides.{nat_tests}
use Rattle.std.proofs.lemmas.List.{replicate-append-replicate, append-nil}
use Rattle.std.specs.Fmt.{digits, digits_onto, digit_glyph, padded_integral, format_spec, char_count}
use Rattle.word36.specs.Octal.{octal_digits}

octal_digits-0 : (k : ℕ) → octal_digits k 0 ≡ replicate k 48
unfolding octal_digits
octal_digits-0 zero = refl
octal_digits-0 (suc k) =
    rw (octal_digits-0 k) (replicate-append-replicate {A = ℕ} k 1 48 ∙ ap (λ j. replicate j 48) {x = k + 1} {y = suc k} (omega arith))

glyph : (n : ℕ) → digit_glyph false (n % 8) ≡ 48 + n % 8
glyph n = grind (arith, nat_tests)

onto_last : (j n : ℕ) (acc : List ℕ) → n < 8 → digits_onto (suc j) 8 false n acc ≡ (48 + n % 8) ∷ acc
onto_last j n acc small = let none : n / 8 ≡ 0 = omega arith in rw (none, glyph n)

onto_step : (j n : ℕ) (acc : List ℕ) → 8 ≤ n → digits_onto (suc j) 8 false n acc ≡ digits_onto j 8 false (n / 8) ((48 + n % 8) ∷ acc)
onto_step j n acc large = let some : eqb (n / 8) 0 ≡ false = ne_eqb _ 0 (λ e. omega arith) in rw (some, glyph n)

last_padded : (k n : ℕ) (acc : List ℕ) → n < 8
    → replicate (suc k + length acc - suc (length acc)) 48 ++ (48 + n % 8) ∷ acc ≡ octal_digits (suc k) n ++ acc
unfolding octal_digits
last_padded k n acc small =
    let none : n / 8 ≡ 0 = omega arith in
    let zeros : suc k + length acc - suc (length acc) ≡ k = omega arith in
    rw (zeros, none, octal_digits-0 k, append_assoc) refl

last_again : (k n : ℕ) (acc : List ℕ) → octal_digits k (n / 8) ++ (48 + n % 8) ∷ acc ≡ octal_digits (suc k) n ++ acc
unfolding octal_digits
last_again k n acc = rw append_assoc refl

-- the digits of n before acc, with zeros that bring them to k + 1
padded_onto : (k j n : ℕ) (acc : List ℕ) → n < 8 ^ suc k → k ≤ j
    → replicate (suc k + length acc - length (digits_onto (suc j) 8 false n acc)) 48 ++ digits_onto (suc j) 8 false n acc ≡ octal_digits (suc k) n ++ acc
padded_onto zero j n acc below fuel = rw (onto_last j n acc (omega arith)) (last_padded 0 n acc (omega arith))
padded_onto (suc k) zero n acc below fuel = absurd (omega arith)
padded_onto (suc k) (suc j) n acc below fuel = elim (cases_lt n 8) [
  | inl small ↦ rw (onto_last (suc j) n acc small) (last_padded (suc k) n acc small)
  | inr large ↦
      let same : suc (suc k) + length acc ≡ suc k + suc (length acc) = omega arith in
      let rest = padded_onto k j (n / 8) ((48 + n % 8) ∷ acc) (omega (arith, pow-suc 8 (suc k))) (omega arith) in
      rw (onto_step (suc j) n acc large, same, rest) (last_again (suc k) n acc)
]

padded_zeros : (k : ℕ) (ds : List ℕ) → padded_integral (format_spec 32 0 4 k (2 ^ 64 - 1)) false [] ds ≡ replicate (k - length ds) 48 ++ ds
unfolding padded_integral char_count
padded_zeros k ds =
    let width : k - length ds - 0 - 0 ≡ k - length ds = omega arith in
    ap (λ j. replicate j 48 ++ (ds ++ [])) width ∙ ap (λ l. replicate (k - length ds) 48 ++ l) (append-nil ds)

digits_lem : (n : ℕ) → digits_onto 64 8 false n [] ≡ digits 8 false n
unfolding digits
digits_lem n = refl

zeros_first : (k : ℕ) (ds text : List ℕ) → replicate (k + 0 - length ds) 48 ++ ds ≡ text ++ [] → replicate (k - length ds) 48 ++ ds ≡ text
zeros_first k ds text e = rw (add-zero, append-nil) at e

-- for k + 1 digits
pub padded_octal : (k n : ℕ) → k < 64 → n < 8 ^ suc k
    → padded_integral (format_spec 32 0 4 (suc k) (2 ^ 64 - 1)) false [] (digits 8 false n) ≡ octal_digits (suc k) n
padded_octal k n most below =
    let P : List ℕ → Type 0 = λ ds. replicate (suc k + 0 - length ds) 48 ++ ds ≡ octal_digits (suc k) n ++ [] in
    padded_zeros (suc k) (digits 8 false n)
    ∙ zeros_first (suc k) (digits 8 false n) (octal_digits (suc k) n) (subst P (digits_lem n) (padded_onto k 63 n [] below (omega arith)))
