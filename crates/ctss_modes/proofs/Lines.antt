-- A text has at most one line more than it has bytes.
use Rattle.std.proofs.Common.{◌≡◌, ℕ, ◌+◌, ◌-◌, ◌^◌, ◌≤◌, ◌<◌, Bool, true, false, cond, List, [], ◌∷◌, length, arith}
use Rattle.std.specs.Prelude.{◌==◌}
use Rattle.std.specs.List.{slice_split, count_by}
use Rattle.std.specs.Str.Lines.{lines, lines_of_parts}
use Rattle.std.proofs.lemmas.List.Splits.{length-slice_split}
use Rattle.std.proofs.lemmas.List.Sums.{count_by-le-length}

last_part : (b : Bool) (x : List ℕ) → length (cond b [] (x ∷ [])) ≤ 1
last_part true x = omega arith
last_part false x = omega arith

of_parts : (parts : List (List ℕ)) → length (lines_of_parts parts) ≤ length parts
of_parts [] = omega arith
of_parts (x ∷ []) = last_part (length x == 0) x
of_parts (x ∷ y ∷ more) = let h : length (lines_of_parts (y ∷ more)) ≤ length (y ∷ more) = of_parts (y ∷ more) in omega arith

pub few_lines : (bytes : List ℕ) (cards : ℕ) → length bytes ≤ 4194304 → cards ≡ length (lines bytes) → cards < 2 ^ 32 - 1
few_lines bytes cards size is =
    let parts : length (slice_split (λ b. b == 10) bytes) ≡ count_by (λ b. b == 10) bytes + 1 = length-slice_split (λ b. b == 10) bytes in
    let count : count_by (λ b. b == 10) bytes ≤ length bytes = count_by-le-length (λ b. b == 10) bytes in
    let most : length (lines bytes) ≤ length (slice_split (λ b. b == 10) bytes) = of_parts (slice_split (λ b. b == 10) bytes) in
    omega (arith, parts, count, most, size, is)
