-- The rows of a medium in memory.
use Rattle.std.specs.Prelude.{Some, slice_index_or}
use Rattle.std.specs.List.{All}
use Rattle.std.proofs.Common.{◌≡◌, ℕ, ◌<◌, ◌^◌, List, [], ◌∷◌, replicate, refl, arith, sym, ◌∙◌, ap}
use Rattle.std.proofs.lemmas.List.{set-get_or, length-replicate}
use Rattle.std.proofs.lemmas.List.Elements.{All-replicate}
use Rattle.medium.specs.Medium.{with_record, ChangesOnly}
use Rattle.medium.specs.MediumState.{MediumState}
use Rattle.medium.specs.Rows.{told_rows, IsRecord}
use Rattle.medium.specs.declared.memory.Damage.{Damage}

-- records that stay as they were change in one at most
unchanged_rows : (ds : List Damage) (contents : List (List ℕ)) (at : ℕ) → (ws : List ℕ) × (told_rows ds contents ≡ with_record (told_rows ds contents) at ws)
unchanged_rows [] contents at = (slice_index_or contents at [], ap (λ (l : List (List ℕ)). Some l) (sym (set-get_or contents at [])))
unchanged_rows (d ∷ ds) contents at = ([], refl)

-- a state with the same records changes in one record at most
pub unchanged : (old new : MediumState) (at : ℕ) → new.damages ≡ old.damages → new.contents ≡ old.contents
    → ChangesOnly (told_rows old.damages old.contents) (told_rows new.damages new.contents) at
unchanged old new at damages contents =
    let same = unchanged_rows old.damages old.contents at in
    (same.0, (λ i. told_rows (damages i) (contents i)) ∙ same.1)

-- records of zeros are records of words
pub zero_rows_are : (count n : ℕ) → All (λ row. IsRecord n row) (replicate count (replicate n 0))
zero_rows_are count n =
    let zero : 0 < 2 ^ 36 = omega arith in
    let row : IsRecord n (replicate n 0) = record { len = length-replicate n 0; words = All-replicate (λ (w : ℕ). w < 2 ^ 36) n 0 zero } in
    All-replicate (λ (ws : List ℕ). IsRecord n ws) count (replicate n 0) row
