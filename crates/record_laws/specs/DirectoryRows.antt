-- claim: worked rows: directories that keep the rules and that don't.
use Rattle.std.specs.Prelude.{◌≡◌, true, false, [], ◌∷◌, replicate}
use Rattle.file_model.specs.Files.{tracks_of}
use Rattle.file_model.specs.Rows.{x, y, file}
use Rattle.text_model.specs.Reading.{names_differ}

-- two files of other names take three tracks, where one has 433 words; a repeated pair of names is told
pub record RowOfRules : Type 0 where
  pub differ : names_differ (file x 1 [] ∷ file y 0 (replicate 433 0) ∷ []) ≡ true
  pub tracks : tracks_of (file x 1 [] ∷ file y 0 (replicate 433 0) ∷ []) ≡ 3
  pub repeated : names_differ (file x 1 [] ∷ file y 0 [] ∷ file x 2 [] ∷ []) ≡ false
