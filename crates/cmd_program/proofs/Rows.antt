-- The lines of files by their rows in a listing.
use Rattle.std.proofs.Common.{◌≡◌, List, ℕ, [], ◌∷◌, refl, ap}
use Rattle.std.specs.Prelude.{map}
use Rattle.ctss_types.specs.declared.file.FileBody.{FileBody}
use Rattle.file_model.specs.Texts.{file_line}
use Rattle.file_map.specs.Listing.{listing_of}
use Rattle.cmd_program.specs.Rows.{row_line}

pub rows_are : (files : List FileBody) → map row_line (listing_of files) ≡ map file_line files
rows_are [] = refl
rows_are (f ∷ files) = ap (λ (ls : List (List ℕ)). file_line f ∷ ls) (rows_are files)
