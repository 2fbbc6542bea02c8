-- proof: the line of a file by its row in a listing.
use Rattle.std.specs.Prelude.{ℕ, List, ◌∷◌, ◌++◌}
use Rattle.std.specs.Fmt.{decimal}
use Rattle.bcd48.specs.Words.{characters_of}
use Rattle.file_model.specs.Texts.{right}
use Rattle.file_map.specs.declared.port.ListingRow.{ListingRow}

abbrev pub row_line : ListingRow → List ℕ
row_line r = characters_of r.name.first ++ (32 ∷ (characters_of r.name.second ++ (32 ∷ (decimal r.mode ++ (32 ∷ right (decimal r.words))))))
