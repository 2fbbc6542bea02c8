-- proof: what a listing shows of a directory.
use Rattle.std.specs.Prelude.{List, map, length}
use Rattle.ctss_types.specs.declared.file.FileBody.{FileBody}
use Rattle.file_map.specs.declared.port.ListingRow.{ListingRow}

abbrev pub row_of : FileBody → ListingRow
row_of f = record { name = f.name; mode = f.mode; words = length f.words }

-- a row for each file, in order
abbrev pub listing_of : List FileBody → List ListingRow
listing_of files = map row_of files
