-- proof: what the entries of a table of files stand for.
use Rattle.std.specs.Prelude.{List, map}
use Rattle.ctss_types.specs.Names.{NamePair}
use Rattle.ctss_types.specs.declared.file.FileBody.{FileBody}
use Rattle.file_map.specs.declared.table.StoredFile.{StoredFile}

abbrev pub body_of : NamePair × StoredFile → FileBody
body_of e = record { name = e.0; mode = e.1.mode; words = e.1.words.items }

abbrev pub files_of : List (NamePair × StoredFile) → List FileBody
files_of es = map body_of es
