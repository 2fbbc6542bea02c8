-- claim: worked rows of files.
use Rattle.std.specs.Prelude.{◌≡◌, ℕ, List, [], ◌∷◌, ◌++◌, replicate, codes, Ok, Err}
use Rattle.ctss_types.specs.Names.{NamePair}
use Rattle.ctss_types.specs.Words.{name_of}
use Rattle.ctss_types.specs.declared.file.FileBody.{FileBody}
use Rattle.ctss_types.specs.declared.file.CommonOp.TheVariants as op
use Rattle.ctss_types.specs.declared.file.Reply.TheVariants.{Words, Refused}
use Rattle.ctss_types.specs.declared.file.Refusal.TheVariants.{NoFile, ReadOnly, Quota, NameUsed, PastEnd, BadMode}
use Rattle.file_model.specs.Files.{read, written, put, renamed, deleted, moded, appended, lasting}
use Rattle.file_model.specs.Texts.{listing_lines, refusal_text, refusal_number}
use Rattle.file_model.specs.Commons.{reply_to, files_after}

abbrev pub x : NamePair
x = record { first = 1; second = 2 }

abbrev pub y : NamePair
y = record { first = 1; second = 3 }

abbrev pub file : NamePair → ℕ → List ℕ → FileBody
file name mode words = record { name = name; mode = mode; words = words }

abbrev pub full : List FileBody
full = file x 1 (replicate 863 5 ++ 7 ∷ []) ∷ []

-- in a directory of two tracks 864 words fit, and not one more
pub record RowOfTracks : Type 0 where
  pub fits : written x 0 (replicate 863 5 ++ 7 ∷ []) 2 [] ≡ Ok full
  pub no_more : written x 864 (1 ∷ []) 2 full ≡ Err Quota
  pub over : written x 863 (1 ∷ 2 ∷ []) 2 full ≡ Err Quota
  pub last : read x 863 1 full ≡ Ok (7 ∷ [])
  pub past : read x 864 1 full ≡ Err PastEnd
  pub none : read x 864 0 full ≡ Ok []
  pub replaced : put x (3 ∷ []) 1 full ≡ Ok (file x 1 (3 ∷ []) ∷ [])

pub record RowOfRefusals : Type 0 where
  pub for_good : moded x 1 (file x 3 [] ∷ []) ≡ Err ReadOnly
  pub mode : moded x 4 (file x 2 [] ∷ []) ≡ Err BadMode
  pub absent : renamed x y [] ≡ Err NoFile
  pub in_use : renamed x y (file x 1 [] ∷ file y 1 [] ∷ []) ≡ Err NameUsed
  pub same : renamed x x (file x 1 [] ∷ []) ≡ Ok (file x 1 [] ∷ [])
  pub moved : renamed x y (file x 0 (4 ∷ []) ∷ []) ≡ Ok (file y 0 (4 ∷ []) ∷ [])
  pub kept : deleted x (file x 2 [] ∷ []) ≡ Err ReadOnly
  pub gap : written x 1 (1 ∷ []) 9 [] ≡ Err NoFile
  pub behind : written x 2 (1 ∷ []) 9 (file x 1 (5 ∷ []) ∷ []) ≡ Err PastEnd
  pub inside : written x 1 (1 ∷ []) 9 (file x 0 (5 ∷ 6 ∷ 7 ∷ []) ∷ []) ≡ Ok (file x 0 (5 ∷ 1 ∷ 7 ∷ []) ∷ [])
  pub at_end : appended x (1 ∷ []) 9 (file y 0 [] ∷ file x 0 (5 ∷ []) ∷ []) ≡ Ok (file y 0 [] ∷ file x 0 (5 ∷ 1 ∷ []) ∷ [])
  pub gone : lasting (file x 0 [] ∷ file y 1 [] ∷ []) ≡ file y 1 [] ∷ []

-- in a common directory of one track two users write and read one file, and there is no room for another
pub record RowOfCommons : Type 0 where
  pub first : files_after 1 [] (op.Write x 0 (1 ∷ [])) ≡ file x 1 (1 ∷ []) ∷ []
  pub second : files_after 1 (file x 1 (1 ∷ []) ∷ []) (op.Write x 1 (2 ∷ [])) ≡ file x 1 (1 ∷ 2 ∷ []) ∷ []
  pub refused : reply_to 1 (file x 1 (1 ∷ 2 ∷ []) ∷ []) (op.Write y 0 (3 ∷ [])) ≡ Refused Quota
  pub kept : files_after 1 (file x 1 (1 ∷ 2 ∷ []) ∷ []) (op.Write y 0 (3 ∷ [])) ≡ file x 1 (1 ∷ 2 ∷ []) ∷ []
  pub answer : reply_to 1 (file x 1 (1 ∷ 2 ∷ []) ∷ []) (op.Read x 0 2) ≡ Words (1 ∷ 2 ∷ [])

abbrev pub hello : NamePair
hello = record { first = name_of (codes "HELLO"); second = name_of (codes "BSS") }

abbrev pub note : NamePair
note = record { first = name_of (codes "A"); second = name_of (codes "LETTER") }

-- 10 words take a track, 433 words two, and no file none
pub record RowOfTexts : Type 0 where
  pub one : listing_lines 10 (file hello 1 (replicate 10 0) ∷ []) ≡ codes "HELLO  BSS    1      10" ∷ codes "1 OF 10 TRACKS" ∷ []
  pub more : listing_lines 65535 (file note 3 (replicate 433 0) ∷ file hello 0 [] ∷ [])
      ≡ codes "A      LETTER 3     433" ∷ codes "HELLO  BSS    0       0" ∷ codes "3 OF 65535 TRACKS" ∷ []
  pub none : listing_lines 2 [] ≡ codes "0 OF 2 TRACKS" ∷ []
  pub refused : refusal_text Quota ≡ codes "QUOTA EXCEEDED"
  pub number : refusal_number Quota ≡ 3
