-- claim: worked rows: which names a card can say, and which files a next session begins with.
use Rattle.std.specs.Prelude.{◌≡◌, ℕ, ◌*◌, ◌^◌, true, false, List, [], ◌∷◌, codes}
use Rattle.ctss_types.specs.Words.{name_of}
use Rattle.ctss_types.specs.declared.file.FileBody.{FileBody}
use Rattle.ctss_tomorrow.specs.Tomorrow.{is_card_name, files_kept}

-- 60 in octal is the blank, 00 the digit 0, 12 the code of no character
pub record RowOfNames : Type 0 where
  pub plain : is_card_name (name_of (codes "HELLO")) ≡ true
  pub zeros : is_card_name 0 ≡ true
  pub blank : is_card_name (name_of []) ≡ false
  pub inside : is_card_name (name_of (codes "A B")) ≡ false
  pub in_front : is_card_name (name_of (codes " AB")) ≡ false
  pub unprinted : is_card_name (10 * 64 ^ 5) ≡ false

abbrev pub file : List ℕ → ℕ → List ℕ → FileBody
file name mode words =
    record { name = record { first = name_of name; second = name_of (codes "BSS") }; mode = mode; words = words }

-- of two users' files the temporary one goes, and the one whose name has a blank inside
pub record RowOfKept : Type 0 where
  pub kept : files_kept 1 ((file (codes "A") 0 [] ∷ file (codes "B") 2 (7 ∷ []) ∷ []) ∷ (file (codes "C D") 1 [] ∷ file (codes "E") 1 [] ∷ []) ∷ [])
      ≡ record { owner = 1; body = file (codes "B") 2 (7 ∷ []) } ∷ record { owner = 2; body = file (codes "E") 1 [] } ∷ []
