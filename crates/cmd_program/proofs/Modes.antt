-- A mode above 3 is refused, whichever it is.
use Rattle.std.proofs.Common.{◌≡◌, ℕ, min, true, List, Option, Some, None, refl, arith, inl, inr}
use Rattle.std.specs.Prelude.{nat_lt}
use Rattle.std.proofs.lemmas.Bool.{cases_lt, lt-ltb}
use Rattle.ctss_types.specs.Names.{NamePair}
use Rattle.ctss_types.specs.declared.file.FileBody.{FileBody}
use Rattle.file_model.specs.Files.{moded, moded_of, file_named}

alike : (found : Option FileBody) (name : NamePair) (mode : ℕ) (files : List FileBody) → moded_of found name (min mode 4) files ≡ moded_of found name mode files
alike None name mode files = refl
alike (Some f) name mode files =
    elim (cases_lt 3 mode) [
      | inl above ↦
          let four : min mode 4 ≡ 4 = omega arith in
          let refused : nat_lt 3 mode ≡ true = lt-ltb 3 mode above in
          rw (four, refused) refl
      | inr within ↦ let same : min mode 4 ≡ mode = omega arith in rw same refl
    ]

pub mode_within : (name : NamePair) (mode : ℕ) (files : List FileBody) → moded name (min mode 4) files ≡ moded name mode files
mode_within name mode files = alike (file_named name files) name mode files
