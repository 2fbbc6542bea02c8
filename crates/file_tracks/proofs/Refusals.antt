-- What the definitions refuse, and calls that leave all as it was.
use Rattle.std.specs.Prelude.{true, false, Option, None, Some, Err, nat_eq, nat_le, nat_lt}
use Rattle.std.specs.declared.result.Result.{Result}
use Rattle.std.specs.List.{All}
use Rattle.std.proofs.Common.{◌≡◌, ◌≢◌, ℕ, ◌<◌, ◌≤◌, List, length, refl, sym, ◌∙◌, ap, subst, arith}
use Rattle.std.proofs.lemmas.Bool.Decides.{nat_tests}
use Rattle.faults.specs.Faults.{WhereTold}
use Rattle.medium.specs.Medium.{HasShape}
use Rattle.ctss_types.specs.Names.{NamePair}
use Rattle.ctss_types.specs.declared.file.FileBody.{FileBody}
use Rattle.ctss_types.specs.declared.file.Refusal.{Refusal}
use Rattle.ctss_types.specs.declared.file.Refusal.TheVariants.{NoFile, PastEnd}
use Rattle.file_model.specs.Files.{file_named, put, put_of, written, written_of, appended, end_of, if_they_fit, with_new}
use Rattle.file_map.specs.declared.fault.PortFault.{PortFault}
use Rattle.file_map.specs.declared.fault.PortFault.TheVariants.{Refused}
use Rattle.file_map.specs.Answers.{Leaves}
use Rattle.file_tracks.specs.Stored.{files_on, IsWhole, LeavesAny}
use Rattle.file_tracks.specs.declared.table.Filed.{Filed}
use Rattle.file_tracks.proofs.Told.{told_map}

-- a refused call
pub any_refused : (told : List FileBody → Result (List FileBody) Refusal) (r : Refusal) (o : Option (List (List ℕ))) (n : ℕ) (fs : List Filed)
    → ((contents : List (List ℕ)) → All (IsWhole contents) fs → told (files_on contents fs) ≡ Err r) → LeavesAny {T = Unit {0}} (Err (Refused r)) told o o n fs fs
any_refused told r o n fs h = λ was may few whole. (was, (may, (whole, (h was whole, refl))))

-- another definition that tells the same
pub any_told : (result : Result (Unit {0}) PortFault) (told told' : List FileBody → Result (List FileBody) Refusal) (o o' : Option (List (List ℕ))) (n : ℕ) (fs fs' : List Filed)
    → ((contents : List (List ℕ)) → All (IsWhole contents) fs → told' (files_on contents fs) ≡ told (files_on contents fs)) → LeavesAny result told o o' n fs fs' → LeavesAny result told' o o' n fs fs'
any_told result told told' o o' n fs fs' same h = λ was may few whole.
    let a = h was may few whole in
    (a.0, (a.1.0, (a.1.1.0, subst (λ (r : Result (List FileBody) Refusal). Leaves result r (files_on was fs) (files_on a.0 fs')) (sym (same was whole)) a.1.1.1)))

-- the told records reach to the last track
pub reaches : (o : Option (List (List ℕ))) (count n : ℕ) → HasShape o count → n ≤ count → WhereTold o (λ contents. n ≤ length contents)
reaches o count n shape within = told_map o (λ contents. length contents ≡ count) (λ contents. n ≤ length contents) (λ contents is. omega (arith, is, within)) shape

free : (m : ℕ) → m < 2 → nat_le 2 m ≡ false
free m h = grind (arith, nat_tests)

less : (a b : ℕ) → a < b → nat_lt a b ≡ true
less a b h = grind (arith, nat_tests)

module _ (name : NamePair) (words : List ℕ) (quota : ℕ) (files : List FileBody) where
  module _ (f : FileBody) (found : file_named name files ≡ Some f) where
    pub written_past : (place : ℕ) → f.mode < 2 → length f.words < place → written name place words quota files ≡ Err PastEnd
    written_past place h past = ap (λ (o : Option FileBody). written_of o name place words quota files) found ∙ rw (free f.mode h, less (length f.words) place past) refl

    pub appended_is : (place : ℕ) → place ≡ length f.words → appended name words quota files ≡ written name place words quota files
    appended_is place e = ap (λ (o : Option FileBody). written name (end_of o) words quota files) found ∙ ap (λ (k : ℕ). written name k words quota files) (sym e)

  module _ (absent : file_named name files ≡ None) where
    pub put_new : put name words quota files ≡ if_they_fit quota (with_new name words files)
    put_new = ap (λ (o : Option FileBody). put_of o name words quota files) absent

    pub written_new : (place : ℕ) → place ≡ 0 → written name place words quota files ≡ if_they_fit quota (with_new name words files)
    written_new place e = ap (λ (k : ℕ). written name k words quota files) e ∙ ap (λ (o : Option FileBody). written_of o name 0 words quota files) absent

    pub written_none : (place : ℕ) → place ≢ 0 → written name place words quota files ≡ Err NoFile
    written_none place h = ap (λ (o : Option FileBody). written_of o name place words quota files) absent ∙ rw (zero_no place h) refl
      where
        zero_no : (k : ℕ) → k ≢ 0 → nat_eq k 0 ≡ false
        zero_no k h = grind (arith, nat_tests)

    pub appended_new : appended name words quota files ≡ if_they_fit quota (with_new name words files)
    appended_new = ap (λ (o : Option FileBody). written name (end_of o) words quota files) absent ∙ written_new 0 refl
