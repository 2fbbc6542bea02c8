-- What the definitions of operations answer, case by case.
use Rattle.std.proofs.Common.{◌≡◌, ℕ, ◌+◌, ◌≤◌, ◌<◌, Bool, true, false, max, List, length, Some, None, Ok, Err, nat_le, nat_lt, if◌then◌else◌, ◌&&◌, not, refl, sym, ap, ◌∙◌, arith}
use Rattle.std.specs.declared.result.Result.{Result}
use Rattle.std.proofs.lemmas.Bool.Decides.{nat_tests}
use Rattle.std.proofs.lemmas.List.{length-append, length-take, length-drop}
use Rattle.ctss_types.specs.Names.{NamePair}
use Rattle.ctss_types.specs.declared.file.FileBody.{FileBody}
use Rattle.ctss_types.specs.declared.file.Refusal.{Refusal}
use Rattle.ctss_types.specs.declared.file.Refusal.TheVariants.{Quota, NameUsed}
use Rattle.file_model.specs.Files.{is_read_only, file_named, with_change, if_they_fit, overwritten, put_of, put, written_of, written, renamed_of, renamed, same_name, tracks_of, tracks_of_words}
use Rattle.file_map.specs.Directory.{IsCounted}
use Rattle.file_map.proofs.Names.{same_comm, same_is, own_name}

pub fits : (quota : ℕ) (files after : List FileBody) (used : ℕ) → after ≡ files → IsCounted after quota used → if_they_fit quota files ≡ Ok after
fits quota files after used is counted =
    let le : tracks_of after ≤ quota = below _ _ _ counted.count counted.most in
    let yes : nat_le (tracks_of after) quota ≡ true = test _ _ le in
    ap (if_they_fit quota) (sym is) ∙ rw yes refl
  where
    below : (used n quota : ℕ) → used ≡ n → used ≤ quota → n ≤ quota
    below used n quota e h = omega arith

    test : (a b : ℕ) → a ≤ b → nat_le a b ≡ true
    test a b h = grind (arith, nat_tests)

pub over : (quota : ℕ) (files : List FileBody) → quota < tracks_of files → if_they_fit quota files ≡ Err Quota
over quota files h =
    let no : nat_le (tracks_of files) quota ≡ false = test _ _ h in
    rw no refl
  where
    test : (a b : ℕ) → b < a → nat_le a b ≡ false
    test a b h = grind (arith, nat_tests)

-- a file that may change
changeable : (f : FileBody) → false ≡ nat_le 2 f.mode → is_read_only f ≡ false
changeable f h = sym h

module _ (name : NamePair) (words : List ℕ) (quota : ℕ) (files : List FileBody) (f : FileBody) (found : file_named name files ≡ Some f) (free : false ≡ nat_le 2 f.mode) where
  abbrev replacing : FileBody → FileBody
  replacing g = record g { words = words }

  put_is : put name words quota files ≡ if_they_fit quota (with_change name replacing files)
  put_is = ap (λ o. put_of o name words quota files) found ∙ rw (changeable f free) refl

  pub put_done : (after : List FileBody) (used : ℕ) → after ≡ with_change name replacing files → IsCounted after quota used → put name words quota files ≡ Ok after
  put_done after used is counted = put_is ∙ fits quota _ after used is counted

  pub put_over : quota < tracks_of (with_change name replacing files) → put name words quota files ≡ Err Quota
  put_over h = put_is ∙ over quota (with_change name replacing files) h

  module _ (place : ℕ) (inside : place ≤ length f.words) where
    abbrev writing : FileBody → FileBody
    writing g = record g { words = overwritten place words g.words }

    written_is : written name place words quota files ≡ if_they_fit quota (with_change name writing files)
    written_is =
        let no : nat_lt (length f.words) place ≡ false = test _ _ inside in
        ap (λ o. written_of o name place words quota files) found ∙ rw (changeable f free, no) refl
      where
        test : (a b : ℕ) → b ≤ a → nat_lt a b ≡ false
        test a b h = grind (arith, nat_tests)

    pub written_done : (after : List FileBody) (used : ℕ) → after ≡ with_change name writing files → IsCounted after quota used → written name place words quota files ≡ Ok after
    written_done after used is counted = written_is ∙ fits quota _ after used is counted

    pub written_over : quota < tracks_of (with_change name writing files) → written name place words quota files ≡ Err Quota
    written_over h = written_is ∙ over quota (with_change name writing files) h

module _ (name to : NamePair) (files : List FileBody) (f : FileBody) (found : file_named name files ≡ Some f) (free : false ≡ nat_le 2 f.mode) where
  abbrev naming : FileBody → FileBody
  naming g = record g { name = to }

  pub renamed_same : true ≡ same_name to name → renamed name to files ≡ Ok files
  renamed_same same =
      let is : same_name name to ≡ true = same_comm name to ∙ sym same in
      ap (λ o. renamed_of o name to files) found ∙ rw (changeable f free, is) (ap Ok (own_name name to (same_is to name (sym same)) files))

  pub renamed_done : (after : List FileBody) → file_named to files ≡ None → after ≡ with_change name naming files → renamed name to files ≡ Ok after
  renamed_done after none is =
      ap (λ o. renamed_of o name to files) found ∙ rw (changeable f free, none) (unused (not (same_name name to)) _) ∙ ap Ok (sym is)
    where
      unused : (b : Bool) (r : Result (List FileBody) Refusal) → (if (b && false) then Err NameUsed else r) ≡ r
      unused true r = refl
      unused false r = refl

pub length-overwritten : (place : ℕ) (words old : List ℕ) → place ≤ length old → length (overwritten place words old) ≡ max (length old) (place + length words)
length-overwritten place words old h = simp (length-append, length-take, length-drop) (omega arith)

-- the tracks of a file whose words were written over
pub tracks_written : (place len end tracks : ℕ) (words old : List ℕ) → place ≤ length old → len ≡ length old → end ≡ max len (place + length words)
    → tracks ≡ tracks_of_words end → tracks ≡ tracks_of_words (length (overwritten place words old))
tracks_written place len end tracks words old h l e t =
    t ∙ ap tracks_of_words (e ∙ ap (λ n. max n (place + length words)) l ∙ sym (length-overwritten place words old h))
