-- The tracks of an owner's files in front of a list.
use Rattle.std.proofs.Common.{◌≡◌, ℕ, ◌+◌, ◌<◌, ◌≤◌, true, false, nat_eq, nat_le, List, [], ◌∷◌, ◌++◌, length, take, drop, get_or, sym, ap, ◌∙◌, arith, take-append-drop}
use Rattle.std.proofs.lemmas.Bool.{leb-false, lt-leb}
use Rattle.std.proofs.lemmas.List.{take_more}
use Rattle.ctss_types.specs.declared.file.OwnedFile.{OwnedFile}
use Rattle.file_model.specs.Files.{tracks_of, tracks_of_words}
use Rattle.file_model.specs.Owned.{files_of}
use Rattle.file_model.proofs.Owned.{files_of_both, tracks_of_both, tracks_with_own}

-- the tracks of the first so many files
abbrev front : ℕ → List OwnedFile → ℕ → ℕ
front u files i = tracks_of (files_of u (take i files))

next : (u : ℕ) (files : List OwnedFile) (i : ℕ) (f : OwnedFile) → i < length files → f ≡ get_or files i f → nat_eq f.owner u ≡ true
    → front u files (i + 1) ≡ front u files i + tracks_of_words (length f.body.words)
next u files i f lt is e =
    let more : take (i + 1) files ≡ take i files ++ f ∷ [] = take_more files i f lt ∙ ap (λ (g : OwnedFile). take i files ++ g ∷ []) (sym is) in
    ap (λ (fs : List OwnedFile). tracks_of (files_of u fs)) more ∙ tracks_with_own u (take i files) f e

front_part : (u : ℕ) (files : List OwnedFile) (i : ℕ) → front u files i ≤ tracks_of (files_of u files)
front_part u files i =
    let whole : tracks_of (files_of u (take i files ++ drop i files)) ≡ tracks_of (files_of u files) = ap (λ (fs : List OwnedFile). tracks_of (files_of u fs)) (take-append-drop i files) in
    let parts : tracks_of (files_of u (take i files ++ drop i files)) ≡ front u files i + tracks_of (files_of u (drop i files)) =
    ap tracks_of (files_of_both u (take i files) (drop i files)) ∙ tracks_of_both (files_of u (take i files)) (files_of u (drop i files)) in
    omega arith

-- a file that doesn't fit behind those in front
pub too_many : (u quota tracks words : ℕ) (files : List OwnedFile) (i : ℕ) (f : OwnedFile) → i < length files → f ≡ get_or files i f → nat_eq f.owner u ≡ true
    → tracks ≡ tracks_of (files_of u (take i files)) → words ≡ length f.body.words → nat_le (tracks + tracks_of_words words) quota ≡ false
    → nat_le (tracks_of (files_of u files)) quota ≡ false
too_many u quota tracks words files i f lt is e counted size over =
    let more = next u files i f lt is e in
    let same = ap tracks_of_words size in
    let part = front_part u files (i + 1) in
    let past : quota < tracks + tracks_of_words words = leb-false (tracks + tracks_of_words words) quota over in
    lt-leb (tracks_of (files_of u files)) quota (omega arith)
