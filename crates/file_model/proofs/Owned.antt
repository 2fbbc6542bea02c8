-- Files by owner in a list that grows, and their tracks.
use Rattle.std.proofs.Common.{◌≡◌, ℕ, ◌+◌, Bool, true, false, nat_eq, List, [], ◌∷◌, ◌++◌, length, map, filter, sum, refl, sym, ap, subst, ◌∙◌, arith}
use Rattle.std.proofs.lemmas.List.{map-append, append-nil}
use Rattle.std.proofs.lemmas.List.Elements.{filter-append}
use Rattle.std.proofs.lemmas.List.Sums.{sum_by-append}
use Rattle.ctss_types.specs.declared.file.FileBody.{FileBody}
use Rattle.ctss_types.specs.declared.file.OwnedFile.{OwnedFile}
use Rattle.file_model.specs.Files.{tracks_of, tracks_of_words}
use Rattle.file_model.specs.Owned.{files_of}

abbrev is_of : ℕ → OwnedFile → Bool
is_of u f = nat_eq f.owner u

abbrev body_of : OwnedFile → FileBody
body_of f = f.body

abbrev cost_of : FileBody → ℕ
cost_of f = tracks_of_words (length f.words)

pub files_of_both : (u : ℕ) (xs ys : List OwnedFile) → files_of u (xs ++ ys) ≡ files_of u xs ++ files_of u ys
files_of_both u xs ys = ap (map body_of) (filter-append (is_of u) xs ys) ∙ map-append body_of (filter (is_of u) xs) (filter (is_of u) ys)

pub tracks_of_both : (xs ys : List FileBody) → tracks_of (xs ++ ys) ≡ tracks_of xs + tracks_of ys
tracks_of_both xs ys = ap sum (map-append cost_of xs ys) ∙ sum_by-append (λ (n : ℕ). n) (map cost_of xs) (map cost_of ys)

pub files_of_own : (u : ℕ) (files : List OwnedFile) (f : OwnedFile) → nat_eq f.owner u ≡ true → files_of u (files ++ f ∷ []) ≡ files_of u files ++ f.body ∷ []
files_of_own u files f e = files_of_both u files (f ∷ []) ∙ rw e refl

pub files_of_other : (u : ℕ) (files : List OwnedFile) (f : OwnedFile) → nat_eq f.owner u ≡ false → files_of u (files ++ f ∷ []) ≡ files_of u files
files_of_other u files f e = files_of_both u files (f ∷ []) ∙ rw e (append-nil (files_of u files))

-- the tracks of a file's owner
pub tracks_with_own : (u : ℕ) (files : List OwnedFile) (f : OwnedFile) → nat_eq f.owner u ≡ true
    → tracks_of (files_of u (files ++ f ∷ [])) ≡ tracks_of (files_of u files) + tracks_of_words (length f.body.words)
tracks_with_own u files f e =
    ap tracks_of (files_of_own u files f e) ∙ tracks_of_both (files_of u files) (f.body ∷ []) ∙ ap (λ (n : ℕ). tracks_of (files_of u files) + n) (omega arith)

by_test : (P : List FileBody → Type 0) (u : ℕ) (files : List OwnedFile) (f : OwnedFile) (b : Bool) → nat_eq f.owner u ≡ b
    → (b ≡ true → P (files_of u files ++ f.body ∷ [])) → P (files_of u files) → P (files_of u (files ++ f ∷ []))
by_test P u files f true e own other = subst P (sym (files_of_own u files f e)) (own refl)
by_test P u files f false e own other = subst P (sym (files_of_other u files f e)) other

-- what holds of a user's files with one more, and without it
pub with_one_more : (P : List FileBody → Type 0) (u : ℕ) (files : List OwnedFile) (f : OwnedFile)
    → (nat_eq f.owner u ≡ true → P (files_of u files ++ f.body ∷ [])) → P (files_of u files) → P (files_of u (files ++ f ∷ []))
with_one_more P u files f own other = by_test P u files f (nat_eq f.owner u) refl own other

without_test : (P : List FileBody → Type 0) (u : ℕ) (files : List OwnedFile) (f : OwnedFile) (b : Bool) → nat_eq f.owner u ≡ b
    → ((fs : List FileBody) (g : FileBody) → P (fs ++ g ∷ []) → P fs) → P (files_of u (files ++ f ∷ [])) → P (files_of u files)
without_test P u files f true e fewer h = fewer (files_of u files) f.body (subst P (files_of_own u files f e) h)
without_test P u files f false e fewer h = subst P (files_of_other u files f e) h

pub without_last : (P : List FileBody → Type 0) (u : ℕ) (files : List OwnedFile) (f : OwnedFile)
    → ((fs : List FileBody) (g : FileBody) → P (fs ++ g ∷ []) → P fs) → P (files_of u (files ++ f ∷ [])) → P (files_of u files)
without_last P u files f fewer h = without_test P u files f (nat_eq f.owner u) refl fewer h
