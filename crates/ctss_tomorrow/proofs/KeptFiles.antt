-- The files that are kept, one after another.
use Rattle.std.proofs.Common.{◌≡◌, ℕ, suc, ◌+◌, ◌<◌, ◌≤◌, Bool, true, false, List, [], ◌∷◌, ◌++◌, length, drop, get_or, map, filter, refl, sym, ap, ◌∙◌, arith, append_assoc, append-nil, drop-cons}
use Rattle.std.specs.Prelude.{if◌then◌else◌}
use Rattle.std.specs.List.{flat_map}
use Rattle.std.proofs.lemmas.List.{drop_all}
use Rattle.std.proofs.lemmas.Grind.{flat_map-append}
use Rattle.ctss_types.specs.declared.file.FileBody.{FileBody}
use Rattle.ctss_types.specs.declared.file.OwnedFile.{OwnedFile}
use Rattle.text_model.specs.Canonical.{file_cards}
use Rattle.ctss_tomorrow.specs.Tomorrow.{is_kept, files_kept}
use Rattle.ctss_tomorrow.specs.Files.{kept_text}

abbrev owned_by : ℕ → FileBody → OwnedFile
owned_by owner f = record { owner = owner; body = f }

-- one file, and those behind it
one_kept : (owner : ℕ) (f : FileBody) (rest : List FileBody) (b : Bool)
    → (if b then file_cards (owned_by owner f) else []) ++ flat_map file_cards (map (owned_by owner) rest)
    ≡ flat_map file_cards (map (owned_by owner) (if b then f ∷ rest else rest))
one_kept owner f rest true = refl
one_kept owner f rest false = refl

-- the cards of an owner's files that are kept
pub kept_is : (owner : ℕ) (files : List FileBody)
    → flat_map (kept_text owner) files ≡ flat_map file_cards (map (owned_by owner) (filter is_kept files))
kept_is owner [] = refl
kept_is owner (f ∷ fs) =
    ap (λ (l : List ℕ). kept_text owner f ++ l) (kept_is owner fs) ∙ one_kept owner f (filter is_kept fs) (is_kept f)

-- the cards of all files of owners numbered from n on
abbrev pub text_from : ℕ → List (List FileBody) → List ℕ
text_from n lists = flat_map file_cards (files_kept n lists)

first_of_all : (n : ℕ) (files : List FileBody) (lists : List (List FileBody))
    → text_from n (files ∷ lists) ≡ flat_map (kept_text n) files ++ text_from (suc n) lists
first_of_all n files lists =
    flat_map-append file_cards (map (owned_by n) (filter is_kept files)) (files_kept (suc n) lists)
    ∙ ap (λ (l : List ℕ). l ++ text_from (suc n) lists) (sym (kept_is n files))

-- one owner more, and those that are left
pub owner_more : (lists : List (List FileBody)) (i : ℕ) (files : List FileBody) (done all : List ℕ) → i < length lists → files ≡ get_or lists i files
    → done ++ text_from (i + 1) (drop i lists) ≡ all
    → (done ++ flat_map (kept_text (i + 1)) files) ++ text_from (i + 1 + 1) (drop (i + 1) lists) ≡ all
owner_more lists i files done all within is was =
    let next : suc i ≡ i + 1 = omega arith in
    let after : suc (i + 1) ≡ i + 1 + 1 = omega arith in
    let here : drop i lists ≡ files ∷ drop (i + 1) lists =
    drop-cons lists i files within ∙ ap (λ (k : ℕ). get_or lists i files ∷ drop k lists) next ∙ ap (λ (y : List FileBody). y ∷ drop (i + 1) lists) (sym is) in
    ap (λ (k : ℕ). (done ++ flat_map (kept_text (i + 1)) files) ++ text_from k (drop (i + 1) lists)) (sym after)
    ∙ append_assoc done (flat_map (kept_text (i + 1)) files) (text_from (suc (i + 1)) (drop (i + 1) lists))
    ∙ ap (λ (l : List ℕ). done ++ l) (sym (first_of_all (i + 1) files (drop (i + 1) lists)))
    ∙ ap (λ (l : List (List FileBody)). done ++ text_from (i + 1) l) (sym here)
    ∙ was

-- none is left
pub owners_done : (lists : List (List FileBody)) (i : ℕ) (done all : List ℕ) → length lists ≤ i
    → done ++ text_from (i + 1) (drop i lists) ≡ all → done ≡ all
owners_done lists i done all behind was =
    sym (append-nil done) ∙ ap (λ (l : List (List FileBody)). done ++ text_from (i + 1) l) (sym (drop_all i lists behind)) ∙ was
