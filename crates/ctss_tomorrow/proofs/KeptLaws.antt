-- The files that a next session begins with: whose they are, and what is true of each.
use Rattle.std.proofs.Common.{◌≡◌, ℕ, zero, suc, ◌+◌, ◌-◌, ◌<◌, ◌≤◌, Bool, true, false, nat_eq, List, [], ◌∷◌, ◌++◌, length, map, filter}
use Rattle.std.proofs.Common.{get_or, cond, refl, sym, ap, subst, ◌∙◌, arith, eq-eqb, inl, inr}
use Rattle.std.specs.List.{All}
use Rattle.std.proofs.lemmas.Bool.{ne_eqb, cases_lt}
use Rattle.std.proofs.lemmas.List.{append-nil, get_or_past}
use Rattle.std.proofs.lemmas.List.Elements.{All-nil, All-append, All-map, All-filter, filter_passes}
use Rattle.ctss_types.specs.declared.file.FileBody.{FileBody}
use Rattle.ctss_types.specs.declared.file.OwnedFile.{OwnedFile}
use Rattle.file_model.specs.Owned.{files_of}
use Rattle.file_model.proofs.Owned.{files_of_both}
use Rattle.ctss_tomorrow.specs.Tomorrow.{is_kept, files_kept}

-- a file of a user
abbrev owned_by : ℕ → FileBody → OwnedFile
owned_by u f = record { owner = u; body = f }

-- all these files are the user's own
all_own : (u v : ℕ) (files : List FileBody) → nat_eq v u ≡ true → files_of u (map (owned_by v) files) ≡ files
all_own u v [] e = refl
all_own u v (f ∷ fs) e = by_test (nat_eq v u) e (all_own u v fs e)
  where
    rest : List OwnedFile
    rest = filter (λ (g : OwnedFile). nat_eq g.owner u) (map (owned_by v) fs)

    by_test : (b : Bool) → b ≡ true → files_of u (map (owned_by v) fs) ≡ fs
        → map (λ (g : OwnedFile). g.body) (cond b (owned_by v f ∷ rest) rest) ≡ f ∷ fs
    by_test true k more = ap (λ (gs : List FileBody). f ∷ gs) more
    by_test false k more = cc

-- none of these files is
none_own : (u v : ℕ) (files : List FileBody) → nat_eq v u ≡ false → files_of u (map (owned_by v) files) ≡ []
none_own u v [] e = refl
none_own u v (f ∷ fs) e = by_test (nat_eq v u) e (none_own u v fs e)
  where
    rest : List OwnedFile
    rest = filter (λ (g : OwnedFile). nat_eq g.owner u) (map (owned_by v) fs)

    by_test : (b : Bool) → b ≡ false → files_of u (map (owned_by v) fs) ≡ []
        → map (λ (g : OwnedFile). g.body) (cond b (owned_by v f ∷ rest) rest) ≡ []
    by_test true k more = cc
    by_test false k more = more

-- the files of the first list and of those behind it
parts_of : (u k : ℕ) (files : List FileBody) (lists : List (List FileBody))
    → files_of u (files_kept k (files ∷ lists))
    ≡ files_of u (map (owned_by k) (filter is_kept files)) ++ files_of u (files_kept (suc k) lists)
parts_of u k files lists = files_of_both u (map (owned_by k) (filter is_kept files)) (files_kept (suc k) lists)

-- a user before the first has none
none_before : (u k : ℕ) (lists : List (List FileBody)) → u < k → files_of u (files_kept k lists) ≡ []
none_before u k [] h = refl
none_before u k (files ∷ lists) h =
    parts_of u k files lists
    ∙ ap (λ (fs : List FileBody). fs ++ files_of u (files_kept (suc k) lists))
    (none_own u k (filter is_kept files) (ne_eqb k u (λ e. omega arith)))
    ∙ none_before u (suc k) lists (omega arith)

-- a later one has those of its list that are kept
kept_at : (j k : ℕ) (lists : List (List FileBody))
    → files_of (k + j) (files_kept k lists) ≡ filter is_kept (get_or lists j [])
kept_at j k [] = refl
kept_at zero k (files ∷ lists) =
    parts_of (k + 0) k files lists
    ∙ ap (λ (fs : List FileBody). fs ++ files_of (k + 0) (files_kept (suc k) lists))
    (all_own (k + 0) k (filter is_kept files) (eq-eqb k (k + 0) (omega arith)))
    ∙ ap (λ (fs : List FileBody). filter is_kept files ++ fs) (none_before (k + 0) (suc k) lists (omega arith))
    ∙ append-nil (filter is_kept files)
kept_at (suc j) k (files ∷ lists) =
    let e : k + suc j ≡ suc k + j = omega arith in
    parts_of (k + suc j) k files lists
    ∙ ap (λ (fs : List FileBody). fs ++ files_of (k + suc j) (files_kept (suc k) lists))
    (none_own (k + suc j) k (filter is_kept files) (ne_eqb k (k + suc j) (λ same. omega arith)))
    ∙ ap (λ (v : ℕ). files_of v (files_kept (suc k) lists)) e
    ∙ kept_at j (suc k) lists

-- the files of a user from 1 on
pub files_of_kept : (u : ℕ) (lists : List (List FileBody)) → 0 < u
    → files_of u (files_kept 1 lists) ≡ filter is_kept (get_or lists (u - 1) [])
files_of_kept u lists h =
    let e : u ≡ 1 + (u - 1) = omega arith in
    ap (λ (v : ℕ). files_of v (files_kept 1 lists)) e ∙ kept_at (u - 1) 1 lists

-- what is true of no files, and of each user's, is true of any number's
pub each_of_kept : (P : List FileBody → Type 0) (lists : List (List FileBody)) → P []
    → ((u : ℕ) → 0 < u → u ≤ length lists → P (filter is_kept (get_or lists (u - 1) [])))
    → (u : ℕ) → P (files_of u (files_kept 1 lists))
each_of_kept P lists none each zero = subst P (sym (none_before 0 1 lists (omega arith))) none
each_of_kept P lists none each (suc k) =
    subst P (sym (files_of_kept (suc k) lists (omega arith)))
    (elim (cases_lt (length lists) (suc k)) [
      | inl past ↦ subst P (sym (ap (filter is_kept) (get_or_past lists (suc k - 1) [] (omega arith)))) none
      | inr within ↦ each (suc k) (omega arith) within
    ])

-- what is true of each kept file of each list is true of all
pub all_of_kept : (P : OwnedFile → Type 0) (k : ℕ) (lists : List (List FileBody))
    → ((j : ℕ) → j < length lists
    → All (λ (f : FileBody). is_kept f ≡ true → P (owned_by (k + j) f)) (get_or lists j []))
    → All P (files_kept k lists)
all_of_kept P k [] each = All-nil P
all_of_kept P k (files ∷ lists) each =
    All-append P (map (owned_by k) (filter is_kept files)) (files_kept (suc k) lists)
    (All-map P (owned_by k) (filter is_kept files) first)
    (all_of_kept P (suc k) lists rest)
  where
    IsFine : ℕ → FileBody → Type 0
    IsFine v f = is_kept f ≡ true → P (owned_by v f)

    same : k + 0 ≡ k
    same = omega arith

    here : All (IsFine k) (filter is_kept files)
    here =
        All-filter is_kept (IsFine k) files
        (subst (λ (v : ℕ). All (IsFine v) files) same (each 0 (omega arith)))

    first : All (λ (f : FileBody). P (owned_by k f)) (filter is_kept files)
    first i d below = here i d below (filter_passes is_kept files i d below)

    rest : (j : ℕ) → j < length lists → All (IsFine (suc k + j)) (get_or lists j [])
    rest j below =
        let next : k + suc j ≡ suc k + j = omega arith in
        subst (λ (v : ℕ). All (IsFine v) (get_or lists j [])) next (each (suc j) (omega arith))
