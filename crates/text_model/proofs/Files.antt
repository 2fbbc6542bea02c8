-- First files fit their accounts: each has an owner, names differ, and quotas of tracks hold.
use Rattle.std.proofs.Common.{◌≡◌, ℕ, ◌≤◌, Bool, true, false, not, ◌&&◌, ◌||◌, nat_eq, List, [], ◌∷◌, ◌++◌, length, Some, refl, sym, ap, subst, ◌∙◌, arith}
use Rattle.std.specs.List.{All, list_any}
use Rattle.std.proofs.lemmas.Bool.{and_parts, and_from, or_parts, or_from, eqb-true, not-true, not_from_false}
use Rattle.std.proofs.lemmas.Bool.Decides.{nat_tests}
use Rattle.std.proofs.lemmas.List.Elements.{All-nil, All-push, All-pop}
use Rattle.std.proofs.lemmas.List.Folds.{list_any-append}
use Rattle.ctss_types.specs.Names.{NamePair}
use Rattle.ctss_types.specs.declared.script.Account.{Account}
use Rattle.ctss_types.specs.declared.file.FileBody.{FileBody}
use Rattle.ctss_types.specs.declared.file.OwnedFile.{OwnedFile}
use Rattle.file_model.specs.Files.{same_name, tracks_of}
use Rattle.file_model.specs.Owned.{files_of}
use Rattle.file_model.proofs.Owned.{tracks_of_both, files_of_own, with_one_more, without_last}
use Rattle.text_model.specs.Drafts.{quota_of, is_same_file, longer}
use Rattle.text_model.specs.Reading.{names_differ}

abbrev pub HasOwner : List Account → OwnedFile → Type 0
HasOwner accounts f = (1 ≤ f.owner) × (f.owner ≤ length accounts)

abbrev pub HasMode : OwnedFile → Type 0
HasMode f = f.body.mode ≤ 3

pub record FilesFit (accounts : List Account) (files : List OwnedFile) : Type 0 where
  pub owners : All (HasOwner accounts) files
  pub modes : All HasMode files
  pub names : (u : ℕ) → names_differ (files_of u files) ≡ true
  pub tracks : (u : ℕ) → tracks_of (files_of u files) ≤ quota_of u accounts

pub none_fit : (accounts : List Account) → FilesFit accounts []
none_fit accounts = record { owners = All-nil (HasOwner accounts); modes = All-nil HasMode; names = λ u. refl; tracks = λ u. omega arith }

-- names

abbrev has_name : NamePair → FileBody → Bool
has_name n f = same_name n f.name

same_name_turned : (a b : NamePair) → same_name a b ≡ same_name b a
same_name_turned a b =
    let first : nat_eq a.first b.first ≡ nat_eq b.first a.first = grind (arith, nat_tests) in
    let second : nat_eq a.second b.second ≡ nat_eq b.second a.second = grind (arith, nat_tests) in
    rw (first, second) refl

-- the first of these names stays away from the last file
apart_more : (n : NamePair) (fs : List FileBody) (f : FileBody) → not (list_any (has_name n) fs) ≡ true → same_name f.name n ≡ false → not (list_any (has_name n) (fs ++ f ∷ [])) ≡ true
apart_more n fs f none other =
    let last : same_name n f.name ≡ false = same_name_turned n f.name ∙ other in
    not_from_false (list_any (has_name n) (fs ++ f ∷ []))
    (list_any-append (has_name n) fs (f ∷ []) ∙ or_from (list_any (has_name n) fs) (list_any (has_name n) (f ∷ [])) (not-true _ none) (or_from (same_name n f.name) false last refl))

differ_more : (fs : List FileBody) (f : FileBody) → names_differ fs ≡ true → list_any (has_name f.name) fs ≡ false → names_differ (fs ++ f ∷ []) ≡ true
differ_more [] f h none = refl
differ_more (g ∷ gs) f h none =
    let parts = and_parts (not (list_any (has_name g.name) gs)) (names_differ gs) h in
    let others = or_parts (same_name f.name g.name) (list_any (has_name f.name) gs) none in
    and_from (not (list_any (has_name g.name) (gs ++ f ∷ []))) (names_differ (gs ++ f ∷ [])) (apart_more g.name gs f parts.0 others.0) (differ_more gs f parts.1 others.1)

apart_front : (n : NamePair) (fs : List FileBody) (f : FileBody) → not (list_any (has_name n) (fs ++ f ∷ [])) ≡ true → not (list_any (has_name n) fs) ≡ true
apart_front n fs f h =
    let none : (list_any (has_name n) fs || list_any (has_name n) (f ∷ [])) ≡ false = sym (list_any-append (has_name n) fs (f ∷ [])) ∙ not-true _ h in
    not_from_false (list_any (has_name n) fs) (or_parts (list_any (has_name n) fs) (list_any (has_name n) (f ∷ [])) none).0

differ_front : (fs : List FileBody) (f : FileBody) → names_differ (fs ++ f ∷ []) ≡ true → names_differ fs ≡ true
differ_front [] f h = refl
differ_front (g ∷ gs) f h =
    let parts = and_parts (not (list_any (has_name g.name) (gs ++ f ∷ []))) (names_differ (gs ++ f ∷ [])) h in
    and_from (not (list_any (has_name g.name) gs)) (names_differ gs) (apart_front g.name gs f parts.0) (differ_front gs f parts.1)

-- words don't matter
apart_worded : (n : NamePair) (fs : List FileBody) (f : FileBody) (ws : List ℕ) → list_any (has_name n) (fs ++ record f { words = ws } ∷ []) ≡ list_any (has_name n) (fs ++ f ∷ [])
apart_worded n [] f ws = refl
apart_worded n (g ∷ gs) f ws = ap (λ (b : Bool). same_name n g.name || b) (apart_worded n gs f ws)

differ_worded : (fs : List FileBody) (f : FileBody) (ws : List ℕ) → names_differ (fs ++ record f { words = ws } ∷ []) ≡ names_differ (fs ++ f ∷ [])
differ_worded [] f ws = refl
differ_worded (g ∷ gs) f ws = rw (apart_worded g.name gs f ws, differ_worded gs f ws) refl

-- a file that is none of these has a name of its own among its owner's
other_name : (u : ℕ) (f g : OwnedFile) → nat_eq f.owner u ≡ true → nat_eq g.owner u ≡ true → is_same_file f g ≡ false → same_name f.body.name g.body.name ≡ false
other_name u f g own also other =
    let same : nat_eq f.owner g.owner ≡ true = grind (arith, nat_tests) in
    let at : (true && same_name f.body.name g.body.name) ≡ false = subst (λ (b : Bool). (b && same_name f.body.name g.body.name) ≡ false) same other in
    at

own_name_at : (u : ℕ) (f g : OwnedFile) (gs : List OwnedFile) (b : Bool) → nat_eq g.owner u ≡ b → nat_eq f.owner u ≡ true → is_same_file f g ≡ false
    → list_any (has_name f.body.name) (files_of u gs) ≡ false → list_any (has_name f.body.name) (files_of u (g ∷ gs)) ≡ false
own_name_at u f g gs true e own other rest = rw e (or_from (same_name f.body.name g.body.name) (list_any (has_name f.body.name) (files_of u gs)) (other_name u f g own e other) rest)
own_name_at u f g gs false e own other rest = rw e rest

own_name : (u : ℕ) (f : OwnedFile) (files : List OwnedFile) → nat_eq f.owner u ≡ true → list_any (is_same_file f) files ≡ false → list_any (has_name f.body.name) (files_of u files) ≡ false
own_name u f [] own none = refl
own_name u f (g ∷ gs) own none =
    let parts = or_parts (is_same_file f g) (list_any (is_same_file f) gs) none in
    own_name_at u f g gs (nat_eq g.owner u) refl own parts.0 (own_name u f gs own parts.1)

-- one file more

abbrev Room : List Account → List OwnedFile → OwnedFile → Type 0
Room accounts files f = tracks_of (files_of f.owner (files ++ f ∷ [])) ≤ quota_of f.owner accounts

room_of : (accounts : List Account) (files : List OwnedFile) (f : OwnedFile) (u : ℕ) → Room accounts files f → nat_eq f.owner u ≡ true → tracks_of (files_of u files ++ f.body ∷ []) ≤ quota_of u accounts
room_of accounts files f u room own =
    let there : tracks_of (files_of u (files ++ f ∷ [])) ≤ quota_of u accounts = subst (λ (v : ℕ). tracks_of (files_of v (files ++ f ∷ [])) ≤ quota_of v accounts) (eqb-true f.owner u own) room in
    subst (λ (fs : List FileBody). tracks_of fs ≤ quota_of u accounts) (files_of_own u files f own) there

one_more_fits : (accounts : List Account) (files : List OwnedFile) (f : OwnedFile) → FilesFit accounts files → HasOwner accounts f → HasMode f
    → ((u : ℕ) → nat_eq f.owner u ≡ true → names_differ (files_of u files ++ f.body ∷ []) ≡ true) → Room accounts files f → FilesFit accounts (files ++ f ∷ [])
one_more_fits accounts files f fit owner mode names room =
    record {
      owners = All-push (HasOwner accounts) files f fit.owners owner;
      modes = All-push HasMode files f fit.modes mode;
      names = λ u. with_one_more (λ (fs : List FileBody). names_differ fs ≡ true) u files f (names u) (fit.names u);
      tracks = λ u. with_one_more (λ (fs : List FileBody). tracks_of fs ≤ quota_of u accounts) u files f (room_of accounts files f u room) (fit.tracks u);
    }

pub new_file_fits : (accounts : List Account) (files : List OwnedFile) (f : OwnedFile) → FilesFit accounts files → HasOwner accounts f → HasMode f
    → list_any (is_same_file f) files ≡ false → tracks_of (files_of f.owner (files ++ f ∷ [])) ≤ quota_of f.owner accounts → FilesFit accounts (files ++ f ∷ [])
new_file_fits accounts files f fit owner mode none room =
    one_more_fits accounts files f fit owner mode (λ u own. differ_more (files_of u files) f.body (fit.names u) (own_name u f files own none)) room

fewer_tracks : (quota : ℕ) (fs : List FileBody) (g : FileBody) → tracks_of (fs ++ g ∷ []) ≤ quota → tracks_of fs ≤ quota
fewer_tracks quota fs g h = omega (arith, tracks_of_both fs (g ∷ []))

pub front_fits : (accounts : List Account) (files : List OwnedFile) (f : OwnedFile) → FilesFit accounts (files ++ f ∷ []) → FilesFit accounts files
front_fits accounts files f fit =
    record {
      owners = (All-pop (HasOwner accounts) (files ++ f ∷ []) files (Some f) refl fit.owners).0;
      modes = (All-pop HasMode (files ++ f ∷ []) files (Some f) refl fit.modes).0;
      names = λ u. without_last (λ (fs : List FileBody). names_differ fs ≡ true) u files f differ_front (fit.names u);
      tracks = λ u. without_last (λ (fs : List FileBody). tracks_of fs ≤ quota_of u accounts) u files f (fewer_tracks (quota_of u accounts)) (fit.tracks u);
    }

pub longer_file_fits : (accounts : List Account) (files : List OwnedFile) (f : OwnedFile) (ws : List ℕ) → FilesFit accounts (files ++ f ∷ [])
    → tracks_of (files_of f.owner (files ++ longer ws f ∷ [])) ≤ quota_of f.owner accounts → FilesFit accounts (files ++ longer ws f ∷ [])
longer_file_fits accounts files f ws fit room =
    one_more_fits accounts files (longer ws f) (front_fits accounts files f fit)
    ((All-pop (HasOwner accounts) (files ++ f ∷ []) files (Some f) refl fit.owners).1)
    ((All-pop HasMode (files ++ f ∷ []) files (Some f) refl fit.modes).1)
    (λ u own. differ_worded (files_of u files) f.body (f.body.words ++ ws) ∙ (subst (λ (fs : List FileBody). names_differ fs ≡ true) (files_of_own u files f own) (fit.names u)))
    room
