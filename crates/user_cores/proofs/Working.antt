-- What each call leaves of cores beside directories.
use Rattle.std.specs.Prelude.{◌&&◌, IsErrOf, OnOk, OnErr, Result, Ok, Err}
use Rattle.std.specs.Result.{IsErrAnd}
use Rattle.std.specs.Option.{is_some}
use Rattle.std.proofs.Common.{◌≡◌, ◌≢◌, inl, inr, ℕ, zero, suc, ◌+◌, ◌*◌, ◌≤◌, Bool, true, false, List, [], length, take, drop, refl, sym, ◌∙◌, ap, subst, arith, true≢false}
use Rattle.std.proofs.lemmas.Bool.{cases_eq}
use Rattle.faults.specs.Faults.{Rose}
use Rattle.ctss_types.specs.declared.file.FileBody.{FileBody}
use Rattle.image_map.proofs.Ports.{window_length}
use Rattle.image_map.specs.State.{ImageState, size, base, places_in}
use Rattle.plan_model.specs.Loads.{is_loaded}
use Rattle.track_directories.specs.Directories.{DirectoriesState, KeepsUsers, LeavesRest}
use Rattle.user_model.specs.Inner.{Stored}
use Rattle.user_session.specs.Stores.{stored}
use Rattle.user_cores.specs.Backing.{DiskFails, KeepsRules, LeavesUsers, WorksIn, back_of, stores_of}
use Rattle.core_bank.specs.Bank.{AreWords}
use Rattle.user_cores.specs.Usable.{IsWhole, words_in, window_in}
use Rattle.user_cores.proofs.Images.{words_resident, words_stay, whole_turned}

-- drum and disk tell, so each of them does
pub drum_told : (drum disk : Bool) → (drum && disk) ≡ true → drum ≡ true
drum_told true disk h = refl
drum_told false disk h = absurd (true≢false (sym h))

pub disk_told : (drum disk : Bool) → (drum && disk) ≡ true → disk ≡ true
disk_told true disk h = h
disk_told false disk h = absurd (true≢false (sym h))

-- what a user has who isn't nobody
pub store_at : (words : ℕ → List ℕ) (own : ℕ → List FileBody) (common : List FileBody) (u : ℕ) → 1 ≤ u → stores_of words own common u ≡ stored (words u) (own u)
store_at words own common zero some = absurd (omega (arith, some))
store_at words own common (suc u) some = refl

-- what holds where a call fails holds where it fails so
pub failed_so : {T E : Type 0} (result : Result T E) (e : E) (Q : Type 0) → OnErr result Q → IsErrOf result e → Q
failed_so (Ok x) e Q h is = cc
failed_so (Err f) e Q h is = h

-- where an answer is this fault, it is another one just where this is
pub same_fault : {A B E : Type 0} (result : Result A E) (e x : E) → IsErrAnd result (λ (y : E). y ≡ e) → IsErrOf result x → IsErrOf {T = B} (Err e) x
same_fault (Ok a) e x said is = absurd said
same_fault (Err y) e x said is = let same : y ≡ x = cc in ap (λ (f : _). Err f) (sym said ∙ same)

pub fault_same : {A B E : Type 0} (result : Result A E) (e x : E) → IsErrAnd result (λ (y : E). y ≡ e) → IsErrOf {T = B} (Err e) x → IsErrOf result x
fault_same (Ok a) e x said is = absurd said
fault_same (Err y) e x said is = let same : e ≡ x = cc in ap (λ (f : _). Err f) (said ∙ same)

-- and is no answer that is Ok
pub not_ok : {A E : Type 0} (result : Result A E) (Q : E → Type 0) (P : Type 0) → IsErrAnd result Q → OnOk result P
not_ok (Ok a) Q P said = absurd said
not_ok (Err y) Q P said = tt

pub users_both : (d e f : DirectoriesState) → KeepsUsers d e → KeepsUsers e f → KeepsUsers d f
users_both d e f one two = record { may = λ u. two.may u ∙ one.may u; common = two.common ∙ one.common; count = two.count ∙ one.count }

pub users_same : (d : DirectoriesState) → KeepsUsers d d
users_same d = record { may = λ u. refl; common = refl; count = refl }

rules_kept : (s : ImageState) (words : List ℕ) (d e : DirectoriesState) → KeepsUsers d e → KeepsRules (back_of s d).held (back_of (record s { words = words }) e).held
rules_kept s words d e users = record { quotas = refl; common = users.common; tracks = users.may; users = users.count }

-- the disk failed
pub disk_fails : (s : ImageState) (words : List ℕ) (d e : DirectoriesState) → KeepsUsers d e → Rose d.faults e.faults → DiskFails (back_of s d) (back_of (record s { words = words }) e)
disk_fails s words d e users cause =
    record { rules = rules_kept s words d e users; sizes = refl; places = refl; calls = refl; faults = refl; cause = cause }

-- memory lacked for an operation on the common files
pub share_left : (s : ImageState) (d e : DirectoriesState) → KeepsUsers d e → ((u : ℕ) → 1 ≤ u → e.own u ≡ d.own u) → e.tells ≡ d.tells → LeavesUsers (back_of s d) (back_of s e)
share_left s d e users own tells =
    record {
      rules = rules_kept s s.words d e users;
      stores = λ told u some. store_at (words_in s) e.own e.common u some ∙ ap (stored (words_in s u)) (own u some) ∙ sym (store_at (words_in s) d.own d.common u some);
      tells = ap (λ (b : Bool). is_some s.drum.contents && b) tells;
      sizes = refl;
      places = refl;
      calls = refl;
      faults = refl;
    }

-- the program of a user whose blocks are all in core works there
module _ (s : ImageState) (user : ℕ) (pos : 1 ≤ user) (words : List ℕ) (most : base s user + size s user ≤ 128) (is : is_loaded (places_in s) user (size s user) ≡ true) (len : length words ≡ 32768)
    (front : take (256 * base s user) words ≡ take (256 * base s user) s.words)
    (rest : drop (256 * (base s user + size s user)) words ≡ drop (256 * (base s user + size s user)) s.words) where
  abbrev pub turned : ImageState
  turned = record s { words = words }

  words_other : (u : ℕ) → u ≢ user → words_in turned u ≡ words_in s u
  words_other u them = words_stay s.words words s.drum.contents s.layout s.slots s.sizes user u is front rest them

  words_were : is_some s.drum.contents ≡ true → words_in s user ≡ window_in s user
  words_were = words_resident s.words s.drum.contents s.layout s.slots s.sizes user is

  words_are : is_some s.drum.contents ≡ true → words_in turned user ≡ window_in turned user
  words_are = words_resident words s.drum.contents s.layout s.slots s.sizes user is

  pub works_in : (low : ℕ) (d e : DirectoriesState) → KeepsUsers d e → e.tells ≡ d.tells
      → ((u : ℕ) → low ≤ u → u ≢ user → stores_of (words_in turned) e.own e.common u ≡ stores_of (words_in s) d.own d.common u) → WorksIn low user (back_of s d) (back_of turned e)
  works_in low d e users tells others =
      record {
        rest = record {
          rules = rules_kept s words d e users;
          others = others;
          tells = ap (λ (b : Bool). is_some s.drum.contents && b) tells;
          calls = refl;
          faults = refl;
        };
        len = window_length (base s user) (size s user) words len most;
        was = λ told. store_at (words_in s) d.own d.common user pos ∙ ap (λ (ws : List ℕ). stored ws (d.own user)) (words_were (drum_told _ _ told));
        mine = λ told. store_at (words_in turned) e.own e.common user pos ∙ ap (λ (ws : List ℕ). stored ws (e.own user)) (words_are (drum_told _ _ told));
        disk = λ told. disk_told _ _ told;
        disk_tells = tells;
        sizes = refl;
        places = refl;
      }

  -- each block of a user has 256 words as before
  pub turned_whole : IsWhole s → AreWords words → IsWhole turned
  turned_whole whole are =
      record {
        usable = record { going = whole.usable.going; words = are; serves = whole.usable.serves };
        whole = whole_turned s.words words s.drum.contents s.layout s.slots s.sizes user is most len front rest whole.whole;
      }

  -- of all others, and the common files
  pub others_turned : (d e : DirectoriesState) → LeavesRest user d e → (u : ℕ) → 0 ≤ u → u ≢ user → stores_of (words_in turned) e.own e.common u ≡ stores_of (words_in s) d.own d.common u
  others_turned d e left zero low them = ap (stored []) left.common
  others_turned d e left (suc u) low them = λ j. stored (words_other (suc u) them j) (left.others (suc u) (omega arith) them j)

  pub others_same : (d : DirectoriesState) (u : ℕ) → 0 ≤ u → u ≢ user → stores_of (words_in turned) d.own d.common u ≡ stores_of (words_in s) d.own d.common u
  others_same d zero low them = refl
  others_same d (suc u) low them = ap (λ (ws : List ℕ). stored ws (d.own (suc u))) (words_other (suc u) them)

  -- of all others, after an operation on the common files
  pub others_shared : (d e f : DirectoriesState) → ((u : ℕ) → 1 ≤ u → e.own u ≡ d.own u) → LeavesRest user e f
      → (u : ℕ) → 1 ≤ u → u ≢ user → stores_of (words_in turned) f.own f.common u ≡ stores_of (words_in s) d.own d.common u
  others_shared d e f own left zero low them = absurd (omega (arith, low))
  others_shared d e f own left (suc u) low them = λ j. stored (words_other (suc u) them j) ((left.others (suc u) low them ∙ own (suc u) low) j)

  -- memory lacked for the step
  pub reply_left : (d e f : DirectoriesState) → KeepsUsers d f → ((u : ℕ) → 1 ≤ u → e.own u ≡ d.own u) → LeavesRest user e f → f.own user ≡ e.own user → f.tells ≡ d.tells
      → window_in turned user ≡ window_in s user → LeavesUsers (back_of s d) (back_of turned f)
  reply_left d e f users own left mine tells same =
      record {
        rules = rules_kept s words d f users;
        stores = λ told u some. elim (cases_eq u user) [
          | inl me ↦ subst (λ (v : ℕ). stores_of (words_in turned) f.own f.common v ≡ stores_of (words_in s) d.own d.common v) (sym me) (here told)
          | inr them ↦ others_shared d e f own left u some them
        ];
        tells = ap (λ (b : Bool). is_some s.drum.contents && b) tells;
        sizes = refl;
        places = refl;
        calls = refl;
        faults = refl;
      }
    where
      here : (is_some s.drum.contents && d.tells) ≡ true → stores_of (words_in turned) f.own f.common user ≡ stores_of (words_in s) d.own d.common user
      here told =
          let words_same : words_in turned user ≡ words_in s user = words_are (drum_told _ _ told) ∙ same ∙ sym (words_were (drum_told _ _ told)) in
          let files_same : f.own user ≡ d.own user = mine ∙ own user pos in
          store_at (words_in turned) f.own f.common user pos
          ∙ (λ j. stored (words_same j) (files_same j))
          ∙ sym (store_at (words_in s) d.own d.common user pos)
