-- Scripts that are read fit what a supervisor asks.
use Rattle.std.proofs.Common.{◌≡◌, ℕ, zero, suc, ◌-◌, ◌<◌, ◌≤◌, Bool, true, false, not, ◌&&◌, ◌||◌, List, [], ◌∷◌, map, length, get_or, refl, sym, ap, subst, ◌∙◌, arith}
use Rattle.std.specs.List.{IsDistinct, AllByRecursion, list_any}
use Rattle.ctss_types.specs.declared.script.Script.{Script}
use Rattle.ctss_types.specs.declared.script.Account.{Account}
use Rattle.ctss_types.specs.declared.file.FileBody.{FileBody}
use Rattle.file_model.specs.Files.{same_name, tracks_of}
use Rattle.file_model.specs.Owned.{files_of}
use Rattle.file_map.specs.Directory.{NamesDiffer}
use Rattle.text_model.specs.Reading.{IsInRange, names_differ}
use Rattle.user_model.specs.Session.{no_account}
use Rattle.track_directories.specs.Directories.{DirectoriesState}
use Rattle.track_directories.specs.Firsts.{HaveNone, AreFirst}
use Rattle.live_run.proofs.Starts.{may_first, count_first}

first_false : (a b : Bool) → (not a && b) ≡ true → a ≡ false
first_false false b h = refl
first_false true b h = cc

second_true : (a b : Bool) → (not a && b) ≡ true → b ≡ true
second_true false b h = h
second_true true b h = cc

left_false : (a b : Bool) → (a || b) ≡ false → a ≡ false
left_false false b h = refl
left_false true b h = cc

right_false : (a b : Bool) → (a || b) ≡ false → b ≡ false
right_false false b h = h
right_false true b h = cc

none_same : (f : FileBody) (fs : List FileBody) → list_any (λ (g : FileBody). same_name f.name g.name) fs ≡ false → AllByRecursion (λ (n : _). same_name f.name n ≡ false) (map (λ (g : FileBody). g.name) fs)
none_same f [] h = tt
none_same f (g ∷ fs) h = (left_false (same_name f.name g.name) _ h, none_same f fs (right_false (same_name f.name g.name) _ h))

differ : (fs : List FileBody) → names_differ fs ≡ true → NamesDiffer fs
unfolding IsDistinct
differ [] h = tt
differ (f ∷ fs) h =
    (none_same f fs (first_false (list_any (λ (g : FileBody). same_name f.name g.name) fs) (names_differ fs) h), differ fs (second_true (list_any (λ (g : FileBody). same_name f.name g.name) fs) (names_differ fs) h))

any_default : (accounts : List Account) (k : ℕ) (d e : Account) → k < length accounts → get_or accounts k d ≡ get_or accounts k e
any_default [] k d e h = absurd (omega arith)
any_default (a ∷ accounts) zero d e h = refl
any_default (a ∷ accounts) (suc k) d e h = any_default accounts k d e (omega (arith, h))

-- the files of a script can be the first in its directories
module _ (script : Script) (range : IsInRange script) (told : Bool) (faults : ℕ) (quotas : List ℕ) (are : quotas ≡ script.params.common ∷ map (λ (a : Account). a.tracks) script.accounts) (s : DirectoriesState) (none : HaveNone quotas told faults s) where
  count : s.count ≡ length script.accounts
  count = count_first script.params.common script.accounts script.files told faults quotas are s none

  most : (u : ℕ) → 1 ≤ u → u ≤ s.count → tracks_of (files_of u script.files) ≤ s.may u
  most u pos within =
      let inside : u ≤ length script.accounts = omega (arith, within, count) in
      subst (λ (n : ℕ). tracks_of (files_of u script.files) ≤ n)
      (ap (λ (a : Account). a.tracks) (any_default script.accounts (u - 1) _ no_account (omega (arith, pos, inside)))
      ∙ sym (may_first script.params.common script.accounts script.files told faults quotas are s none u pos inside))
      (range.tracks u pos inside)

  pub can_be_first : AreFirst script.files s
  can_be_first =
      record {
        none = none.own;
        owners = λ k d low. let o = range.owners k d low in (o.0, omega (arith, o.1, count));
        modes = range.modes;
        names = λ u. differ (files_of u script.files) (range.names u);
        tracks = most;
      }
