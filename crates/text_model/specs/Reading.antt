-- claim: the script of bytes: its lines are cards, each adds to what the cards before it say, and the first one that is refused refuses
-- the script.
use Rattle.std.specs.Prelude.{◌≡◌, ◌≤◌, ℕ, suc, Bool, true, not, ◌&&◌, nat_le, List, [], ◌∷◌, length, sum, map, Option, Some, None, Ok, Err, if◌then◌else◌}
use Rattle.std.specs.declared.result.Result.{Result}
use Rattle.std.specs.List.{All, list_any}
use Rattle.std.specs.Str.Lines.{lines}
use Rattle.ctss_types.specs.declared.script.Script.{Script}
use Rattle.ctss_types.specs.declared.script.Params.{Params}
use Rattle.ctss_types.specs.declared.script.Account.{Account}
use Rattle.ctss_types.specs.declared.script.Timed.{Timed}
use Rattle.ctss_types.specs.declared.file.FileBody.{FileBody}
use Rattle.ctss_types.specs.declared.file.OwnedFile.{OwnedFile}
use Rattle.file_model.specs.Files.{same_name, tracks_of}
use Rattle.file_model.specs.Owned.{files_of}
use Rattle.text_model.specs.declared.cause.ScriptCause.TheVariants.{NoEnd, TooLong}
use Rattle.text_model.specs.declared.cause.ScriptRefusal.{ScriptRefusal}
use Rattle.text_model.specs.Drafts.{Draft, empty_draft, all_files, entered, quota_of, max_tick}

-- the script of whole cards; where END is missing, it is missed behind the last card
abbrev pub script_by : Option Params → Option ℕ → ℕ → Draft → Result Script ScriptRefusal
script_by None end k d = Err (record { card = k; cause = NoEnd })
script_by (Some p) None k d = Err (record { card = k; cause = NoEnd })
script_by (Some p) (Some end) k d = Ok (record { params = p; accounts = d.accounts; files = all_files d; events = d.events; end = end })

-- the script of a draft and further cards, the first of which is number k
abbrev pub script_from : ℕ → Draft → List (List ℕ) → Result Script ScriptRefusal
script_from k d [] = script_by d.params d.end k d
script_from k d (card ∷ cards) =
    elim (entered d card) [ Ok e ↦ script_from (suc k) e cards | Err cause ↦ Err (record { card = k; cause = cause }) ]

abbrev pub max_bytes : ℕ
max_bytes = 4194304

-- the script of bytes, if they are not too many
unfoldable pub script_of : List ℕ → Result Script ScriptRefusal
script_of bytes = if nat_le (length bytes) max_bytes then script_from 1 empty_draft (lines bytes) else Err (record { card = 0; cause = TooLong })

-- the blocks of all accounts together
abbrev pub blocks_of : List Account → ℕ
blocks_of accounts = sum (map (λ (a : Account). a.blocks) accounts)

-- a user's names all differ
abbrev pub names_differ : List FileBody → Bool
names_differ [] = true
names_differ (f ∷ fs) = not (list_any (λ (g : FileBody). same_name f.name g.name) fs) && names_differ fs

-- what is true of every script that is read
pub record IsInRange (s : Script) : Type 0 where
  pub level : 1 ≤ s.params.wq
  pub quantum : s.params.quantum ≤ 1000000
  pub swap : s.params.swap ≤ 1000000
  pub few : length s.accounts ≤ 30
  -- accounts have at most 128 blocks each, and all together those of the drum, which has at most 3840
  pub blocks : All (λ (a : Account). a.blocks ≤ 128) s.accounts
  pub fits : blocks_of s.accounts ≤ s.params.drum
  pub drum : s.params.drum ≤ 3840
  -- each file is of an account; a user's names differ, modes are 0 to 3, and the quota of tracks holds
  pub owners : All (λ (f : OwnedFile). (1 ≤ f.owner) × (f.owner ≤ length s.accounts)) s.files
  pub modes : All (λ (f : OwnedFile). f.body.mode ≤ 3) s.files
  pub names : (u : ℕ) → names_differ (files_of u s.files) ≡ true
  pub tracks : (u : ℕ) → 1 ≤ u → u ≤ length s.accounts → tracks_of (files_of u s.files) ≤ quota_of u s.accounts
  pub seats : All (λ (e : Timed). (1 ≤ e.console) × (e.console ≤ 32)) s.events
  pub ticks : s.end ≤ max_tick

abbrev pub ScriptsAreInRange : Type 0
ScriptsAreInRange = (bytes : List ℕ) (s : Script) → script_of bytes ≡ Ok s → IsInRange s
