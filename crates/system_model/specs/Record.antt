-- claim: the record of a script.
use Rattle.std.specs.Prelude.{◌≡◌, ℕ, suc, ◌-◌, ◌<◌, ◌≤◌, List, [], ◌∷◌, length, map, get_or}
use Rattle.ctss_types.specs.declared.script.Script.{Script}
use Rattle.ctss_types.specs.declared.script.Account.{Account}
use Rattle.ctss_types.specs.declared.file.FileBody.{FileBody}
use Rattle.ctss_types.specs.declared.file.OwnedFile.{OwnedFile}
use Rattle.ctss_types.specs.declared.history.Record.{Record}
use Rattle.time_sharing.specs.Private.{Alone, alone}
use Rattle.time_sharing.specs.Feeds.{feed_of}
use Rattle.time_sharing.specs.Commons.{operations_of, replies_of, common_run, files_left}
use Rattle.time_sharing.specs.Rows.{machine}
use Rattle.time_sharing.specs.System.{World}
use Rattle.time_sharing.specs.Record as whole
use Rattle.user_model.specs.Session.{user_rows, first_state, no_account}
use Rattle.user_model.specs.User.{User}
use Rattle.plan_model.specs.Plan.{Plan, first_plan}
use Rattle.file_model.specs.Owned.{files_of}
use Rattle.system_model.specs.World.{world_with}
use Rattle.system_model.specs.Run.{Run, run_to, ended}

-- the users of the accounts, numbered from u on
abbrev pub users_from : ℕ → List Account → List OwnedFile → List User
users_from u [] owned = []
users_from u (a ∷ accounts) owned = first_state a (files_of u owned) ∷ users_from (suc u) accounts owned

abbrev pub consoles : ℕ
consoles = 32

-- what is round the users of a script
abbrev pub script_world : Script → World User Plan (List FileBody)
script_world script = world_with script.params.swap script.params.common script.accounts

-- the state before any step, with the script's events
unfoldable pub start_of : Script → Run
start_of script =
    record {
      swap = script.params.swap;
      common = script.params.common;
      accounts = script.accounts;
      system = whole.start (machine user_rows) (script_world script) (users_from 1 script.accounts script.files) [] (first_plan script.params) consoles script.events;
    }

-- what a run leaves
abbrev pub record_from : Run → Record
record_from r =
    record {
      entries = r.system.entries;
      transcripts = map (λ p. p.transcript) r.system.users;
      files = map (λ p. p.inner.files) r.system.users;
      common = r.system.files;
      clock = r.system.clock;
    }

unfoldable pub record_of : Script → Record
record_of script = record_from (ended (run_to script.end (start_of script)))

-- a user's account and first files
abbrev pub first_of_user : Script → ℕ → User
first_of_user script u = first_state (get_or script.accounts (u - 1) no_account) (files_of u script.files)

-- where the user's machine alone comes to, over the feed that the record gives
abbrev pub alone_of : Script → Record → ℕ → Alone User
alone_of script rec u = alone (machine user_rows) (first_of_user script u) (feed_of u script.events rec.entries)

-- transcript and files of a record are those of the user's machine alone, which takes every answer of the feed
pub record IsAloneIn (script : Script) (rec : Record) (u : ℕ) : Type 0 where
  pub transcript : get_or rec.transcripts (u - 1) [] ≡ (alone_of script rec u).state.transcript
  pub files : get_or rec.files (u - 1) [] ≡ (alone_of script rec u).state.inner.files
  pub clocks : (alone_of script rec u).clocks ≡ []
  pub replies : (alone_of script rec u).replies ≡ []

-- so it is for each account
abbrev pub EachIsAlone : Script → Record → Type 0
EachIsAlone script rec = (u : ℕ) → 0 < u → u ≤ length script.accounts → IsAloneIn script rec u

-- the replies in a record are those of one list of files, empty at first, to its operations in order; and its common files are
-- what that list is then
pub record IsOneList (script : Script) (rec : Record) : Type 0 where
  pub replies : replies_of rec.entries ≡ common_run (script_world script) [] (operations_of rec.entries)
  pub files : rec.common ≡ files_left (script_world script) [] (operations_of rec.entries)
