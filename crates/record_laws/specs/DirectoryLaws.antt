-- claim: every directory of every record keeps its rules.
use Rattle.std.specs.Prelude.{◌<◌, ◌≤◌, ◌-◌, ℕ, [], length, get_or}
use Rattle.ctss_types.specs.declared.script.Script.{Script}
use Rattle.text_model.specs.Drafts.{quota_of}
use Rattle.text_model.specs.Reading.{IsInRange}
use Rattle.system_model.specs.Record.{record_of}
use Rattle.record_laws.specs.Rules.{KeepsRules}

-- In the record of every script that can be read each user's files keep the rules of a directory with that user's quota of
-- tracks, whatever the users' commands and programs did, and so do the common files with theirs.
abbrev pub DirectoriesKeepRules : Type 0
DirectoriesKeepRules =
    (script : Script) → IsInRange script →
    ((u : ℕ) → 0 < u → u ≤ length script.accounts
    → KeepsRules (quota_of u script.accounts) (get_or (record_of script).files (u - 1) []))
    × KeepsRules script.params.common (record_of script).common
