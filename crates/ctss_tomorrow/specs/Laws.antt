-- claim: the next session's base is a lawful script, and its text reads as that base.
use Rattle.std.specs.Prelude.{◌≡◌, ◌<◌, ◌≤◌, ◌^◌, ℕ, List, [], length, Ok}
use Rattle.std.specs.List.{All}
use Rattle.ctss_types.specs.declared.script.Script.{Script}
use Rattle.ctss_types.specs.declared.file.FileBody.{FileBody}
use Rattle.ctss_types.specs.declared.history.Record.{Record}
use Rattle.text_model.specs.Canonical.{script_text_of}
use Rattle.text_model.specs.Lawful.{IsLawful}
use Rattle.text_model.specs.Reading.{script_of, max_bytes}
use Rattle.script_read.specs.Bases.{base_of}
use Rattle.system_model.specs.Record.{record_of}
use Rattle.ctss_tomorrow.specs.Tomorrow.{next_base}

-- the files of a record hold words of the machine, as every record does that a run leaves
abbrev pub HoldsWords : Record → Type 0
HoldsWords rec = All (λ (files : List FileBody). All (λ (f : FileBody). All (λ w. w < 2 ^ 36) f.words) files) rec.files

-- the base after the record of a lawful script is lawful
abbrev pub NextBasesAreLawful : Type 0
NextBasesAreLawful =
    (script : Script) → IsLawful script → HoldsWords (record_of script) → IsLawful (next_base script (record_of script))

-- a script without events is a base script
abbrev pub QuietScriptsAreBases : Type 0
QuietScriptsAreBases = (bytes : List ℕ) (s : Script) → script_of bytes ≡ Ok s → s.events ≡ [] → base_of bytes ≡ Ok s

-- the text of that base, if it isn't too long, reads as it, as a script and as a base
pub record IsReadAs (base : Script) : Type 0 where
  pub script : script_of (script_text_of base) ≡ Ok base
  pub serves : base_of (script_text_of base) ≡ Ok base

abbrev pub NextBasesAreRead : Type 0
NextBasesAreRead =
    (script : Script) → IsLawful script → HoldsWords (record_of script)
    → length (script_text_of (next_base script (record_of script))) ≤ max_bytes
    → IsReadAs (next_base script (record_of script))
