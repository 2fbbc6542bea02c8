-- claim: the text of the next session's base, and what the program that writes it answers.
use Rattle.std.specs.Prelude.{◌≡◌, ◌≤◌, ℕ, List, [], ◌∷◌, length, Option, Some, None}
use Rattle.ctss_types.specs.declared.script.Script.{Script}
use Rattle.ctss_io.specs.Outside.{after}
use Rattle.text_model.specs.Canonical.{script_text_of}
use Rattle.text_model.specs.Lawful.{IsLawful}
use Rattle.text_model.specs.Reading.{max_bytes}
use Rattle.system_model.specs.Record.{record_of}
use Rattle.ctss_tomorrow.specs.Tomorrow.{next_base}
use Rattle.ctss_tomorrow.specs.Laws.{IsReadAs}
use Rattle.script_show.specs.Shown.{ShownText, Spells, StreamsSeen}

-- the canonical text of the base after the run of a script
abbrev pub next_text : ShownText
next_text script rec = script_text_of (next_base script rec)

-- no word asks for it
abbrev pub asked : List (List ℕ) → Option ShownText
asked [] = Some next_text
asked (w ∷ ws) = None

-- A lawful script came in, and what came to the output is the canonical text of a lawful script without events: with the same PARAM and
-- accounts, and the files that the one record of the script that came in leaves. If it isn't too long, that text reads as that script.
pub record IsNextBase (old new : StreamsSeen) : Type 0 where
  pub script : Script
  pub spelled : Spells old new script
  pub written : new.output.held ≡ after old.output.held (script_text_of (next_base script (record_of script)))
  pub lawful : IsLawful (next_base script (record_of script))
  pub reads : length (script_text_of (next_base script (record_of script))) ≤ max_bytes
      → IsReadAs (next_base script (record_of script))
