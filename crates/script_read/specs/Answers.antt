-- proof: what the answers of reading mean.
use Rattle.std.specs.Prelude.{◌≡◌, Result, Ok, Err}
use Rattle.ctss_types.specs.declared.script.Script.{Script}
use Rattle.text_model.specs.declared.cause.ScriptRefusal.{ScriptRefusal}
use Rattle.script_read.specs.declared.fault.ScriptFault.{ScriptFault}
use Rattle.script_read.specs.declared.fault.ScriptFault.TheVariants as fault

-- a script is the one that is said, and so is a refusal, with its card and its cause
abbrev pub Reads : Result Script ScriptFault → Result Script ScriptRefusal → Type 0
Reads (Ok s) said = said ≡ Ok s
Reads (Err (fault.Refused refusal)) said = said ≡ Err refusal
Reads (Err fault.NoMemory) said = Unit {0}
