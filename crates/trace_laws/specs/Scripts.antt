-- claim: the script of a user that runs a program alone: a login, LOADGO, and the lines that the program may read.
use Rattle.std.specs.Prelude.{ℕ, List, [], ◌∷◌, map, codes}
use Rattle.ctss_types.specs.declared.script.Params.{Params}
use Rattle.ctss_types.specs.declared.script.Script.{Script}
use Rattle.ctss_types.specs.declared.script.Timed.{Timed}
use Rattle.ctss_types.specs.declared.file.FileBody.{FileBody}
use Rattle.ctss_types.specs.declared.file.OwnedFile.{OwnedFile}
use Rattle.time_sharing.specs.Machine.{Line}
use Rattle.time_sharing.specs.System.{Event, Dials, Types}
use Rattle.program_trace.specs.Lone.{track_quota, tracer, deck_files}

-- sets the numbers of PARAM: loads take no tick, nobody rises, and the common files have as many tracks as in a trace
abbrev pub alone_params : (wq quantum : ℕ) → Params
alone_params wq quantum =
    record { wq = wq; quantum = quantum; swap = 0; drum = 128; disk = 2000; common = track_quota; age = 0 }

-- gives a file to the first user
abbrev pub owned_by_first : FileBody → OwnedFile
owned_by_first body = record { owner = 1; body = body }

-- puts an event at tick 0 and at the first console
abbrev pub at_once : Event → Timed
at_once e = record { tick = 0; console = 1; event = e }

-- types a line there
abbrev pub types_at_once : Line → Timed
types_at_once line = at_once (Types line)

-- lists what is typed: the name, the password, LOADGO, and the lines behind it
abbrev pub session_lines : List Line → List Line
session_lines lines = codes "LOGIN TRACER" ∷ codes "TRACER" ∷ codes "LOADGO PROGRM" ∷ lines

-- makes the script of one account that has the deck as its file, if it fits, and types these lines at once
abbrev pub alone_script : (wq quantum : ℕ) → (deck : List ℕ) → List Line → (end : ℕ) → Script
alone_script wq quantum deck lines end =
    record {
      params = alone_params wq quantum;
      accounts = tracer ∷ [];
      files = map owned_by_first (deck_files deck);
      events = at_once Dials ∷ map types_at_once (session_lines lines);
      end = end;
    }
