-- claim: without an age no wait has a bound: for each number of ticks, a script in which a user that is ready waits for longer.
use Rattle.std.specs.Prelude.{◌≡◌, ℕ, ◌+◌, true, [], ◌∷◌, codes}
use Rattle.ctss_types.specs.Words.{name_of}
use Rattle.ctss_types.specs.Params.{params_of}
use Rattle.ctss_types.specs.declared.file.FileBody.{FileBody}
use Rattle.ctss_types.specs.declared.script.Script.{Script}
use Rattle.ctss_types.specs.declared.script.Event.TheVariants as event
use Rattle.ctss_types.specs.declared.history.Cause.TheVariants as cause
use Rattle.ctss_types.specs.declared.history.Entry.TheVariants.{Serve}
use Rattle.time_sharing.specs.System.{at}
use Rattle.program_model.specs.Lines.{words_of_line}
use Rattle.user_model.specs.Session.{nobody}
use Rattle.user_model.specs.User.{can_step}
use Rattle.system_model.specs.Run.{Run, AfterSteps}
use Rattle.system_model.specs.Record.{start_of, record_of}
use Rattle.system_model.specs.Rows.{spin, at_seat}
use Rattle.fair_laws.specs.Rows.{services_of}
use Rattle.fair_laws.specs.Waits.{IsUsual, WaitsAt, WaitEndsBy}

-- at some moment of a script's run, a user that is ready waits, and its wait doesn't end within the given number of ticks
pub record IsStarved (bound : ℕ) (script : Script) : Type 0 where
  pub user : ℕ
  pub level : ℕ
  pub moment : Run
  pub steps : AfterSteps script.end (start_of script) moment
  pub ready : can_step (at nobody moment.system.users user) ≡ true
  pub waits : WaitsAt level user moment
  pub longer : WaitEndsBy script.end (moment.system.clock + bound) user moment → ⊥

-- a command file whose one line runs the file itself
abbrev pub runs_itself : FileBody
runs_itself =
    record { name = record { first = name_of (codes "R"); second = name_of (codes "RUNCOM") }; mode = 1; words = words_of_line 14 (codes "RUNCOM R") }

-- ALFA runs a command file that runs itself, and BETA a program that goes back to its first word for ever; both begin at tick 0
abbrev pub hogging : (ticks : ℕ) → Script
hogging ticks =
    record {
      params = params_of (1025 ∷ 1 ∷ 0 ∷ 16 ∷ 20 ∷ 5 ∷ 0 ∷ []);
      accounts = record { name = name_of (codes "ALFA"); password = name_of (codes "SESAME"); blocks = 8; tracks = 5 }
          ∷ record { name = name_of (codes "BETA"); password = name_of (codes "OPEN"); blocks = 8; tracks = 5 } ∷ [];
      files = record { owner = 1; body = runs_itself } ∷ record { owner = 2; body = spin } ∷ [];
      events = record { tick = 0; console = 1; event = event.Dial } ∷ at_seat 0 1 (codes "LOGIN ALFA") ∷ at_seat 0 1 (codes "SESAME")
          ∷ record { tick = 0; console = 2; event = event.Dial } ∷ at_seat 0 2 (codes "LOGIN BETA") ∷ at_seat 0 2 (codes "OPEN")
          ∷ at_seat 0 2 (codes "LOADGO SPIN") ∷ at_seat 0 1 (codes "RUNCOM R") ∷ [];
      end = ticks + 5;
    }

-- For each number of ticks there is a script without an age in which a user that is ready waits for longer.
abbrev pub NoBoundWithoutAge : Type 0
NoBoundWithoutAge = (bound : ℕ) → IsUsual (hogging bound) × ((hogging bound).params.age ≡ 0) × IsStarved bound (hogging bound)

-- With 10 ticks ALFA is served at tick 1 and at each tick from 3 to the end; BETA is served at the ticks 0 and 2, and then no more.
pub record RowOfHogging : Type 0 where
  pub first : services_of 1 (record_of (hogging 10)).entries ≡
      Serve 1 1 0 1 cause.Stop ∷ Serve 3 1 0 1 cause.Stop ∷ Serve 4 1 0 1 cause.Stop ∷ Serve 5 1 0 1 cause.Stop ∷ Serve 6 1 0 1 cause.Stop
      ∷ Serve 7 1 0 1 cause.Stop ∷ Serve 8 1 0 1 cause.Stop ∷ Serve 9 1 0 1 cause.Stop ∷ Serve 10 1 0 1 cause.Stop ∷ Serve 11 1 0 1 cause.Stop
      ∷ Serve 12 1 0 1 cause.Stop ∷ Serve 13 1 0 1 cause.Stop ∷ Serve 14 1 0 1 cause.Stop ∷ []
  pub second : services_of 2 (record_of (hogging 10)).entries ≡ Serve 0 2 0 1 cause.Size ∷ Serve 2 2 0 1 cause.Time ∷ []
