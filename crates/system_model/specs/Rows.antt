-- claim: worked rows: a script without users; one user that logs in, gives a password and logs out; and one that is refused
-- three times, types a command with a word too much after a day, and hangs up; and two users whose programs run without an end, where a
-- user rises after 50 ticks.
use Rattle.std.specs.Prelude.{◌≡◌, ℕ, List, [], ◌∷◌, codes, drop}
use Rattle.ctss_types.specs.Words.{name_of}
use Rattle.ctss_types.specs.Params.{params_of}
use Rattle.ctss_types.specs.declared.script.Script.{Script}
use Rattle.ctss_types.specs.declared.script.Timed.{Timed}
use Rattle.ctss_types.specs.declared.script.Event.TheVariants as event
use Rattle.ctss_types.specs.declared.history.Item.TheVariants as item
use Rattle.ctss_types.specs.declared.history.EventKind.TheVariants as kind
use Rattle.ctss_types.specs.declared.history.Cause.TheVariants as cause
use Rattle.ctss_types.specs.declared.history.Entry.TheVariants.{Taken, Login, Refused, Idle, Swap, Rise, Serve, Clock}
use Rattle.ctss_types.specs.declared.file.FileBody.{FileBody}
use Rattle.system_model.specs.Record.{record_of}

abbrev pub empty_script : Script
empty_script =
    record { params = params_of (1024 ∷ 100 ∷ 10 ∷ 0 ∷ 0 ∷ 0 ∷ []); accounts = []; files = []; events = []; end = 0 }

abbrev pub RowOfNobody : Type 0
RowOfNobody = record_of empty_script ≡ record { entries = []; transcripts = []; files = []; common = []; clock = 0 }

abbrev pub one_user : Script
one_user =
    record {
      params = params_of (1024 ∷ 100 ∷ 10 ∷ 8 ∷ 20 ∷ 5 ∷ []);
      accounts = record { name = name_of (codes "ALFA"); password = name_of (codes "SESAME"); blocks = 8; tracks = 10 } ∷ [];
      files = [];
      events = record { tick = 0; console = 1; event = event.Dial } ∷ record { tick = 0; console = 1; event = event.Line (codes "LOGIN ALFA") }
          ∷ record { tick = 0; console = 1; event = event.Line (codes "SESAME") } ∷ record { tick = 20; console = 1; event = event.Line (codes "LOGOUT") } ∷ [];
      end = 100;
    }

abbrev pub RowOfOneUser : Type 0
RowOfOneUser =
    record_of one_user ≡
    record {
      entries = Taken 0 1 kind.Dial 0 0 ∷ Taken 0 1 kind.Line 0 0 ∷ Taken 0 1 kind.Line 0 0 ∷ Login 0 1 1 ∷ Idle 0 20
          ∷ Taken 20 1 kind.Line 1 0 ∷ Clock 20 1 ∷ Serve 20 1 1 1 cause.Stop ∷ Idle 21 100 ∷ [];
      transcripts = (item.Out (codes "ALFA LOGGED IN") ∷ item.In (codes "LOGOUT") ∷ item.Out (codes "W 0000.0") ∷ item.Out (codes "ALFA LOGGED OUT") ∷ []) ∷ [];
      files = [] ∷ [];
      common = [];
      clock = 100;
    }

abbrev pub line_at : ℕ → List ℕ → Timed
line_at tick text = record { tick = tick; console = 1; event = event.Line text }

abbrev pub file_of_mode : ℕ → FileBody
file_of_mode mode = record { name = record { first = name_of (codes "NOTES"); second = name_of (codes "TEXT") }; mode = mode; words = mode ∷ [] }

abbrev pub late_user : Script
late_user =
    record {
      params = params_of (1024 ∷ 100 ∷ 10 ∷ 8 ∷ 20 ∷ 5 ∷ []);
      accounts = record { name = name_of (codes "ALFA"); password = name_of (codes "SESAME"); blocks = 8; tracks = 10 } ∷ [];
      files = record { owner = 1; body = file_of_mode 0 } ∷ record { owner = 2; body = file_of_mode 2 } ∷ record { owner = 1; body = file_of_mode 1 } ∷ [];
      events = record { tick = 0; console = 1; event = event.Dial } ∷ line_at 0 (codes "LOGIN ALFA BETA") ∷ line_at 0 (codes "LOGIN ALFA") ∷ line_at 0 (codes "SESAME NOW")
          ∷ line_at 0 (codes "LOGIN ALFA") ∷ line_at 0 (codes "OPEN") ∷ line_at 0 (codes "LOGIN ALFA") ∷ line_at 0 (codes "SESAME")
          ∷ line_at 15023000 (codes "LOGOUT NOW") ∷ record { tick = 15050000; console = 1; event = event.Hang } ∷ [];
      end = 15100000;
    }

abbrev pub RowOfLateUser : Type 0
RowOfLateUser =
    record_of late_user ≡
    record {
      entries = Taken 0 1 kind.Dial 0 0 ∷ Taken 0 1 kind.Line 0 0 ∷ Refused 0 1 1 ∷ Taken 0 1 kind.Line 0 0 ∷ Taken 0 1 kind.Line 0 0 ∷ Refused 0 1 1
          ∷ Taken 0 1 kind.Line 0 0 ∷ Taken 0 1 kind.Line 0 0 ∷ Refused 0 1 1 ∷ Taken 0 1 kind.Line 0 0 ∷ Taken 0 1 kind.Line 0 0 ∷ Login 0 1 1
          ∷ Idle 0 15023000 ∷ Taken 15023000 1 kind.Line 1 0 ∷ Clock 15023000 1 ∷ Serve 15023000 1 1 1 cause.Stop ∷ Idle 15023001 15050000
          ∷ Taken 15050000 1 kind.Hang 1 1 ∷ Idle 15050000 15100000 ∷ [];
      transcripts = (item.Out (codes "ALFA LOGGED IN") ∷ item.In (codes "LOGOUT NOW") ∷ item.Out (codes "W 0102.3") ∷ item.Out (codes "BAD ARGUMENTS")
          ∷ item.Out (codes "R 1") ∷ item.Hang ∷ []) ∷ [];
      files = (file_of_mode 1 ∷ []) ∷ [];
      common = [];
      clock = 15100000;
    }

-- a program that goes back to its first word for ever
abbrev pub spin : FileBody
spin = record { name = record { first = name_of (codes "SPIN"); second = name_of (codes "BSS") }; mode = 1; words = 1 ∷ 262144 ∷ 268435456 ∷ [] }

abbrev pub at_seat : ℕ → ℕ → List ℕ → Timed
at_seat tick console text = record { tick = tick; console = console; event = event.Line text }

abbrev pub two_spins : Script
two_spins =
    record {
      params = params_of (1024 ∷ 100 ∷ 0 ∷ 16 ∷ 20 ∷ 5 ∷ 50 ∷ []);
      accounts = record { name = name_of (codes "ALFA"); password = name_of (codes "SESAME"); blocks = 8; tracks = 5 }
          ∷ record { name = name_of (codes "BETA"); password = name_of (codes "OPEN"); blocks = 8; tracks = 5 } ∷ [];
      files = record { owner = 1; body = spin } ∷ record { owner = 2; body = spin } ∷ [];
      events = record { tick = 0; console = 1; event = event.Dial } ∷ at_seat 0 1 (codes "LOGIN ALFA") ∷ at_seat 0 1 (codes "SESAME")
          ∷ record { tick = 0; console = 2; event = event.Dial } ∷ at_seat 0 2 (codes "LOGIN BETA") ∷ at_seat 0 2 (codes "OPEN")
          ∷ at_seat 10 1 (codes "LOADGO SPIN") ∷ at_seat 10 2 (codes "LOADGO SPIN") ∷ [];
      end = 300;
    }

-- what comes after the two logins
abbrev pub RowOfRises : Type 0
RowOfRises =
    drop 8 (record_of two_spins).entries ≡
    (Idle 0 10 ∷ Taken 10 1 kind.Line 1 0 ∷ Taken 10 2 kind.Line 2 0 ∷ Clock 10 1 ∷ Serve 10 1 1 1 cause.Size ∷ Swap 11 1 0 0 1
    ∷ Rise 60 2 0 ∷ Serve 11 1 0 100 cause.Time ∷ Clock 111 2 ∷ Serve 111 2 0 1 cause.Size ∷ Swap 112 2 0 0 1
    ∷ Rise 161 1 0 ∷ Serve 112 2 0 100 cause.Time ∷ Rise 262 2 0 ∷ Serve 212 1 0 88 cause.End ∷ [])
