-- claim: a worked row: a user whose program runs without an end, while another types one command after another; without an age,
-- and with one.
use Rattle.std.specs.Prelude.{◌≡◌, ℕ, if◌then◌else◌, nat_eq, List, [], ◌∷◌, ◌++◌, codes, replicate}
use Rattle.ctss_types.specs.Words.{name_of}
use Rattle.ctss_types.specs.Params.{params_of}
use Rattle.ctss_types.specs.declared.script.Script.{Script}
use Rattle.ctss_types.specs.declared.script.Event.TheVariants as event
use Rattle.ctss_types.specs.declared.history.Cause.TheVariants as cause
use Rattle.ctss_types.specs.declared.history.Entry.{Entry}
use Rattle.ctss_types.specs.declared.history.Entry.TheVariants.{Serve}
use Rattle.system_model.specs.Record.{record_of}
use Rattle.system_model.specs.Rows.{spin, at_seat}
use Rattle.fair_laws.specs.Bound.{longest_load, longest_wait}

-- ALFA's program runs from tick 1 on; at tick 5 BETA types twenty lines that are no commands
abbrev pub typing : (age : ℕ) → Script
typing age =
    record {
      params = params_of (1025 ∷ 1 ∷ 0 ∷ 16 ∷ 20 ∷ 5 ∷ age ∷ []);
      accounts = record { name = name_of (codes "ALFA"); password = name_of (codes "SESAME"); blocks = 8; tracks = 5 }
          ∷ record { name = name_of (codes "BETA"); password = name_of (codes "OPEN"); blocks = 8; tracks = 5 } ∷ [];
      files = record { owner = 1; body = spin } ∷ [];
      events = record { tick = 0; console = 1; event = event.Dial } ∷ at_seat 0 1 (codes "LOGIN ALFA") ∷ at_seat 0 1 (codes "SESAME")
          ∷ record { tick = 0; console = 2; event = event.Dial } ∷ at_seat 0 2 (codes "LOGIN BETA") ∷ at_seat 0 2 (codes "OPEN")
          ∷ at_seat 1 1 (codes "LOADGO SPIN") ∷ replicate 20 (at_seat 5 2 (codes "X"));
      end = 30;
    }

-- the services of a user
abbrev pub services_of : ℕ → List Entry → List Entry
services_of u [] = []
services_of u (Serve tick v level ran cause ∷ es) = (if nat_eq v u then Serve tick v level ran cause ∷ [] else []) ++ services_of u es
services_of u (_ ∷ es) = services_of u es

-- At tick 5 ALFA has sunk to level 2. Without an age it is served again at tick 25, as BETA has nothing more to do. With an age of
-- 3 it is at tick 12, and has had a tick at 13: just within the longest wait from level 2, which is 8 here.
pub record RowOfWaits : Type 0 where
  pub without : services_of 1 (record_of (typing 0)).entries ≡
      Serve 1 1 0 1 cause.Size ∷ Serve 2 1 0 1 cause.Time ∷ Serve 3 1 1 2 cause.Time ∷ Serve 25 1 2 4 cause.Time ∷ Serve 29 1 3 1 cause.End ∷ []
  pub with_age : services_of 1 (record_of (typing 3)).entries ≡
      Serve 1 1 0 1 cause.Size ∷ Serve 2 1 0 1 cause.Time ∷ Serve 3 1 1 2 cause.Time ∷ Serve 12 1 0 1 cause.Time ∷ Serve 17 1 0 1 cause.Time
      ∷ Serve 22 1 0 1 cause.Time ∷ Serve 27 1 0 1 cause.Time ∷ Serve 29 1 1 1 cause.End ∷ []
  pub bound : longest_wait 3 1 (longest_load 0) 2 2 ≡ 8
