-- claim: a turn that was done: what it did to its link and its core, and what it left.
use Rattle.std.specs.Prelude.{◌≡◌, ℕ, ◌+◌, ◌*◌, Bool, List, [], ◌∷◌, ◌++◌, map, Option, None}
use Rattle.ctss_types.specs.declared.script.Timed.{Timed}
use Rattle.console_link.specs.Links.{LinkSeen}
use Rattle.console_server.specs.declared.tasks.Task.{Task}
use Rattle.live_core.specs.Core.{CoreSeen, CoreCall, Took, Went, WentTo}
use Rattle.console_server.specs.Readings.{DidAll}
use Rattle.console_server.specs.Turns.{Desk, TurnAnswers, IsTurn, calls_of_turn, events_of_turn, desk_after}
use Rattle.console_server.specs.Seats.{StandAll}

-- The link was called, the core was given events and went to its limit, and the desk is left, as one turn says.
pub record IsDone {C : Type 0} (goes : C → List CoreCall → C → Type 0) (see : C → CoreSeen) (number : ℕ) (desk : Desk) (link_had link_has : LinkSeen) (core_had core_has : C) (had has : List Timed) (seats : List (Option Task)) (failed : List Bool) : Type 0 where
  pub turn : TurnAnswers
  pub lawful : IsTurn (see core_had).texts (see core_has).texts desk turn
  pub link : DidAll (calls_of_turn (see core_had).texts desk turn) link_had link_has
  pub core : goes core_had (map Took (events_of_turn (1000 * number) (see core_had).texts desk turn) ++ Went (1000 * (number + 1)) None ∷ []) core_has
  pub noted : has ≡ had ++ events_of_turn (1000 * number) (see core_had).texts desk turn
  pub went : WentTo None (see core_had) (see core_has)
  pub seats_are : StandAll seats (desk_after (see core_had).texts desk turn).seats
  pub failed_are : failed ≡ (desk_after (see core_had).texts desk turn).failed
