-- claim: whom to serve, and what of each user is where.
use Rattle.std.specs.Prelude.{ℕ, ◌+◌, ◌*◌, not, Bool}
use Rattle.ctss_types.specs.declared.script.Params.{Params}
use Rattle.time_sharing.specs.Machine.{CutKind, Quit, Hang, Spent, End, Ending, Went, Stopped, Resized, Replaced, LoggedOut}
use Rattle.time_sharing.specs.System.{Move}
use Rattle.plan_model.specs.Levels.{Levels, empty_levels}
use Rattle.plan_model.specs.Loads.{Places, no_places, loaded, given_up, is_loaded, dumps, reads, clears}

pub record Plan : Type 0 where
  pub levels : Levels
  pub places : Places

-- the plan at the start of a run
abbrev pub first_plan : Params → Plan
first_plan p = record { levels = empty_levels p.wq p.quantum p.age; places = no_places }

-- whether some of a user's n blocks are not in core
abbrev pub must_load : Plan → ℕ → ℕ → Bool
must_load q u n = not (is_loaded q.places u n)

-- all of them are
abbrev pub with_load : Plan → ℕ → ℕ → Plan
with_load q u n = record q { places = loaded q.places u n }

-- what that moves; each block that goes to the drum or comes from it costs ticks
abbrev pub move_of : ℕ → Places → ℕ → ℕ → Move
move_of swap places u n =
    record { ticks = swap * (dumps places u n + reads places u n); dumped = dumps places u n; read = reads places u n; fresh = clears places u n }

-- a user that has n blocks after a step gives up the others, and all where its program was replaced
abbrev pub places_after : Ending → ℕ → ℕ → Places → Places
places_after Went u n places = places
places_after Stopped u n places = given_up places u n
places_after Resized u n places = given_up places u n
places_after Replaced u n places = given_up places u 0
places_after LoggedOut u n places = given_up places u n

-- a session that is over leaves nothing
abbrev pub places_cut : CutKind → ℕ → Places → Places
places_cut Quit u places = places
places_cut Hang u places = given_up places u 0
places_cut Spent u places = given_up places u 0
places_cut End u places = places
