-- proof: what the steps of a run are told of it, and what they leave: of the state and of what lies behind it.
use Rattle.std.specs.Prelude.{◌≡◌, ◌<◌, ◌≤◌, ◌+◌, ℕ, length, Option, Some}
use Rattle.std.specs.declared.result.Result.{Result}
use Rattle.ctss_types.specs.declared.fault.RunFault.{RunFault}
use Rattle.time_sharing.specs.System.{Service, next_tick}
use Rattle.level_queues.specs.declared.queues.Chosen.{Chosen}
use Rattle.plan_model.specs.Levels.{chosen, user_of, IsChosen}
use Rattle.plan_model.specs.Loads.{no_places}
use Rattle.plan_model.specs.Spent.{NobodyRises}
use Rattle.system_model.specs.Sound.{Sound, IsUser}
use Rattle.user_cores.specs.Backing.{BackState, CallsNothing}
use Rattle.user_cores.specs.declared.backing.Backing.{Ghosts}
use Rattle.supervisor.specs.Seen.{run_seen}
use Rattle.supervisor.specs.Shows.{MatchesConsoles, TextsGrow}
use Rattle.supervisor.specs.Steps.{IsLeft, Lasts}
use Rattle.supervisor.specs.Whole.{Whole, whole, watched, run_of, Holds, StepsOn, AreTied, AreCounted, AreCountedBy}
use Rattle.supervisor.specs.declared.state.State.{State}
use Rattle.supervisor.specs.declared.watch.Watch.{Watch}

-- the clock stands before a limit that a run may go to
pub record HasTime (limit clock : ℕ) : Type 0 where
  pub early : clock < limit
  pub most : limit ≤ 100000000

-- the user of a service, which is the one that the queues chose, is to be served at this tick
pub record IsToServe (v : Service) (s : Whole) : Type 0 where
  pub user : IsUser v.user (run_of s)
  pub chosen_is : user_of (chosen s.bare.levels) ≡ Some v.user
  pub ran : v.ran ≤ s.bare.clock
  pub in_time : s.bare.clock ≤ 100000000

-- this service is open, and its user is the head of the lowest level
pub record IsFirst (v : Service) (next : Chosen) (s : Whole) : Type 0 where
  pub user : IsUser v.user (run_of s)
  pub serves : s.bare.service ≡ Some v
  pub first : IsChosen next.user next.level next.left s.bare.levels
  pub mine : next.user ≡ v.user

-- So many ticks of this user may go by before anything else is to be looked at: the end of its time, of which so many ticks are left,
-- the limit, an event, or another user that may rise, from this tick on.
pub record MayPass (ticks user time limit rise : ℕ) (s : Whole) : Type 0 where
  pub left : ticks < time
  pub up : s.bare.clock + ticks ≤ limit
  pub quiet : s.bare.clock + ticks ≤ next_tick limit s.bare.events
  pub low : NobodyRises (Some user) rise s.bare.levels
  pub still : s.bare.clock + ticks ≤ rise

-- a user whose session is over, if any, has no core any more, and drum and disk were not called
pub record GivesUp (cut : Option ℕ) (old new : BackState) : Type 0 where
  pub left : IsLeft cut old.held new.held
  pub none : CallsNothing old new

module _ {C : Type 0} (g : Ghosts C) where
  -- no fault of drum or disk has come, and what holds at each moment holds
  pub record IsGoing (s : State) (cores : C) : Type 0 where
    pub usable : g.Usable cores
    pub held : Holds (whole s (g.state cores))

  -- What a call leaves that drum or disk may have failed: the drum's calls are those that the schedule gained, and neither count of
  -- faults fell. Unless one failed, users and what lies behind them agree, and more may be asked of it.
  pub record Leaves (result : Result Unit RunFault) (had : State) (old : C) (has : State) (new : C) : Type 0 where
    pub counted : AreCountedBy result (whole had (g.state old)) (whole has (g.state new))
    pub tied : Lasts result (AreTied (whole has (g.state new)))
    pub usable : Lasts result (g.Usable new)
    pub keeps : g.Keeps old new
    pub faults_grow : (g.state old).faults ≤ (g.state new).faults
    pub disk : (g.state old).disk_faults ≤ (g.state new).disk_faults

  -- what a call leaves that asks nothing of drum and disk
  pub record LeavesDevices (had : State) (old : C) (has : State) (new : C) : Type 0 where
    pub counted : AreCounted (whole had (g.state old)) (whole has (g.state new))
    pub tied : AreTied (whole has (g.state new))
    pub usable : g.Usable new
    pub keeps : g.Keeps old new
    pub faults : (g.state new).faults ≡ (g.state old).faults
    pub disk : (g.state new).disk_faults ≡ (g.state old).disk_faults

  -- what came are whole steps without an entry, at which drum and disk were not called
  pub record WorksOn (limit : ℕ) (had : State) (old : C) (has : State) (new : C) : Type 0 where
    pub many : StepsOn limit (whole had (g.state old)) (whole has (g.state new))
    pub entries : has.entries.items ≡ had.entries.items
    pub tied : AreTied (whole has (g.state new))
    pub usable : g.Usable new
    pub keeps : g.Keeps old new
    pub calls : (g.state new).calls ≡ (g.state old).calls
    pub faults : (g.state new).faults ≡ (g.state old).faults
    pub disk : (g.state new).disk_faults ≡ (g.state old).disk_faults

  -- a run goes on, and the rows of what its consoles show are those of its consoles
  pub record IsWatched (w : Watch) (cores : C) : Type 0 where
    pub going : IsGoing w.state cores
    pub matched : MatchesConsoles w.state.consoles.items w.state.sessions.items w.texts

  -- What whole steps leave of a run that is watched: what its consoles have shown has grown, and they are as many as before. The drum's
  -- calls are those that the schedule gained, and neither count of faults fell. Unless drum or disk failed, what holds at each moment
  -- holds, and more may be asked.
  pub record LeavesWatched (result : Result Unit RunFault) (had : Watch) (old : C) (has : Watch) (new : C) : Type 0 where
    pub grows : TextsGrow (watched had (g.state old)).bare.texts (watched has (g.state new)).bare.texts
    pub seats : length has.state.consoles.items ≡ length had.state.consoles.items
    pub counted : AreCountedBy result (watched had (g.state old)) (watched has (g.state new))
    pub tells : Lasts result ((g.state new).held.tells ≡ (g.state old).held.tells)
    pub held : Lasts result (Holds (watched has (g.state new)))
    pub usable : Lasts result (g.Usable new)
    pub sound : Sound (run_seen no_places has.state)
    pub matched : MatchesConsoles has.state.consoles.items has.state.sessions.items has.texts
    pub keeps : g.Keeps old new
    pub faults_grow : (g.state old).faults ≤ (g.state new).faults
    pub disk : (g.state old).disk_faults ≤ (g.state new).disk_faults
