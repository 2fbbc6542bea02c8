use Rattle.std.proofs.Common.{◌≡◌, ◌≤◌, true, length}
use Rattle.system_model.specs.Run.{measure}
use Rattle.supervisor.specs.Counts.{IsCounted}
use Rattle.supervisor.specs.Seen.{run_seen}
use Rattle.supervisor.specs.Steps.{IsHeld, IsServedNext}
use Rattle.supervisor.specs.Shows.{texts_of, MatchesConsoles, TextsGrow, HasTextsPart}
use Rattle.supervisor.proofs.Running.{HasRunSteps, Leads}
use Rattle.supervisor.proofs.Watching.{TextsLead}
use Rattle.supervisor.proofs.watch.Watch.advance.Given as goal

abbrev pub invariant-steps : goal.invariant-steps
invariant-steps g l = record {
  leads : Leads l.limit (run_seen (g.C.Backing.state l.fn.cores).held.places l.fn.self.state) (run_seen (g.C.Backing.state l.cores).held.places l.self.state) (g.C.Backing.state l.fn.cores).held (g.C.Backing.state l.cores).held;
  part : HasRunSteps l.limit (run_seen (g.C.Backing.state l.fn.cores).held.places l.fn.self.state) (run_seen (g.C.Backing.state l.cores).held.places l.self.state) (g.C.Backing.state l.fn.cores).held (g.C.Backing.state l.cores).held;
  lead : TextsLead l.limit (run_seen (g.C.Backing.state l.fn.cores).held.places l.fn.self.state) (run_seen (g.C.Backing.state l.cores).held.places l.self.state) (g.C.Backing.state l.fn.cores).held (g.C.Backing.state l.cores).held
      (texts_of l.fn.self.state.sessions.items l.fn.self.texts) (texts_of l.self.state.sessions.items l.self.texts);
  texts : HasTextsPart l.limit (run_seen (g.C.Backing.state l.fn.cores).held.places l.fn.self.state) (run_seen (g.C.Backing.state l.cores).held.places l.self.state) (g.C.Backing.state l.fn.cores).held (g.C.Backing.state l.cores).held
      (texts_of l.fn.self.state.sessions.items l.fn.self.texts) (texts_of l.self.state.sessions.items l.self.texts);
  grows : TextsGrow (texts_of l.fn.self.state.sessions.items l.fn.self.texts) (texts_of l.self.state.sessions.items l.self.texts);
  seats : length l.self.state.consoles.items ≡ length l.fn.self.state.consoles.items;
  matched : MatchesConsoles l.self.state.consoles.items l.self.state.sessions.items l.self.texts;
  counted : IsCounted l.fn.self.state.entries.items l.self.state.entries.items (g.C.Backing.state l.fn.cores).calls (g.C.Backing.state l.cores).calls;
  tells : (g.C.Backing.state l.cores).held.tells ≡ (g.C.Backing.state l.fn.cores).held.tells;
  held : IsHeld (run_seen (g.C.Backing.state l.cores).held.places l.self.state) (g.C.Backing.state l.cores).held;
  ready : l.ready ≡ true → IsServedNext (run_seen (g.C.Backing.state l.cores).held.places l.self.state) (g.C.Backing.state l.cores).held;
  usable : g.C.Backing.Usable l.cores;
  keeps : g.C.Backing.Keeps l.fn.cores l.cores;
  faults_grow : (g.C.Backing.state l.fn.cores).faults ≤ (g.C.Backing.state l.cores).faults;
  disk : (g.C.Backing.state l.fn.cores).disk_faults ≤ (g.C.Backing.state l.cores).disk_faults;
}

abbrev pub decreases-steps : goal.decreases-steps
decreases-steps g l = measure l.limit (run_seen (g.C.Backing.state l.cores).held.places l.self.state)
