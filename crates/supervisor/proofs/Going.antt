-- What a step leaves of a run, in parts.
use Rattle.std.proofs.Common.{◌≡◌, List, Err, refl, sym, ap, subst, ◌∙◌}
use Rattle.std.specs.declared.result.Result.{Result}
use Rattle.ctss_types.specs.declared.fault.RunFault.{RunFault}
use Rattle.ctss_types.specs.declared.fault.RunFault.TheVariants.{Drum, Disk, NoMemory}
use Rattle.medium.specs.Medium.{CallList}
use Rattle.time_sharing.specs.System.{Entry}
use Rattle.std.specs.Prelude.{Option, ⊤}
use Rattle.user_model.specs.User.{User}
use Rattle.system_model.specs.Run.{Run}
use Rattle.system_model.proofs.SwapLaws.{Moves}
use Rattle.user_cores.specs.Backing.{Held}
use Rattle.user_cores.specs.declared.backing.Backing.{Ghosts}
use Rattle.supervisor.specs.Counts.{IsCounted}
use Rattle.supervisor.specs.Goes.{IsGoing, LeavesDevices}
use Rattle.supervisor.specs.Seen.{run_seen}
use Rattle.supervisor.specs.Steps.{IsTied, IsHeld, Stays, Ends, Fails, Lasts}
use Rattle.supervisor.specs.declared.state.State.{State}
use Rattle.supervisor.proofs.Counting.{counted_same, counted_none}
use Rattle.supervisor.proofs.Running.{sound_still}
use Rattle.supervisor.proofs.Serving.{ends_map}

-- the drum's calls, counted from where neither schedule nor calls had changed
pub counted_from : (r : Result Unit RunFault) (es fs gs : List Entry) (a b c : Option CallList) → fs ≡ es → b ≡ a
    → Ends r (IsCounted fs gs b c) (IsCounted fs gs b c) ⊤ (IsCounted fs gs b c)
    → Ends r (IsCounted es gs a c) (IsCounted es gs a c) ⊤ (IsCounted es gs a c)
counted_from r es fs gs a b c entries calls =
    ends_map r _ _ _ _ _ _ _ _ back back (λ u. u) back
  where
    back : IsCounted fs gs b c → IsCounted es gs a c
    back k = subst (λ (xs : List Entry). IsCounted xs gs a c) entries (subst (λ (o : Option CallList). IsCounted fs gs o c) calls k)

-- what follows from each fault but one of drum or disk
pub fails_last : (f : RunFault) (B C D P Q : Type 0) → (B → P → Q) → Fails f B C D → Lasts {T = Unit} (Err f) P → Lasts {T = Unit} (Err f) Q
fails_last NoMemory B C D P Q to h k = to h k
fails_last Drum B C D P Q to h k = tt
fails_last Disk B C D P Q to h k = tt

-- where nothing happened, what held holds
pub held_still : (old new : Run) (had has : Held) → IsHeld old had → Stays old new had has → IsTied new.system.users has → IsHeld new has
held_still old new had has held s tied =
    record { sound = sound_still old new had has held.sound s; tied = tied; common = s.common ∙ held.common ∙ sym (ap (λ (r : Run). r.common) s.run) }

module _ {C : Type 0} (g : Ghosts C) where
  -- nothing was done, and nothing called
  pub leaves_same : (had has : State) (cores : C) → IsGoing g had cores → g.Keeps cores cores
      → run_seen (g.state cores).held.places has ≡ run_seen (g.state cores).held.places had → LeavesDevices g had cores has cores
  leaves_same had has cores going stays same =
      record {
        counted = counted_same _ _ _ _ (ap (λ (r : Run). r.system.entries) same) refl;
        tied = subst (λ (us : List User). IsTied us (g.state cores).held) (ap (λ (r : Run). r.system.users) (sym same)) going.held.tied;
        usable = going.usable;
        keeps = stays;
        faults = refl;
        disk = refl;
      }

  -- users stay, no load was noted, and nothing called
  pub leaves_apart : (had has : State) (cores : C) (s : Run) → IsGoing g had cores → g.Keeps cores cores → run_seen (g.state cores).held.places has ≡ s
      → s.system.users ≡ had.sessions.items → Moves had.entries.items s.system.entries 0 0 → LeavesDevices g had cores has cores
  leaves_apart had has cores s going stays is users moves =
      record {
        counted = counted_none (run_seen (g.state cores).held.places had) s (run_seen (g.state cores).held.places has) _ _ is moves refl;
        tied = subst (λ (us : List User). IsTied us (g.state cores).held) (sym (ap (λ (r : Run). r.system.users) is ∙ users)) going.held.tied;
        usable = going.usable;
        keeps = stays;
        faults = refl;
        disk = refl;
      }
