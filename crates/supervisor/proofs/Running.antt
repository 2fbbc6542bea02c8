-- Whole runs: what the loop over steps keeps, and what it ends with.
use Rattle.std.proofs.Common.{◌≡◌, ℕ, suc, ◌+◌, ◌<◌, ◌≤◌, true, List, [], ◌∷◌, map, Option, Some, None, refl, sym, ◌∙◌, ap, subst}
use Rattle.time_sharing.specs.Machine.{Item}
use Rattle.user_model.specs.User.{User}
use Rattle.user_model.specs.Inner.{Stored}
use Rattle.system_model.specs.Run.{Run, next, run_to, AfterSteps}
use Rattle.system_model.specs.Joined.{joined, with_stores, at_places}
use Rattle.system_model.specs.Sound.{Sound, IsUser}
use Rattle.plan_model.specs.Loads.{Places, dumps, reads}
use Rattle.medium.specs.Medium.{CallList}
use Rattle.plan_model.specs.Levels.{chosen, user_of}
use Rattle.ctss_types.specs.declared.session.Waiting.{Waiting}
use Rattle.system_model.proofs.SoundLaws.{first_user, Alike, user_too, seats_too}
use Rattle.system_model.proofs.JoinedLaws.{joined_same, same_stores, must_same, blocks_same}
use Rattle.system_model.proofs.RunLaws.{run_to_next, run_to_done, after_next, after_none}
use Rattle.user_cores.specs.Backing.{Held}
use Rattle.supervisor.specs.Counts.{IsCounted, calls_to_load}
use Rattle.supervisor.specs.Steps.{Does, Stays, IsTied, IsHeld, LoadIsDue, NextLoadFails, HasRun, HasRunPart, HasRunShown, HasRunToLoad}
use Rattle.supervisor.proofs.Counting.{counted_to_load}
use Rattle.supervisor.proofs.Doing.{does_sound}

-- a step of users joined with their words
pub joined_next : (limit : ℕ) (old new : Run) (had has : Held) → Does (next limit) old new had has → had.tells ≡ true → joined has.stores new ≡ next limit (joined had.stores old)
joined_next limit old new had has d told =
    joined_same has.stores d.after new (λ u. sym (d.now told u)) ∙ d.is ∙ ap (next limit) (joined_same d.before had.stores old (d.was told))

-- a part of the run, of the users joined with their words, where the drum tells them
abbrev pub HasRunSteps : ℕ → (old new : Run) → (had has : Held) → Type 0
HasRunSteps limit old new had has = had.tells ≡ true → AfterSteps limit (joined had.stores old) (joined has.stores new)

-- what is to come of a run is the same after a step
abbrev pub Leads : ℕ → (start now : Run) → (first has : Held) → Type 0
Leads limit start now first has = first.tells ≡ true → run_to limit (joined has.stores now) ≡ run_to limit (joined first.stores start)

pub leads_on : (limit : ℕ) (start old new : Run) (first had has : Held) → had.tells ≡ first.tells → old.system.clock < limit → Does (next limit) old new had has → Leads limit start old first had → Leads limit start new first has
unfolding joined
leads_on limit start old new first had has tells up d leads = λ told.
    ap (run_to limit) (joined_next limit old new had has d (tells ∙ told)) ∙ run_to_next limit (joined had.stores old) up ∙ leads told

pub part_on : (limit : ℕ) (start old new : Run) (first had has : Held) → had.tells ≡ first.tells → old.system.clock < limit → Does (next limit) old new had has → HasRunSteps limit start old first had → HasRunSteps limit start new first has
unfolding joined
part_on limit start old new first had has tells up d part = λ told.
    subst (AfterSteps limit (joined first.stores start)) (sym (joined_next limit old new had has d (tells ∙ told))) (after_next limit (joined first.stores start) (joined had.stores old) (part told) up)

pub part_none : (limit : ℕ) (start : Run) (first : Held) → HasRunSteps limit start start first first
part_none limit start first = λ told. after_none limit (joined first.stores start)

pub run_done : (limit : ℕ) (start now : Run) (first has : Held) → limit ≤ now.system.clock → Leads limit start now first has → HasRun limit start now first has
unfolding joined
run_done limit start now first has up leads = λ told. sym (run_to_done limit (joined has.stores now) up) ∙ leads told

-- no step changes how many tracks the common files may have
pub next_common : (limit : ℕ) (r : Run) → (next limit r).common ≡ r.common
unfolding next
next_common limit r = refl

pub joined_common : (f : ℕ → Stored) (r : Run) → (joined f r).common ≡ r.common
unfolding joined
joined_common f r = refl

does_common : (limit : ℕ) (old new : Run) (had has : Held) → Does (next limit) old new had has → old.common ≡ new.common
does_common limit old new had has d = sym (joined_common d.before old) ∙ sym (next_common limit (joined d.before old)) ∙ ap (λ (r : Run). r.common) (sym d.is) ∙ joined_common d.after new

pub held_on : (limit : ℕ) (old new : Run) (had has : Held) → old.system.clock < limit → IsHeld old had → IsTied new.system.users has → Does (next limit) old new had has → IsHeld new has
held_on limit old new had has up held tied d =
    record { sound = does_sound limit old new had has up held.sound d; tied = tied; common = d.common ∙ held.common ∙ does_common limit old new had has d }

pub transcripts_same : (k : ℕ) (f : ℕ → Stored) (ps : List User) → map (λ (p : User). p.transcript) ps ≡ map (λ (p : User). p.transcript) (with_stores k f ps)
transcripts_same k f [] = refl
transcripts_same k f (p ∷ ps) = ap (λ (ts : List (List Item)). p.transcript ∷ ts) (transcripts_same (suc k) f ps)

-- the user whose load is due
due_user : (r : Run) (due : LoadIsDue r) → Sound r → IsUser due.user r
due_user r due sound = is_user (chosen r.system.plan.levels) refl
  where
    is_user : (x : Option (ℕ × Waiting)) → chosen r.system.plan.levels ≡ x → IsUser due.user r
    is_user None e = let h = sym (ap user_of e) ∙ due.chosen_is in cc
    is_user (Some x) e = let h = sym (ap user_of e) ∙ due.chosen_is in let same : (x.1).user ≡ due.user = cc in subst (λ (k : ℕ). IsUser k r) same (first_user r x.0 x.1 sound e)

-- a load makes as many calls with whatever words
calls_joined : (f : ℕ → Stored) (u : ℕ) (r : Run) → IsUser u r → calls_to_load u (joined f r) ≡ calls_to_load u r
unfolding joined
calls_joined f u r who = ap (λ (n : ℕ). dumps r.system.plan.places u n + reads r.system.plan.places u n) (blocks_same f u r who)

-- a part of a run, after which at most an operation on the common files was made
pub part_but_commons : (limit : ℕ) (start old new : Run) (first had has : Held) → had.tells ≡ first.tells → HasRunSteps limit start old first had → Stays old new had has → HasRunPart limit start new first has
unfolding joined
part_but_commons limit start old new first had has tells part s = λ told. (
  joined had.stores old,
  part told,
  ap (joined has.stores) s.run
      ∙ (λ j. record old {
        system = record old.system {
          users = same_stores 1 has.stores had.stores old.system.users (λ v some. s.stores (tells ∙ told) v some) j;
          files = (has.stores 0).files;
        };
      }),
)

-- a part of a run is shown
pub part_shown : (limit : ℕ) (start old new : Run) (first had : Held) → HasRunSteps limit start old first had
    → new.system.entries ≡ old.system.entries → new.system.users ≡ old.system.users → new.system.clock ≡ old.system.clock → HasRunShown limit start new first
unfolding joined
part_shown limit start old new first had part entries users clock = λ told. (
  joined had.stores old,
  part told,
  record {
    entries = entries;
    transcripts = ap (λ (ps : List User). map (λ (p : User). p.transcript) ps) users ∙ transcripts_same 1 had.stores old.system.users;
    clock = clock;
  },
)

-- a run that stopped at a load
pub stops_at_load : (limit : ℕ) (start old new : Run) (first had : Held) (was mid now : Option CallList) → HasRunSteps limit start old first had → old.system.clock < limit → Sound old
    → IsCounted start.system.entries old.system.entries was mid → NextLoadFails old mid now
    → new.system.entries ≡ old.system.entries → new.system.users ≡ old.system.users → new.system.clock ≡ old.system.clock → HasRunToLoad limit start new first was now
unfolding joined
stops_at_load limit start old new first had was mid now part early sound counted fails entries users clock = λ told.
    let due = fails.next.due in
    let who : IsUser due.user old = due_user old due sound in
    record {
      at = joined had.stores old;
      part = part told;
      early = early;
      load = record {
        quiet = fails.next.quiet;
        low = fails.next.low;
        due = record {
          user = due.user;
          chosen_is = due.chosen_is;
          served = due.served;
          absent = must_same had.stores due.user old who ∙ due.absent;
        };
      };
      shown = record {
        entries = entries;
        transcripts = ap (λ (ps : List User). map (λ (p : User). p.transcript) ps) users ∙ transcripts_same 1 had.stores old.system.users;
        clock = clock;
      };
      counted = counted_to_load start.system.entries old.system.entries new.system.entries was mid now _ _ counted fails.cut (calls_joined had.stores due.user old who) entries;
    }

-- soundness doesn't look at the places of blocks
pub sound_places : (places : Places) (r : Run) → Sound r → Sound (at_places places r)
sound_places places r sound =
    record {
      few = sound.few;
      accounts = sound.accounts;
      seats = seats_too r (at_places places r) r.system.events same sound.seats;
      sits = λ k u h. user_too r (at_places places r) u same (sound.sits k u h);
      served = λ v h. user_too r (at_places places r) v.user same (sound.served v h);
      ran = sound.ran;
      queued = λ u h. user_too r (at_places places r) u same (sound.queued u h);
      owns = sound.owns;
    }
  where
    same : Alike r (at_places places r)
    same = record { users = refl; accounts = refl; consoles = refl }

pub sound_still : (old new : Run) (had has : Held) → Sound old → Stays old new had has → Sound new
sound_still old new had has sound s = subst Sound (sym s.run) sound
