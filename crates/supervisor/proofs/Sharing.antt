-- A step that makes an operation on the common files, in its parts.
use Rattle.std.proofs.Common.{◌≡◌, ℕ, ◌≤◌, Bool, true, false, List, [], ◌∷◌, ◌++◌, append_assoc, ap, sym, ◌∙◌, arith, inl, inr}
use Rattle.time_sharing.specs.Machine.{Ending}
use Rattle.time_sharing.specs.System.{Service, Entry, cause_of, clock_entry, service_entry}
use Rattle.system_model.specs.Joined.{counted}
use Rattle.plan_model.specs.Levels.{has_time}
use Rattle.ctss_types.specs.declared.file.FileBody.{FileBody}
use Rattle.file_map.specs.Known.{known}
use Rattle.user_model.specs.Inner.{Stored}
use Rattle.user_session.specs.Stores.{stored}
use Rattle.system_model.specs.Run.{Run}
use Rattle.user_cores.specs.Backing.{Held}
use Rattle.user_cores.specs.Backing.{BackState, WorksIn}
use Rattle.supervisor.specs.Steps.{Stays}
use Rattle.supervisor.proofs.Doing.{either}

-- where nothing happened at all
pub stays_same : (old new : Run) (had has : Held) → new ≡ old → (had.tells ≡ true → (u : ℕ) → 1 ≤ u → has.stores u ≡ had.stores u) → has.tells ≡ had.tells → has.common ≡ had.common → Stays old new had has
stays_same old new had has is words tells common = record { run = is; stores = words; tells = tells; common = common }

-- after a call that left the run as it was
pub stays_from : (old mid new : Run) (had at has : Held) → mid ≡ old → (had.tells ≡ true → (u : ℕ) → at.stores u ≡ had.stores u) → at.tells ≡ had.tells → at.common ≡ had.common
    → Stays mid new at has → Stays old new had has
stays_from old mid new had at has is words tells common stays =
    record {
      run = stays.run ∙ is;
      stores = λ t u h. stays.stores (tells ∙ t) u h ∙ words t u;
      tells = stays.tells ∙ tells;
      common = stays.common ∙ common;
    }

-- the words of all users stay, where those of the one that works do
pub words_stay : (user : ℕ) (old new : BackState) → WorksIn 0 user old new → new.window user ≡ old.window user
    → old.held.tells ≡ true → (u : ℕ) → new.held.stores u ≡ old.held.stores u
words_stay user old new worked same told u =
    elim (either user u) [
      | inl e ↦ ap new.held.stores e ∙ worked.mine told ∙ same ∙ sym (worked.was told) ∙ ap old.held.stores (sym e)
      | inr n ↦ worked.rest.others u (omega arith) n
    ]

-- where a step over files that are known as these has changed nothing, all that is stored stays
pub same_store : (tells : Bool) (old new : Stored) (had has : List FileBody) → known tells had ≡ old.files → known tells has ≡ new.files → stored new.core has ≡ stored old.core had → new ≡ old
same_store tells old new had has was now is = λ j. record { core = (is j).core; files = (sym now ∙ ap (λ (s : Stored). known tells s.files) is ∙ was) j }

-- the notes of a step that made a common operation, written before it is counted
pub counted_shared : (v : Service) (t : Ending) (asked : Bool) (note : Entry) (r : Run)
    → counted v t false [] (record r { system = record r.system { entries = (r.system.entries ++ clock_entry asked r.system.clock v.user) ++ note ∷ [] } }) ≡ counted v t asked (note ∷ []) r
unfolding counted
counted_shared v t asked note r =
    ap (λ (es : List Entry). record there { system = record there.system { entries = es } })
    (append_assoc (r.system.entries ++ clock) (note ∷ []) service ∙ append_assoc r.system.entries clock (note ∷ service))
  where
    there : Run
    there = counted v t asked (note ∷ []) r

    clock : List Entry
    clock = clock_entry asked r.system.clock v.user

    service : List Entry
    service = service_entry v (cause_of t (has_time r.system.plan.levels))
