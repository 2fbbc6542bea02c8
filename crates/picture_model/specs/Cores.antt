-- claim: whose each place of core is after each load of the run of a script.
use Rattle.std.specs.Prelude.{ℕ, zero, suc, if◌then◌else◌, nat_lt, List, [], ◌∷◌, ◌++◌, map, length, drop, slice_index_or}
use Rattle.ctss_types.specs.declared.script.Script.{Script}
use Rattle.ctss_types.specs.declared.history.Entry.{Entry}
use Rattle.ctss_types.specs.declared.history.Entry.TheVariants.{Swap}
use Rattle.system_model.specs.Run.{Run, next, measure}
use Rattle.system_model.specs.Record.{start_of}

-- the number of the user whose a place is; 0 where it is nobody's
abbrev pub owner_of : Run → (place : ℕ) → ℕ
owner_of r = r.system.plan.places.owner

-- the ticks at which the loads of a schedule begin
abbrev pub load_tick : Entry → List ℕ
load_tick (Swap tick user dumped read fresh) = tick ∷ []
load_tick _ = []

abbrev pub load_ticks : List Entry → List ℕ
load_ticks [] = []
load_ticks (e ∷ es) = load_tick e ++ load_ticks es

-- the owners after a step, once for each load of which it tells
abbrev pub owners_shown : (old new : Run) → List (ℕ → ℕ)
owners_shown old new = map (λ tick. owner_of new) (load_ticks (drop (length old.system.entries) new.system.entries))

-- the owners after each load, in so many steps below a limit
abbrev pub owners_from : (limit steps : ℕ) → Run → List (ℕ → ℕ)
owners_from limit zero r = []
owners_from limit (suc n) r =
    if nat_lt r.system.clock limit then owners_shown r (next limit r) ++ owners_from limit n (next limit r) else []

-- the same in the whole run of a script, which has no more steps than its measure says
unfoldable pub owners_of : Script → List (ℕ → ℕ)
owners_of script = owners_from script.end (measure script.end (start_of script)) (start_of script)

-- owners that stand in a list, by place
abbrev pub owner_in : List ℕ → ℕ → ℕ
owner_in owners place = slice_index_or owners place 0
