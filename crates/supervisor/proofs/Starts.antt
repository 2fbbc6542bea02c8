-- The state at the start of a script.
use Rattle.std.proofs.Common.{◌≡◌, ℕ, zero, suc, ◌≤◌, ◌<◌, length, List, [], ◌∷◌, ◌++◌, map, take, replicate, get_or, None, refl, sym, ap, arith}
use Rattle.ctss_types.specs.declared.script.Script.{Script}
use Rattle.ctss_types.specs.declared.script.Account.{Account}
use Rattle.std.proofs.lemmas.List.{length-map}
use Rattle.time_sharing.specs.System.{Off}
use Rattle.user_model.specs.Session.{nobody, first_state}
use Rattle.user_model.specs.User.{User}
use Rattle.plan_model.specs.Levels.{waits}
use Rattle.plan_model.specs.Plan.{first_plan}
use Rattle.system_model.specs.Run.{Run}
use Rattle.system_model.specs.Record.{start_of, users_from}
use Rattle.system_model.specs.Sound.{Sound}

-- the state that the fields make
abbrev pub made : Script → Run
made script =
    record {
      swap = script.params.swap;
      common = script.params.common;
      accounts = script.accounts;
      system = record {
        users = map (λ (a : Account). first_state a []) script.accounts;
        files = [];
        plan = first_plan script.params;
        consoles = replicate 32 Off;
        clock = 0;
        events = [];
        service = None;
        idling = None;
        entries = [];
      };
    }

-- users whose files lie elsewhere
no_files : (u : ℕ) (accounts : List Account) → map (λ (a : Account). first_state a []) accounts ≡ users_from u accounts []
no_files u [] = refl
no_files u (a ∷ accounts) = ap (λ (ps : List User). first_state a [] ∷ ps) (no_files (suc u) accounts)

pub starts : (script : Script) → made script ≡ start_of (record script { events = []; files = [] })
unfolding start_of
starts script = ap (λ (users : List User). record (made script) { system = record (made script).system { users = users } }) (no_files 1 script.accounts)

no_own : (accounts : List Account) (k : ℕ) → (get_or (map (λ (a : Account). first_state a []) accounts) k nobody).own ≤ 0
no_own [] k = omega arith
no_own (a ∷ accounts) zero = omega arith
no_own (a ∷ accounts) (suc k) = no_own accounts k

all_off : (n k : ℕ) → get_or (replicate n Off) k Off ≡ Off
all_off zero k = refl
all_off (suc n) zero = refl
all_off (suc n) (suc k) = all_off n k

pub sound_made : (script : Script) → length script.accounts ≤ 30 → Sound (made script)
unfolding waits
sound_made script few =
    let same : length (map (λ (a : Account). first_state a []) script.accounts) ≡ length script.accounts = length-map script.accounts (λ (a : Account). first_state a []) in
    record {
      few = omega (arith, same, few);
      accounts = omega (arith, same);
      seats = λ k d h. absurd (omega arith);
      sits = λ k u e. let off = all_off 32 k in cc;
      served = λ v e. cc;
      ran = λ v e. cc;
      queued = λ u e. cc;
      owns = no_own script.accounts;
    }

pub take_one : {X : Type 0} (xs : List X) (k : ℕ) (x d : X) → k < length xs → x ≡ get_or xs k d → take (suc k) xs ≡ take k xs ++ x ∷ []
take_one [] k x d h is = absurd (omega arith)
take_one (y ∷ xs) zero x d h is = ap (λ (z : _). z ∷ []) (sym is)
take_one (y ∷ xs) (suc k) x d h is = ap (λ (ys : List _). y ∷ ys) (take_one xs k x d (omega arith) is)
