-- No load falls into a service of a script's run, and what a load takes; so the spans of its record join.
use Rattle.std.proofs.Common.{◌≡◌, ℕ, false, List, [], refl, sym, subst}
use Rattle.ctss_types.specs.declared.script.Account.{Account}
use Rattle.ctss_types.specs.declared.file.FileBody.{FileBody}
use Rattle.time_sharing.specs.Rows.{machine}
use Rattle.user_model.specs.Session.{user_rows}
use Rattle.user_model.specs.User.{User, step, ending}
use Rattle.user_model.specs.Inner.{blocks_of}
use Rattle.user_model.proofs.WentLaws.{went_stays}
use Rattle.plan_model.specs.Plan.{Plan, first_plan, must_load}
use Rattle.plan_model.specs.Levels.{dropped}
use Rattle.plan_model.proofs.StaysLoaded.{cut_stays}
use Rattle.system_model.specs.World.{world_with}
use Rattle.system_model.specs.Run.{run_to, ended, measure}
use Rattle.system_model.specs.Record.{users_from, start_of, record_of, consoles}
use Rattle.record_laws.specs.Worlds.{StaysLoaded, Costs}
use Rattle.record_laws.specs.Laws.{TicksJoin}
use Rattle.record_laws.proofs.Cover as cover

module _ (swap common : ℕ) (accounts : List Account) where
  stays_loaded : StaysLoaded (machine user_rows) (world_with swap common accounts)
  unfolding step ending
  stays_loaded =
      record {
        typed = λ plan u p l h. h;
        opened = λ plan u p h. h;
        went = λ plan u p t r e h. subst (λ (n : ℕ). must_load plan u n ≡ false) (sym (went_stays t r p e)) h;
        charged = λ plan u p q now h. h;
        risen = λ plan u v level q now h. h;
        line = λ plan u v was p q now h. h;
        cut = λ plan u v kind p q now other h.
            cut_stays (dropped v plan.levels) plan.places u v (blocks_of q.inner) kind other h;
      }

  costs : Costs swap (world_with swap common accounts)
  costs plan u p = refl

pub ticks_join : TicksJoin
unfolding record_of start_of run_to ended measure
ticks_join script =
    let p = script.params in
    let accounts = script.accounts in
    cover.all_ticks_join User Plan (List FileBody) (machine user_rows) (world_with p.swap p.common accounts) p.swap
    (stays_loaded p.swap p.common accounts) (costs p.swap p.common accounts)
    (users_from 1 accounts script.files) [] (first_plan p) consoles script.end
    (measure script.end (start_of script)) script.events
