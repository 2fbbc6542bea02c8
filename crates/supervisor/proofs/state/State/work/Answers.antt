use Rattle.std.proofs.Common.{◌≡◌, ◌<◌, ◌≤◌, ◌-◌, ℕ, not, List, length, get_or, set, refl, sym, ap, subst, ◌∙◌, arith, inr}
use Rattle.std.proofs.lemmas.List.{get_or_default}
use Rattle.user_model.specs.Session.{nobody}
use Rattle.user_model.specs.Inner.{Stored, blocks_of}
use Rattle.user_model.specs.User.{User}
use Rattle.user_model.specs.Runs.{HaveGone}
use Rattle.plan_model.specs.Levels.{chosen, since_in}
use Rattle.plan_model.specs.Loads.{Places, is_loaded}
use Rattle.system_model.specs.Run.{Run}
use Rattle.system_model.specs.Cases.{user_at, with_user}
use Rattle.system_model.specs.Runs.{passed, elapsed}
use Rattle.system_model.proofs.PassLaws.{elapsed_is, elapsed_users, elapsed_entries}
use Rattle.user_cores.specs.Backing.{Held}
use Rattle.supervisor.specs.Seen.{run_seen}
use Rattle.supervisor.specs.Steps.{IsTied}
use Rattle.supervisor.proofs.Passing.{does_many, served_next}
use Rattle.image_map.specs.Images.{size_of}
use Rattle.std.proofs.lemmas.Bool.Decides.{nat_tests}
use Rattle.supervisor.proofs.Serving.{resized_none, with_users}
use Rattle.supervisor.proofs.Tied.{tied_with}
use Rattle.supervisor.proofs.state.State.work.Goals as goal

pub returns-clause-works : goal.returns-clause-works
returns-clause-works g c =
    let had : Held = (g.C.Backing.state c.args.cores.now).held in
    let has : Held = (g.C.Backing.state c.advance-ticks.new.self).held in
    let old : Run = run_seen had.places c.args.self.now in
    let users : List User = c.args.self.now.sessions.items in
    let u : ℕ = c.args.v.user in
    let n : ℕ = c.advance-ticks.result in
    let p : User = c.advance-ticks.new.session in
    let window : Stored = (g.C.Backing.state c.args.cores.now).window u in
    let after : Stored = (g.C.Backing.state c.advance-ticks.new.self).window u in
    let within : u - 1 < length users = omega (arith, c.requires.first.user.some, c.requires.first.user.within) in
    let place : c.index.result ≡ u - 1 = c.index.ensures.value in
    let same : user_at u users ≡ c.index_mut-session.result.now = get_or_default users (u - 1) nobody c.index_mut-session.result.now within ∙ ap (λ (k : ℕ). get_or users k c.index_mut-session.result.now) (sym place) ∙ sym c.index_mut-session.ensures.value in
    let is : run_seen has.places c.count_ticks.new.self ≡ passed n c.args.v p old =
    ap (λ (q : Places). run_seen q c.count_ticks.new.self) c.advance-ticks.ensures.advanced.worked.places ∙ c.count_ticks.ensures had.places
    ∙ (λ j. elapsed n c.args.v (with_users old (set users (place j) p) old.system.entries)) ∙ elapsed_is n c.args.v p old in
    let most : n ≤ c.args.stretch.most = c.advance-ticks.ensures.most in
    let are : c.count_ticks.new.self.sessions.items ≡ with_user u p users = ap (λ (r : Run). r.system.users) (c.count_ticks.ensures had.places) ∙ elapsed_users c.advance-ticks.result c.args.v _ ∙ ap (λ (k : ℕ). set users k p) place in
    let ticks = c.advance-ticks.ensures in
    record {
      many =
          does_many c.args.stretch.limit n c.args.next.level (record { user = c.args.next.user; left = c.args.next.left; since = since_in (chosen old.system.plan.levels) }) c.args.v p old (run_seen has.places c.count_ticks.new.self) had has window after.core
          c.requires.first.user c.requires.first.serves c.requires.first.first c.requires.first.mine
          (λ h. let k = c.requires.spare.left in omega (arith, k, most))
          (let k = c.requires.spare.up in omega (arith, k, most))
          (let k = c.requires.spare.quiet in omega (arith, k, most))
          c.args.stretch.still c.requires.spare.low (let k = c.requires.spare.still in omega (arith, k, most))
          (ap not (ap (is_loaded had.places u) (sym (c.requires.going.held.tied.has u c.requires.first.user.some c.requires.first.user.within)) ∙ c.requires.loaded))
          (subst (λ (q : User). HaveGone n q p window.core after.core) (sym same) c.advance-ticks.ensures.gone)
          is
          (λ told. c.advance-ticks.ensures.advanced.worked.was told)
          (λ told. c.advance-ticks.ensures.advanced.worked.mine told ∙ (λ j. record { core = after.core; files = c.advance-ticks.ensures.advanced.files j }))
          (λ x other. c.advance-ticks.ensures.advanced.worked.rest.others x (omega arith) other)
          c.advance-ticks.ensures.advanced.worked.rest.tells c.advance-ticks.ensures.advanced.worked.rest.rules.common;
      entries = ap (λ (r : Run). r.system.entries) (c.count_ticks.ensures had.places) ∙ elapsed_entries n c.args.v _;
      tied =
          subst (λ (us : List User). IsTied us has) (sym are)
          (tied_with users 0 u p had has c.requires.first.user.some c.requires.first.user.within (resized_none (blocks_of p.inner) had has c.advance-ticks.ensures.advanced.worked.sizes c.advance-ticks.ensures.advanced.worked.rest.rules)
          (inr (refl, ap (λ (q : User). blocks_of q.inner) (c.advance-ticks.ensures.gone.left) ∙ ap (λ (q : User). blocks_of q.inner) (sym same)))
          (ap (λ (q : User). q.inner.account) (c.advance-ticks.ensures.gone.left) ∙ ap (λ (q : User). q.inner.account) (sym same)) c.requires.going.held.tied);
      usable = ticks.usable;
      keeps = ticks.keeps;
      calls = ticks.advanced.worked.rest.calls;
      faults = ticks.advanced.worked.rest.faults;
      disk = ticks.advanced.disk;
    }

pub returns-clause-ready : goal.returns-clause-ready
returns-clause-ready g c = λ fewer.
    let had : Held = (g.C.Backing.state c.args.cores.now).held in
    let has : Held = (g.C.Backing.state c.advance-ticks.new.self).held in
    let old : Run = run_seen had.places c.args.self.now in
    let users : List User = c.args.self.now.sessions.items in
    let u : ℕ = c.args.v.user in
    let n : ℕ = c.advance-ticks.result in
    let p : User = c.advance-ticks.new.session in
    let place : c.index.result ≡ u - 1 = c.index.ensures.value in
    let is : run_seen has.places c.count_ticks.new.self ≡ passed n c.args.v p old =
    ap (λ (q : Places). run_seen q c.count_ticks.new.self) c.advance-ticks.ensures.advanced.worked.places ∙ c.count_ticks.ensures had.places
    ∙ (λ j. elapsed n c.args.v (with_users old (set users (place j) p) old.system.entries)) ∙ elapsed_is n c.args.v p old in
    served_next c.args.stretch.limit c.args.stretch.most n c.args.next.level (record { user = c.args.next.user; left = c.args.next.left; since = since_in (chosen old.system.plan.levels) }) c.args.v p c.args.stretch.still old (run_seen has.places c.count_ticks.new.self) has
    is (grind (arith, nat_tests, fewer)) c.requires.first.first c.requires.first.mine c.requires.spare.quiet c.requires.spare.low c.requires.spare.still
    ((λ j. is_loaded (c.advance-ticks.ensures.advanced.worked.places j) u (size_of (c.advance-ticks.ensures.advanced.worked.sizes j) u)) ∙ c.requires.loaded)
