use Rattle.std.proofs.Common.{◌≡◌, ◌+◌, ℕ, rules, not, List, sym, ap, subst, ◌∙◌, arith}
use Rattle.user_model.specs.Inner.{blocks_of}
use Rattle.user_model.specs.User.{User}
use Rattle.plan_model.specs.Loads.{is_loaded, loaded, dumps, reads, clears}
use Rattle.image_map.specs.Images.{size_of}
use Rattle.system_model.specs.Run.{Run}
use Rattle.system_model.specs.Cases.{user_at, brought}
use Rattle.system_model.specs.Joined.{moved, at_places}
use Rattle.system_model.proofs.JoinedLaws.{brought_is}
use Rattle.system_model.proofs.SwapLaws.{moved_moves}
use Rattle.user_cores.specs.Backing.{Held}
use Rattle.user_cores.specs.Swaps.{IsCutOff}
use Rattle.supervisor.specs.Seen.{run_seen}
use Rattle.supervisor.specs.Steps.{IsTied}
use Rattle.supervisor.proofs.Counting.{counted_load}
use Rattle.supervisor.proofs.Doing.{does_brought}
use Rattle.supervisor.proofs.Tied.{tied_same}
use Rattle.supervisor.proofs.Serving.{resized_none, moved_users, with_users}
use Rattle.supervisor.proofs.state.State.swap_in.Goals as goal

pub returns-in-Ok-clause-ended : goal.returns-in-Ok-clause-ended
returns-in-Ok-clause-ended g c =
    let had : Held = (g.C.Backing.state c.args.cores.now).held in
    let has : Held = (g.C.Backing.state c.load.new.self).held in
    let old : Run = run_seen had.places c.args.self.now in
    let users : List User = c.args.self.now.sessions.items in
    let u : ℕ = c.args.v.user in
    let size : size_of had.sizes u ≡ blocks_of (user_at u users).inner = c.requires.going.held.tied.has u c.requires.user.some c.requires.user.within in
    let dumped : c.in-Ok.plan.dumped ≡ dumps had.places u (blocks_of (user_at u users).inner) =
    c.in-Ok.ensures.loads.done.dumped ∙ (λ j. dumps had.places u (size j)) in
    let read : c.in-Ok.plan.read ≡ reads had.places u (blocks_of (user_at u users).inner) =
    c.in-Ok.ensures.loads.done.read ∙ (λ j. reads had.places u (size j)) in
    let fresh : c.in-Ok.plan.fresh ≡ clears had.places u (blocks_of (user_at u users).inner) =
    c.in-Ok.ensures.loads.done.fresh ∙ (λ j. clears had.places u (size j)) in
    let places : has.places ≡ loaded had.places u (blocks_of (user_at u users).inner) =
    c.in-Ok.ensures.loads.done.places ∙ (λ j. loaded had.places u (size j)) in
    let is : run_seen has.places c.note_swap.new.self ≡ brought u old =
    ap (at_places has.places) (c.note_swap.ensures had.places)
    ∙ (λ j. at_places (places j) (moved u c.in-Ok.plan.dumped c.in-Ok.plan.read c.in-Ok.plan.fresh (with_users old users (c.reserve.ensures.items j))))
    ∙ brought_is u c.in-Ok.plan.dumped c.in-Ok.plan.read c.in-Ok.plan.fresh old dumped read fresh in
    does_brought c.args.v old (run_seen has.places c.note_swap.new.self) had has c.requires.user
    (ap not (ap (is_loaded had.places u) (sym size) ∙ c.requires.absent))
    is (λ t x. c.in-Ok.ensures.loads.done.stores x) c.in-Ok.ensures.loads.done.tells c.in-Ok.ensures.loads.rules.common

pub returns-in-Err-clause-ended : goal.returns-in-Err-clause-ended
returns-in-Err-clause-ended g c =
    let had : Held = (g.C.Backing.state c.args.cores.now).held in
    let users : List User = c.args.self.now.sessions.items in
    let u : ℕ = c.args.v.user in
    let size : size_of had.sizes u ≡ blocks_of (user_at u users).inner =
    c.requires.going.held.tied.has u c.requires.user.some c.requires.user.within in (
      search rules,
      search rules,
      subst (λ (most : ℕ). IsCutOff (g.C.Backing.state c.args.cores.now).calls (g.C.Backing.state c.load.new.self).calls most)
          (λ j. dumps had.places u (size j) + reads had.places u (size j))
          c.in-Err.ensures.loads.fails.calls,
    )

pub returns-in-Ok-clause-leaves : goal.returns-in-Ok-clause-leaves
returns-in-Ok-clause-leaves g c =
    let had : Held = (g.C.Backing.state c.args.cores.now).held in
    let has : Held = (g.C.Backing.state c.load.new.self).held in
    let old : Run = run_seen had.places c.args.self.now in
    let users : List User = c.args.self.now.sessions.items in
    let u : ℕ = c.args.v.user in
    let dumped : ℕ = c.in-Ok.plan.dumped in
    let read : ℕ = c.in-Ok.plan.read in
    let fresh : ℕ = c.in-Ok.plan.fresh in
    let loads = c.load.ensures.loads in
    let are : c.note_swap.new.self.sessions.items ≡ users = ap (λ (r : Run). r.system.users) (c.note_swap.ensures had.places) ∙ moved_users u dumped read fresh _ in
    record {
      counted = counted_load old (moved u dumped read fresh old) (run_seen had.places c.note_swap.new.self) _ _ dumped read
          (c.note_swap.ensures had.places ∙ (λ j. moved u dumped read fresh (with_users old users (c.reserve.ensures.items j))))
          (moved_moves u dumped read fresh old) c.in-Ok.ensures.loads.done.calls;
      tied = subst (λ (us : List User). IsTied us has) (sym are) (tied_same users 0 had has (resized_none 0 had has loads.sizes loads.rules) c.requires.going.held.tied);
      usable = c.in-Ok.ensures.usable;
      keeps = c.load.ensures.keeps;
      faults_grow = loads.faults;
      disk = (let e = loads.disk in omega (arith, e));
    }
