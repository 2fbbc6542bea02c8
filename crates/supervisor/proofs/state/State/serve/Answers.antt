use Rattle.std.proofs.Common.{◌≡◌, ◌≢◌, ◌<◌, ◌≤◌, ◌-◌, ◌*◌, ℕ, Bool, true, not, List, [], None, length, get_or, set, refl, sym, ap, subst, ◌∙◌, arith, inl}
use Rattle.std.proofs.lemmas.List.{get_or_default, set-get_or}
use Rattle.user_model.specs.Session.{nobody}
use Rattle.user_model.specs.Inner.{Stored, blocks_of}
use Rattle.user_model.specs.User.{User, can_step, in_store, store_after, IsStep}
use Rattle.time_sharing.specs.Machine.{Ending, Went, Done}
use Rattle.user_session.specs.Stores.{stored, Over, IsToMake}
use Rattle.user_session.specs.Turns.{IsTurn}
use Rattle.plan_model.specs.Loads.{Places, is_loaded}
use Rattle.plan_model.specs.Plan.{places_after}
use Rattle.image_map.specs.Images.{size_of}
use Rattle.system_model.specs.Run.{Run, attended}
use Rattle.system_model.specs.Cases.{user_at, with_user, waited}
use Rattle.system_model.specs.Joined.{counted, at_places, stepped_to}
use Rattle.system_model.proofs.JoinedLaws.{stepped_is}
use Rattle.system_model.proofs.SwapLaws.{waited_moves, counted_moves}
use Rattle.user_cores.specs.Backing.{BackState, Held}
use Rattle.supervisor.specs.Seen.{run_seen}
use Rattle.supervisor.specs.Steps.{IsTied}
use Rattle.user_cores.specs.Settles.{IsResized, settled}
use Rattle.supervisor.proofs.Counting.{counted_none}
use Rattle.supervisor.proofs.Going.{counted_from}
use Rattle.supervisor.proofs.Doing.{does_from, does_waited, does_stepped}
use Rattle.supervisor.proofs.Sharing.{stays_from, words_stay, same_store}
use Rattle.supervisor.proofs.Tied.{tied_same, tied_with}
use Rattle.supervisor.proofs.Serving.{went_size, settled_is, resized_from, resized_none, waited_users, counted_users, with_users, told_store, ends_map}
use Rattle.faults.proofs.Rises.{rose_later}
use Rattle.supervisor.proofs.state.State.serve.Goals as goal

pub settle-requires-clause-same : goal.settle-requires-clause-same
settle-requires-clause-same g c = λ went.
    let had : Held = (g.C.Backing.state c.args.cores.now).held in
    let users : List User = c.args.self.now.sessions.items in
    let u : ℕ = c.args.v.user in
    let within : u - 1 < length users = omega (arith, c.requires.serves.user.some, c.requires.serves.user.within) in
    let place : c.index.result ≡ u - 1 = c.index.ensures.value in
    let same : user_at u users ≡ c.index_mut-session.result.now = get_or_default users (u - 1) nobody c.index_mut-session.result.now within ∙ ap (λ (k : ℕ). get_or users k c.index_mut-session.result.now) (sym place) ∙ sym c.index_mut-session.ensures.value in
    let tells : Bool = (g.C.Backing.state c.args.cores.now).disk_tells in
    let window : Stored = (g.C.Backing.state c.args.cores.now).window u in
    let after : Stored = (g.C.Backing.state c.turn.new.self).window u in
    let worked = c.in-Ok-Done.ensures.turned.worked (λ e. cc) in
    let over = subst (λ t. Over tells window after (IsTurn t c.args.self.now.clock c.index_mut-session.result.now c.turn.new.session)) c.in-Ok-Done.field-0-is c.in-Ok-Done.ensures.turn in
    ap (λ (s : List ℕ). size_of s u) worked.sizes
    ∙ c.requires.going.held.tied.has u c.requires.serves.user.some c.requires.serves.user.within
    ∙ ap (λ (p : User). blocks_of p.inner) same
    ∙ sym (went_size _ _ _ _ _ _ _ _ _ over.does went)
    ∙ sym c.blocks-blocks.ensures.value

pub share-requires-clause-makes : goal.share-requires-clause-makes
share-requires-clause-makes g c =
    let w : ℕ → Stored = (g.C.Backing.state c.turn.new.self).window in
    let op = c.in-Ok-Asks.op in
    let users : List User = c.args.self.now.sessions.items in
    let u : ℕ = c.args.v.user in
    let within : u - 1 < length users = omega (arith, c.requires.serves.user.some, c.requires.serves.user.within) in
    let place : c.index.result ≡ u - 1 = c.index.ensures.value in
    let same : user_at u users ≡ c.index_mut-session.result.now = get_or_default users (u - 1) nobody c.index_mut-session.result.now within ∙ ap (λ (k : ℕ). get_or users k c.index_mut-session.result.now) (sym place) ∙ sym c.index_mut-session.ensures.value in
    let tells : Bool = (g.C.Backing.state c.args.cores.now).disk_tells in
    let window : Stored = (g.C.Backing.state c.args.cores.now).window u in
    let after : Stored = (g.C.Backing.state c.turn.new.self).window u in
    let worked = c.in-Ok-Asks.ensures.turned.worked (λ e. cc) in
    let over = subst (λ t. Over tells window after (IsTurn t c.args.self.now.clock c.index_mut-session.result.now c.turn.new.session)) c.in-Ok-Asks.field-0-is c.in-Ok-Asks.ensures.turn in
    let back : set users c.index.result c.turn.new.session ≡ users = ap (λ (k : ℕ). set users k c.turn.new.session) place ∙ ap (set users (u - 1)) (over.does.same ∙ sym same) ∙ set-get_or users (u - 1) nobody in
    let stay : after ≡ window = same_store tells window after over.had over.has over.was over.now over.does.store in
    let asks : IsToMake tells window op c.index_mut-session.result.now = record { had = over.had; was = over.was; can = over.does.can; makes = over.does.makes } in
    subst (λ (b : Bool). IsToMake b (w u) op (user_at u (set users c.index.result c.turn.new.session))) (sym worked.disk_tells)
    (subst (λ (s : Stored). IsToMake tells s op (user_at u (set users c.index.result c.turn.new.session))) (sym stay)
    (subst (λ (p : User). IsToMake tells window op p) (sym same ∙ ap (user_at u) (sym back)) asks))

pub returns-in-Ok-Waits-clause-ended : goal.returns-in-Ok-Waits-clause-ended
returns-in-Ok-Waits-clause-ended g c =
    let had : Held = (g.C.Backing.state c.args.cores.now).held in
    let has : Held = (g.C.Backing.state c.turn.new.self).held in
    let old : Run = run_seen had.places c.args.self.now in
    let users : List User = c.args.self.now.sessions.items in
    let u : ℕ = c.args.v.user in
    let within : u - 1 < length users = omega (arith, c.requires.serves.user.some, c.requires.serves.user.within) in
    let place : c.index.result ≡ u - 1 = c.index.ensures.value in
    let same : user_at u users ≡ c.index_mut-session.result.now = get_or_default users (u - 1) nobody c.index_mut-session.result.now within ∙ ap (λ (k : ℕ). get_or users k c.index_mut-session.result.now) (sym place) ∙ sym c.index_mut-session.ensures.value in
    let tells : Bool = (g.C.Backing.state c.args.cores.now).disk_tells in
    let window : Stored = (g.C.Backing.state c.args.cores.now).window u in
    let after : Stored = (g.C.Backing.state c.turn.new.self).window u in
    let worked = c.in-Ok-Waits.ensures.turned.worked (λ e. cc) in
    let over = subst (λ t. Over tells window after (IsTurn t c.args.self.now.clock c.index_mut-session.result.now c.turn.new.session)) c.in-Ok-Waits.field-0-is c.in-Ok-Waits.ensures.turn in
    let back : set users c.index.result c.turn.new.session ≡ users = ap (λ (k : ℕ). set users k c.turn.new.session) place ∙ ap (set users (u - 1)) (over.does.same ∙ sym same) ∙ set-get_or users (u - 1) nobody in
    let stay : after ≡ window = same_store tells window after over.had over.has over.was over.now over.does.store in
    let first : Stored = stored window.core over.had in
    let is : run_seen has.places c.count_wait.new.self ≡ waited c.args.v old =
    ap (λ (p : Places). run_seen p c.count_wait.new.self) worked.places ∙ c.count_wait.ensures had.places
    ∙ (λ j. waited c.args.v (with_users old (back j) (c.reserve.ensures.items j))) in
    let was : had.tells ≡ true → had.stores u ≡ first = λ told.
    worked.was told ∙ sym (told_store tells over.had window (worked.disk told) over.was) in
    does_waited c.args.v old (run_seen has.places c.count_wait.new.self) had has first c.requires.serves.user
    (ap not (ap (is_loaded had.places u) (sym (c.requires.going.held.tied.has u c.requires.serves.user.some c.requires.serves.user.within)) ∙ c.requires.loaded))
    (ap (λ (p : User). can_step (in_store first p)) same ∙ over.does.cannot)
    is was (words_stay u (g.C.Backing.state c.args.cores.now) (g.C.Backing.state c.turn.new.self) worked stay) worked.rest.tells worked.rest.rules.common

pub returns-in-Ok-Waits-clause-leaves : goal.returns-in-Ok-Waits-clause-leaves
returns-in-Ok-Waits-clause-leaves g c =
    let had : Held = (g.C.Backing.state c.args.cores.now).held in
    let old : Run = run_seen had.places c.args.self.now in
    let users : List User = c.args.self.now.sessions.items in
    let u : ℕ = c.args.v.user in
    let within : u - 1 < length users = omega (arith, c.requires.serves.user.some, c.requires.serves.user.within) in
    let place : c.index.result ≡ u - 1 = c.index.ensures.value in
    let same : user_at u users ≡ c.index_mut-session.result.now = get_or_default users (u - 1) nobody c.index_mut-session.result.now within ∙ ap (λ (k : ℕ). get_or users k c.index_mut-session.result.now) (sym place) ∙ sym c.index_mut-session.ensures.value in
    let set_users : List User = set users c.index.result c.turn.new.session in
    let mid : Run = with_users old set_users old.system.entries in
    let has : Held = (g.C.Backing.state c.turn.new.self).held in
    let tells : Bool = (g.C.Backing.state c.args.cores.now).disk_tells in
    let window : Stored = (g.C.Backing.state c.args.cores.now).window u in
    let after : Stored = (g.C.Backing.state c.turn.new.self).window u in
    let worked = c.in-Ok-Waits.ensures.turned.worked (λ e. cc) in
    let over = subst (λ t. Over tells window after (IsTurn t c.args.self.now.clock c.index_mut-session.result.now c.turn.new.session)) c.in-Ok-Waits.field-0-is c.in-Ok-Waits.ensures.turn in
    let back : set_users ≡ users = ap (λ (k : ℕ). set users k c.turn.new.session) place ∙ ap (set users (u - 1)) (over.does.same ∙ sym same) ∙ set-get_or users (u - 1) nobody in
    let are : c.count_wait.new.self.sessions.items ≡ users = ap (λ (r : Run). r.system.users) (c.count_wait.ensures had.places) ∙ waited_users c.args.v _ ∙ back in
    record {
      counted = counted_none old (waited c.args.v mid) (run_seen had.places c.count_wait.new.self) _ _
          (c.count_wait.ensures had.places ∙ (λ j. waited c.args.v (with_users old set_users (c.reserve.ensures.items j))))
          (waited_moves c.args.v mid) worked.rest.calls;
      tied = subst (λ (us : List User). IsTied us has) (sym are) (tied_same users 0 had has (resized_none 0 had has worked.sizes worked.rest.rules) c.requires.going.held.tied);
      usable = c.in-Ok-Waits.ensures.usable (λ e. cc);
      keeps = c.turn.ensures.keeps;
      faults_grow = (let e = worked.rest.faults in omega (arith, e));
      disk = c.turn.ensures.turned.disk;
    }

pub returns-in-Ok-Done-clause-ended : goal.returns-in-Ok-Done-clause-ended
returns-in-Ok-Done-clause-ended g c =
    let had : Held = (g.C.Backing.state c.args.cores.now).held in
    let has : Held = (g.C.Backing.state c.settle.new.cores).held in
    let old : Run = run_seen had.places c.args.self.now in
    let p : User = c.turn.new.session in
    let t : Ending = c.in-Ok-Done.step.ending in
    let asked : Bool = c.in-Ok-Done.step.clock in
    let users : List User = c.args.self.now.sessions.items in
    let u : ℕ = c.args.v.user in
    let within : u - 1 < length users = omega (arith, c.requires.serves.user.some, c.requires.serves.user.within) in
    let place : c.index.result ≡ u - 1 = c.index.ensures.value in
    let same : user_at u users ≡ c.index_mut-session.result.now = get_or_default users (u - 1) nobody c.index_mut-session.result.now within ∙ ap (λ (k : ℕ). get_or users k c.index_mut-session.result.now) (sym place) ∙ sym c.index_mut-session.ensures.value in
    let tells : Bool = (g.C.Backing.state c.args.cores.now).disk_tells in
    let window : Stored = (g.C.Backing.state c.args.cores.now).window u in
    let after : Stored = (g.C.Backing.state c.turn.new.self).window u in
    let worked = c.in-Ok-Done.ensures.turned.worked (λ e. cc) in
    let over = subst (λ t. Over tells window after (IsTurn t c.args.self.now.clock c.index_mut-session.result.now c.turn.new.session)) c.in-Ok-Done.field-0-is c.in-Ok-Done.ensures.turn in
    let first : Stored = stored window.core over.had in
    let last : Stored = stored after.core over.has in
    let says : IsStep t asked None c.args.self.now.clock Done (user_at u users) p first last =
    subst (λ (q : User). IsStep t asked None c.args.self.now.clock Done q p first last) (sym same) over.does in
    let blocks : c.blocks-blocks.result ≡ blocks_of p.inner = c.blocks-blocks.ensures.value in
    let places : has.places ≡ places_after t u (blocks_of p.inner) had.places =
    c.settle.ensures.settled.places ∙ (λ j. places_after t u (blocks j) (worked.places j)) in
    let is : run_seen has.places c.count_step.new.self ≡ stepped_to c.args.v p t asked [] old =
    ap (at_places has.places) (c.count_step.ensures had.places)
    ∙ (λ j. at_places (places j) (counted c.args.v t asked [] (with_users old (set users (place j) p) (c.reserve.ensures.items j))))
    ∙ stepped_is c.args.v p t asked [] old c.requires.serves.user in
    let size : t ≡ Went → length after.core ≡ 256 * blocks_of p.inner = λ went.
    worked.len
    ∙ ap (λ (n : ℕ). 256 * n) (c.requires.going.held.tied.has u c.requires.serves.user.some c.requires.serves.user.within ∙ sym (went_size _ _ _ _ _ _ _ _ _ says went)) in
    let was : had.tells ≡ true → had.stores u ≡ first = λ told.
    worked.was told ∙ sym (told_store tells over.had window (worked.disk told) over.was) in
    let mine : had.tells ≡ true → has.stores u ≡ store_after t (blocks_of p.inner) last = λ told.
    c.settle.ensures.settled.mine (worked.rest.tells ∙ told)
    ∙ (λ j. record { core = settled t (blocks j) (worked.mine told j).core; files = (worked.mine told j).files })
    ∙ (λ j. record { core = settled_is t (blocks_of p.inner) after.core size j; files = after.files })
    ∙ ap (store_after t (blocks_of p.inner)) (sym (told_store tells over.has after (worked.disk told) over.now)) in
    let others : (x : ℕ) → x ≢ u → has.stores x ≡ had.stores x = λ x n.
    c.settle.ensures.settled.others x n ∙ worked.rest.others x (omega arith) n in
    does_stepped c.args.v p t asked None Done old (run_seen has.places c.count_step.new.self) had has first last (had.stores 0) (had.stores 0) c.requires.serves.user
    (ap not (ap (is_loaded had.places u) (sym (c.requires.going.held.tied.has u c.requires.serves.user.some c.requires.serves.user.within)) ∙ c.requires.loaded))
    says refl refl is was (λ told. refl) mine (λ told. others 0 (λ e. (let k = c.requires.serves.user.some in omega (arith, e, k)))) (λ x pos n. others x n)
    (c.settle.ensures.settled.tells ∙ worked.rest.tells) (c.settle.ensures.settled.sizes.rules.common ∙ worked.rest.rules.common)

pub returns-in-Ok-Done-clause-leaves : goal.returns-in-Ok-Done-clause-leaves
returns-in-Ok-Done-clause-leaves g c =
    let had : Held = (g.C.Backing.state c.args.cores.now).held in
    let old : Run = run_seen had.places c.args.self.now in
    let users : List User = c.args.self.now.sessions.items in
    let u : ℕ = c.args.v.user in
    let within : u - 1 < length users = omega (arith, c.requires.serves.user.some, c.requires.serves.user.within) in
    let place : c.index.result ≡ u - 1 = c.index.ensures.value in
    let same : user_at u users ≡ c.index_mut-session.result.now = get_or_default users (u - 1) nobody c.index_mut-session.result.now within ∙ ap (λ (k : ℕ). get_or users k c.index_mut-session.result.now) (sym place) ∙ sym c.index_mut-session.ensures.value in
    let set_users : List User = set users c.index.result c.turn.new.session in
    let mid : Run = with_users old set_users old.system.entries in
    let at : Held = (g.C.Backing.state c.turn.new.self).held in
    let has : Held = (g.C.Backing.state c.settle.new.cores).held in
    let p : User = c.turn.new.session in
    let t : Ending = c.in-Ok-Done.step.ending in
    let asked : Bool = c.in-Ok-Done.step.clock in
    let worked = c.in-Ok-Done.ensures.turned.worked (λ e. cc) in
    let more = c.turn.ensures.turned.disk in
    let settles = c.settle.ensures in
    let resized : IsResized u (blocks_of p.inner) had has =
    resized_from u u c.blocks-blocks.result (blocks_of p.inner) had at has settles.settled.sizes worked.sizes worked.rest.rules refl c.blocks-blocks.ensures.value in
    let are : c.count_step.new.self.sessions.items ≡ with_user u p users = ap (λ (r : Run). r.system.users) (c.count_step.ensures had.places) ∙ counted_users c.args.v t asked [] _ ∙ ap (λ (k : ℕ). set users k p) place in
    record {
      counted = counted_none old (counted c.args.v t asked [] mid) (run_seen had.places c.count_step.new.self) _ _
          (c.count_step.ensures had.places ∙ (λ j. counted c.args.v t asked [] (with_users old set_users (c.reserve.ensures.items j))))
          (counted_moves c.args.v t asked None Done mid) (settles.none.calls ∙ worked.rest.calls);
      tied =
          subst (λ (us : List User). IsTied us has) (sym are)
          (tied_with users u u p had has c.requires.serves.user.some c.requires.serves.user.within resized (inl refl)
          (c.in-Ok-Done.ensures.user.account ∙ ap (λ (q : User). q.inner.account) (sym same)) c.requires.going.held.tied);
      usable = settles.usable;
      keeps = g.met.C.Backing.goes_on _ _ _ c.turn.ensures.keeps settles.keeps;
      faults_grow = (let a = worked.rest.faults in let b = settles.none.faults in omega (arith, a, b));
      disk = (let b = settles.none.disk in omega (arith, more, b));
    }

pub returns-in-Ok-Asks-clause-ended : goal.returns-in-Ok-Asks-clause-ended
returns-in-Ok-Asks-clause-ended g c =
    let was : BackState = g.C.Backing.state c.args.cores.now in
    let now : BackState = g.C.Backing.state c.turn.new.self in
    let end : BackState = g.C.Backing.state c.share.new.cores in
    let old : Run = run_seen was.held.places c.args.self.now in
    let users : List User = c.args.self.now.sessions.items in
    let u : ℕ = c.args.v.user in
    let within : u - 1 < length users = omega (arith, c.requires.serves.user.some, c.requires.serves.user.within) in
    let place : c.index.result ≡ u - 1 = c.index.ensures.value in
    let same : user_at u users ≡ c.index_mut-session.result.now = get_or_default users (u - 1) nobody c.index_mut-session.result.now within ∙ ap (λ (k : ℕ). get_or users k c.index_mut-session.result.now) (sym place) ∙ sym c.index_mut-session.ensures.value in
    let tells : Bool = (g.C.Backing.state c.args.cores.now).disk_tells in
    let window : Stored = (g.C.Backing.state c.args.cores.now).window u in
    let after : Stored = (g.C.Backing.state c.turn.new.self).window u in
    let worked = c.in-Ok-Asks.ensures.turned.worked (λ e. cc) in
    let over = subst (λ t. Over tells window after (IsTurn t c.args.self.now.clock c.index_mut-session.result.now c.turn.new.session)) c.in-Ok-Asks.field-0-is c.in-Ok-Asks.ensures.turn in
    let back : set users c.index.result c.turn.new.session ≡ users = ap (λ (k : ℕ). set users k c.turn.new.session) place ∙ ap (set users (u - 1)) (over.does.same ∙ sym same) ∙ set-get_or users (u - 1) nobody in
    let stay : after ≡ window = same_store tells window after over.had over.has over.was over.now over.does.store in
    let mid : Run = at_places now.held.places (with_users old (set users c.index.result c.turn.new.session) c.reserve.new.self.items) in
    let is : mid ≡ old = λ j. at_places (worked.places j) (with_users old (back j) (c.reserve.ensures.items j)) in
    let new : Run = run_seen end.held.places c.share.new.self in
    let words = words_stay u was now worked stay in
    let kept : was.disk_faults ≤ now.disk_faults = c.in-Ok-Asks.ensures.turned.disk in
    ends_map c.share.result _ _ _ _ _ _ _ _
    (does_from (attended c.args.v) old mid new was.held end.held now.held is words worked.rest.tells worked.rest.rules.common)
    (stays_from old mid new was.held now.held end.held is words worked.rest.tells worked.rest.rules.common)
    (λ h. absurd h.2)
    (λ h. (h.0 ∙ is, rose_later was.disk_faults now.disk_faults end.disk_faults kept h.1))
    c.share.ensures.ended

pub returns-in-Ok-Asks-clause-leaves : goal.returns-in-Ok-Asks-clause-leaves
returns-in-Ok-Asks-clause-leaves g c =
    let worked = c.in-Ok-Asks.ensures.turned.worked (λ e. cc) in
    let more = c.turn.ensures.turned.disk in
    let shared = c.share.ensures.leaves in
    record {
      counted = counted_from c.share.result _ _ _ _ _ _ c.reserve.ensures.items worked.rest.calls shared.counted;
      tied = shared.tied;
      usable = shared.usable;
      keeps = g.met.C.Backing.goes_on _ _ _ c.turn.ensures.keeps shared.keeps;
      faults_grow = (let a = worked.rest.faults in let b = shared.faults_grow in omega (arith, a, b));
      disk = (let b = shared.disk in omega (arith, more, b));
    }
