use Rattle.std.proofs.Common.{◌≡◌, ◌≢◌, ◌<◌, ◌≤◌, ◌-◌, ◌*◌, ℕ, Bool, true, not, List, Option, Some, length, get_or, set, refl, sym, ap, subst, ◌∙◌, arith, inl}
use Rattle.std.proofs.lemmas.List.{get_or_default}
use Rattle.ctss_types.specs.declared.file.CommonOp.{CommonOp}
use Rattle.ctss_types.specs.declared.file.Reply.{Reply}
use Rattle.user_model.specs.Session.{nobody}
use Rattle.user_model.specs.Inner.{Stored, blocks_of}
use Rattle.user_model.specs.User.{User, store_after, IsStep}
use Rattle.time_sharing.specs.Machine.{Ending, Went}
use Rattle.time_sharing.specs.System.{common_entry}
use Rattle.user_session.specs.Stores.{stored}
use Rattle.file_model.specs.Commons.{reply_to, files_after}
use Rattle.plan_model.specs.Loads.{is_loaded}
use Rattle.plan_model.specs.Plan.{places_after}
use Rattle.image_map.specs.Images.{size_of}
use Rattle.system_model.specs.Run.{Run}
use Rattle.system_model.specs.Cases.{user_at, with_user}
use Rattle.system_model.specs.Joined.{counted, at_places, stepped_to}
use Rattle.system_model.proofs.JoinedLaws.{stepped_is}
use Rattle.system_model.proofs.SwapLaws.{counted_moves}
use Rattle.user_cores.specs.Backing.{Held, Shared}
use Rattle.supervisor.specs.Seen.{run_seen}
use Rattle.supervisor.specs.Steps.{IsTied}
use Rattle.user_cores.specs.Settles.{IsResized, settled}
use Rattle.supervisor.proofs.Counting.{counted_none}
use Rattle.supervisor.proofs.Doing.{does_stepped}
use Rattle.supervisor.proofs.Tied.{tied_with}
use Rattle.supervisor.proofs.Serving.{went_size, settled_is, resized_from, counted_users, with_users, told_store}
use Rattle.supervisor.proofs.state.State.share.Goals as goal

pub settle-requires-clause-same : goal.settle-requires-clause-same
settle-requires-clause-same g c = λ went.
    let had : Held = (g.C.Backing.state c.args.cores.now).held in
    let users : List User = c.args.self.now.sessions.items in
    let u : ℕ = c.args.v.user in
    let within : u - 1 < length users = omega (arith, c.requires.serves.user.some, c.requires.serves.user.within) in
    let place : c.index.result ≡ u - 1 = c.index.ensures.value in
    let same : user_at u users ≡ c.index_mut-session.result.now = get_or_default users (u - 1) nobody c.index_mut-session.result.now within ∙ ap (λ (k : ℕ). get_or users k c.index_mut-session.result.now) (sym place) ∙ sym c.index_mut-session.ensures.value in
    let over = c.in-Ok.ensures.made.step in
    ap (λ (s : List ℕ). size_of s u) c.in-Ok.ensures.shared.worked.sizes
    ∙ c.requires.going.held.tied.has u c.requires.serves.user.some c.requires.serves.user.within
    ∙ ap (λ (p : User). blocks_of p.inner) same
    ∙ sym (went_size _ _ _ _ _ _ _ _ _ over.does went)
    ∙ sym c.blocks-blocks.ensures.value

pub returns-in-Ok-clause-ended : goal.returns-in-Ok-clause-ended
returns-in-Ok-clause-ended g c =
    let had : Held = (g.C.Backing.state c.args.cores.now).held in
    let users : List User = c.args.self.now.sessions.items in
    let u : ℕ = c.args.v.user in
    let within : u - 1 < length users = omega (arith, c.requires.serves.user.some, c.requires.serves.user.within) in
    let place : c.index.result ≡ u - 1 = c.index.ensures.value in
    let same : user_at u users ≡ c.index_mut-session.result.now = get_or_default users (u - 1) nobody c.index_mut-session.result.now within ∙ ap (λ (k : ℕ). get_or users k c.index_mut-session.result.now) (sym place) ∙ sym c.index_mut-session.ensures.value in
    let mid : Held = (g.C.Backing.state c.share.new.self).held in
    let has : Held = (g.C.Backing.state c.settle.new.cores).held in
    let old : Run = run_seen had.places c.args.self.now in
    let p : User = c.share.new.session in
    let t : Ending = c.in-Ok.field-0.step.ending in
    let asked : Bool = c.in-Ok.field-0.step.clock in
    let made : Option CommonOp = Some c.args.op in
    let reply : Reply = c.in-Ok.field-0.reply in
    let tells : Bool = (g.C.Backing.state c.args.cores.now).disk_tells in
    let w : Stored = (g.C.Backing.state c.args.cores.now).window u in
    let after : Stored = (g.C.Backing.state c.share.new.self).window u in
    let shared = subst (λ (o : CommonOp). Shared o c.in-Ok.field-0 u c.args.self.now.clock c.index_mut-session.result.now p (g.C.Backing.state c.args.cores.now) (g.C.Backing.state c.share.new.self)) c.get.ensures c.in-Ok.ensures.made in
    let over = shared.step in
    let applied = shared.common in
    let worked = c.in-Ok.ensures.shared.worked in
    let first : Stored = stored w.core over.had in
    let last : Stored = stored after.core over.has in
    let quota : had.common ≡ old.common = c.requires.going.held.common in
    let common_first : Stored = stored (had.stores 0).core applied.files in
    let common_last : Stored = stored (mid.stores 0).core (files_after had.common applied.files c.args.op) in
    let says : IsStep t asked made c.args.self.now.clock reply (user_at u users) p first last =
    subst (λ (q : User). IsStep t asked made c.args.self.now.clock reply q p first last) (sym same) over.does in
    let blocks : c.blocks-blocks.result ≡ blocks_of p.inner = c.blocks-blocks.ensures.value in
    let places : has.places ≡ places_after t u (blocks_of p.inner) had.places =
    c.settle.ensures.settled.places ∙ (λ j. places_after t u (blocks j) (worked.places j)) in
    let is : run_seen has.places c.count_shared.new.self ≡ stepped_to c.args.v p t asked (common_entry made u reply) old =
    ap (at_places has.places) (c.count_shared.ensures had.places)
    ∙ (λ j. at_places (places j) (counted c.args.v t asked (common_entry made (c.number.ensures.value j) reply) (with_users old (set users (place j) p) old.system.entries)))
    ∙ stepped_is c.args.v p t asked (common_entry made u reply) old c.requires.serves.user in
    let size : t ≡ Went → length after.core ≡ 256 * blocks_of p.inner = λ went.
    worked.len
    ∙ ap (λ (n : ℕ). 256 * n) (c.requires.going.held.tied.has u c.requires.serves.user.some c.requires.serves.user.within ∙ sym (went_size _ _ _ _ _ _ _ _ _ says went)) in
    let was : had.tells ≡ true → had.stores u ≡ first = λ told.
    worked.was told ∙ sym (told_store tells over.had w (worked.disk told) over.was) in
    let mine : had.tells ≡ true → has.stores u ≡ store_after t (blocks_of p.inner) last = λ told.
    c.settle.ensures.settled.mine (worked.rest.tells ∙ told)
    ∙ (λ j. record { core = settled t (blocks j) (worked.mine told j).core; files = (worked.mine told j).files })
    ∙ (λ j. record { core = settled_is t (blocks_of p.inner) after.core size j; files = after.files })
    ∙ ap (store_after t (blocks_of p.inner)) (sym (told_store tells over.has after (worked.disk told) over.now)) in
    let others : (x : ℕ) → 1 ≤ x → x ≢ u → has.stores x ≡ had.stores x = λ x pos n.
    c.settle.ensures.settled.others x n ∙ worked.rest.others x pos n in
    let zero : has.stores 0 ≡ mid.stores 0 =
    c.settle.ensures.settled.others 0 (λ e. (let a = c.requires.serves.user.some in omega (arith, a, e))) in
    does_stepped c.args.v p t asked made reply old (run_seen has.places c.count_shared.new.self) had has first last common_first common_last c.requires.serves.user
    (ap not (ap (is_loaded had.places u) (sym (c.requires.going.held.tied.has u c.requires.serves.user.some c.requires.serves.user.within)) ∙ c.requires.loaded))
    says
    (applied.answer ∙ ap (λ (q : ℕ). reply_to q applied.files c.args.op) quota)
    (ap (λ (q : ℕ). files_after q applied.files c.args.op) quota)
    is was
    (λ told. sym (told_store tells applied.files (had.stores 0) (worked.disk told) applied.was))
    mine
    (λ told. zero ∙ sym (told_store tells (files_after had.common applied.files c.args.op) (mid.stores 0) (worked.disk told) applied.now))
    others (c.settle.ensures.settled.tells ∙ worked.rest.tells) (c.settle.ensures.settled.sizes.rules.common ∙ worked.rest.rules.common)

pub returns-in-Ok-clause-leaves : goal.returns-in-Ok-clause-leaves
returns-in-Ok-clause-leaves g c =
    let had : Held = (g.C.Backing.state c.args.cores.now).held in
    let users : List User = c.args.self.now.sessions.items in
    let u : ℕ = c.args.v.user in
    let within : u - 1 < length users = omega (arith, c.requires.serves.user.some, c.requires.serves.user.within) in
    let place : c.index.result ≡ u - 1 = c.index.ensures.value in
    let same : user_at u users ≡ c.index_mut-session.result.now = get_or_default users (u - 1) nobody c.index_mut-session.result.now within ∙ ap (λ (k : ℕ). get_or users k c.index_mut-session.result.now) (sym place) ∙ sym c.index_mut-session.ensures.value in
    let old : Run = run_seen had.places c.args.self.now in
    let mid : Held = (g.C.Backing.state c.share.new.self).held in
    let has : Held = (g.C.Backing.state c.settle.new.cores).held in
    let p : User = c.share.new.session in
    let step = c.in-Ok.field-0.step in
    let worked = c.in-Ok.ensures.shared.worked in
    let more = c.share.ensures.shared.disk in
    let settles = c.settle.ensures in
    let resized : IsResized u (blocks_of p.inner) had has =
    resized_from u u c.blocks-blocks.result (blocks_of p.inner) had mid has settles.settled.sizes worked.sizes worked.rest.rules refl c.blocks-blocks.ensures.value in
    let are : c.count_shared.new.self.sessions.items ≡ with_user u p users = ap (λ (r : Run). r.system.users) (c.count_shared.ensures had.places) ∙ counted_users c.args.v step.ending step.clock _ _ ∙ ap (λ (k : ℕ). set users k p) place in
    let at : Run = with_users old (set users c.index.result p) old.system.entries in
    record {
      counted = counted_none old (counted c.args.v step.ending step.clock (common_entry (Some c.args.op) u c.in-Ok.field-0.reply) at) (run_seen had.places c.count_shared.new.self) _ _
          (c.count_shared.ensures had.places ∙ (λ j. counted c.args.v step.ending step.clock (common_entry (Some c.args.op) (c.number.ensures.value j) c.in-Ok.field-0.reply) at))
          (counted_moves c.args.v step.ending step.clock (Some c.args.op) c.in-Ok.field-0.reply at) (settles.none.calls ∙ worked.rest.calls);
      tied =
          subst (λ (us : List User). IsTied us has) (sym are)
          (tied_with users u u p had has c.requires.serves.user.some c.requires.serves.user.within resized (inl refl)
          (c.in-Ok.ensures.user.account ∙ ap (λ (q : User). q.inner.account) (sym same)) c.requires.going.held.tied);
      usable = settles.usable;
      keeps = g.met.C.Backing.goes_on _ _ _ c.share.ensures.keeps settles.keeps;
      faults_grow = (let a = worked.rest.faults in let b = settles.none.faults in omega (arith, a, b));
      disk = (let b = settles.none.disk in omega (arith, more, b));
    }
