-- In the record of every script each user is alone: the isolation of machines made of rows, at this product's rows.
use Rattle.std.proofs.Common.{◌≡◌, ℕ, zero, suc, ◌+◌, ◌-◌, ◌<◌, ◌≤◌, List, [], ◌∷◌, ◌++◌, length, map, get_or, refl, sym, ap, ◌∙◌, arith, subst}
use Rattle.ctss_types.specs.declared.script.Script.{Script}
use Rattle.ctss_types.specs.declared.script.Account.{Account}
use Rattle.ctss_types.specs.declared.file.FileBody.{FileBody}
use Rattle.ctss_types.specs.declared.file.OwnedFile.{OwnedFile}
use Rattle.time_sharing.specs.Machine.{Machine}
use Rattle.time_sharing.specs.Rows.{machine}
use Rattle.time_sharing.specs.Private.{Alone}
use Rattle.time_sharing.specs.Record as whole
use Rattle.time_sharing.specs.System.{at}
use Rattle.time_sharing.specs.Machine.{End}
use Rattle.time_sharing.specs.Private.{Cut, alone}
use Rattle.time_sharing.specs.Reach.{LeadsTo}
use Rattle.time_sharing.specs.Feeds.{feed_of, observed, ran_of}
use Rattle.time_sharing.proofs.ClaimsProved as claims
use Rattle.time_sharing.proofs.Theorem.{isolation}
use Rattle.time_sharing.proofs.RowsLaws.{rows_laws}
use Rattle.user_model.specs.Session.{user_rows, first_state, no_account, nobody}
use Rattle.user_model.specs.User.{User}
use Rattle.plan_model.specs.Plan.{Plan, first_plan}
use Rattle.system_model.specs.Run.{Run, State, AfterSteps, run_to, ended, measure}
use Rattle.file_model.specs.Owned.{files_of}
use Rattle.system_model.specs.Record.{script_world, users_from, start_of, record_of, first_of_user, alone_of, consoles}
use Rattle.system_model.specs.Claims.{UsersAreAlone, CommonsAreOne, EachMomentIsAlone, FeedsDecide}
use Rattle.system_model.proofs.CaseLaws.{at_user}

mapped : {X : Type 0} (f : User → X) (users : List User) (k : ℕ) → get_or (map f users) k (f nobody) ≡ f (get_or users k nobody)
mapped f [] k = refl
mapped f (p ∷ users) zero = refl
mapped f (p ∷ users) (suc k) = mapped f users k

users_length : (u : ℕ) (accounts : List Account) (owned : List OwnedFile) → length (users_from u accounts owned) ≡ length accounts
users_length u [] owned = refl
users_length u (a ∷ accounts) owned = ap suc (users_length (suc u) accounts owned)

user_is : (k u : ℕ) (accounts : List Account) (owned : List OwnedFile) → k < length accounts →
    get_or (users_from u accounts owned) k nobody ≡ first_state (get_or accounts k no_account) (files_of (u + k) owned)
user_is k u [] owned h = absurd (omega arith)
user_is zero u (a ∷ accounts) owned h = let e : u ≡ u + 0 = omega arith in ap (λ (v : ℕ). first_state a (files_of v owned)) e
user_is (suc k) u (a ∷ accounts) owned h =
    let e : suc u + k ≡ u + suc k = omega arith in
    user_is k (suc u) accounts owned (omega arith) ∙ ap (λ (v : ℕ). first_state (get_or accounts k no_account) (files_of v owned)) e

-- the first state of a user of the script
first_is : (script : Script) (u : ℕ) → 0 < u → u ≤ length script.accounts → at nobody (users_from 1 script.accounts script.files) u ≡ first_of_user script u
first_is script u pos within =
    let e : 1 + (u - 1) ≡ u = omega arith in
    at_user nobody (users_from 1 script.accounts script.files) u pos
    ∙ user_is (u - 1) 1 script.accounts script.files (omega arith)
    ∙ ap (λ (v : ℕ). first_state (get_or script.accounts (u - 1) no_account) (files_of v script.files)) e

pub users_are_alone : UsersAreAlone
unfolding record_of run_to ended start_of measure
users_are_alone script u pos within =
    record {
      transcript = observed (λ (p : User). p.transcript) refl ∙ sym (ap (λ (a : Alone User). a.state.transcript) came);
      files = observed (λ (p : User). p.inner.files) refl ∙ sym (ap (λ (a : Alone User). a.state.inner.files) came);
      clocks = ap (λ (a : Alone User). a.clocks) came;
      replies = ap (λ (a : Alone User). a.replies) came;
    }
  where
    M : Machine User
    M = machine user_rows

    firsts : List User
    firsts = users_from 1 script.accounts script.files

    r : Run
    r = ended (run_to script.end (start_of script))

    p : User
    p = at nobody r.system.users u

    inside : u ≤ length firsts
    inside = omega (arith, users_length 1 script.accounts script.files)

    come : whole.IsAlone M (at nobody firsts u) (Rattle.time_sharing.specs.Feeds.feed_of u script.events r.system.entries) p
    come = isolation M (rows_laws user_rows) (script_world script) u pos firsts [] (first_plan script.params) consoles script.end
        (measure script.end (start_of script)) script.events inside (ap (λ (q : User). q.own) (first_is script u pos within))

    came : alone_of script (record_of script) u ≡ record { state = p; clocks = []; replies = [] }
    came = ap (λ (q : User). Rattle.time_sharing.specs.Private.alone M q (Rattle.time_sharing.specs.Feeds.feed_of u script.events r.system.entries)) (sym (first_is script u pos within)) ∙ come

    observed : {X : Type 0} (f : User → List X) → f nobody ≡ [] → get_or (map f r.system.users) (u - 1) [] ≡ f p
    observed {X = X} f none = ap (λ (d : List X). get_or (map f r.system.users) (u - 1) d) (sym none) ∙ mapped f r.system.users (u - 1) ∙ ap f (sym (at_user nobody r.system.users u pos))

pub commons_are_one : CommonsAreOne
unfolding record_of start_of run_to ended measure
commons_are_one script =
    let is = claims.commons_are_one User Plan (List FileBody) (machine user_rows) (script_world script) (users_from 1 script.accounts script.files) [] (first_plan script.params) consoles script.end
    (measure script.end (start_of script)) script.events in
    record { replies = is.0; files = is.1 }

pub feeds_decide : FeedsDecide
feeds_decide script other u v pos within pos' within' first feeds =
    let a = users_are_alone script u pos within in
    let b = users_are_alone other v pos' within' in
    let same : alone_of script (record_of script) u ≡ alone_of other (record_of other) v =
    ap (λ (q : User). alone (machine user_rows) q (feed_of u script.events (record_of script).entries)) first
    ∙ ap (alone (machine user_rows) (first_of_user other v)) feeds in (
      a.transcript ∙ ap (λ (x : Alone User). x.state.transcript) same ∙ sym b.transcript,
      a.files ∙ ap (λ (x : Alone User). x.state.inner.files) same ∙ sym b.files,
    )

pub each_moment : EachMomentIsAlone
unfolding start_of AfterSteps
each_moment script u r pos within after =
    subst (λ (q : User). IsReached q r.system) (first_is script u pos within)
    (subst (IsReached (at nobody firsts u)) (sym (ap (λ (q : Run). q.system) after.1))
    (claims.each_moment User Plan (List FileBody) (machine user_rows) (rows_laws user_rows) (script_world script) u pos firsts [] (first_plan script.params) consoles script.end after.0
    script.events inside (ap (λ (q : User). q.own) (first_is script u pos within))))
  where
    firsts : List User
    firsts = users_from 1 script.accounts script.files

    inside : u ≤ length firsts
    inside = omega (arith, users_length 1 script.accounts script.files)

    IsReached : User → State → Type 0
    IsReached q s =
        let o = observed u script.events s.entries in
        let p = at nobody s.users u in
        LeadsTo (machine user_rows) (o.items ++ Cut p.own End ∷ []) (record { state = q; clocks = o.clocks; replies = o.replies }) (record { state = p; clocks = []; replies = [] })
        × (p.own ≡ o.own + ran_of u s.service)
