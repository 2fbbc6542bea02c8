-- Users and what lies behind them agree in sizes and quotas, whatever happens.
use Rattle.std.proofs.Common.{◌≡◌, ◌≢◌, ℕ, suc, ◌-◌, ◌<◌, ◌≤◌, List, length, get_or, refl, sym, ◌∙◌, ap, arith, ◌⊎◌, inl, inr}
use Rattle.std.proofs.lemmas.List.{length-set, get_or-set_same, get_or-set_other}
use Rattle.ctss_types.specs.declared.script.Account.{Account}
use Rattle.time_sharing.specs.System.{Timed, Off}
use Rattle.time_sharing.specs.Machine.{Quit, Hang, Spent}
use Rattle.drum_slots.specs.Keys.{quota_of}
use Rattle.image_map.specs.Images.{size_of}
use Rattle.user_model.specs.Inner.{blocks_of}
use Rattle.user_model.specs.User.{User, typed, opened, cut}
use Rattle.system_model.specs.Run.{Run, taken}
use Rattle.system_model.specs.Cases.{user_at, with_user, heard, line_taken, quit_taken, hang_taken, spent_taken, login_taken, dial_taken}
use Rattle.system_model.specs.Joined.{cut_user}
use Rattle.system_model.specs.Sound.{Sound, IsUser, HasSeat}
use Rattle.system_model.proofs.EventLaws.{EachCase, by_event}
use Rattle.user_cores.specs.Backing.{Held}
use Rattle.supervisor.specs.Steps.{IsTied}
use Rattle.user_cores.specs.Settles.{IsResized}
use Rattle.supervisor.proofs.Doing.{either}

-- no user has changed
pub tied_same : (users : List User) (n : ℕ) (had has : Held) → IsResized 0 n had has → IsTied users had → IsTied users has
tied_same users n had has same tied =
    record {
      many = same.len ∙ tied.many;
      has = λ u pos within. same.others u pos (λ e. omega (arith, e, pos)) ∙ tied.has u pos within;
      may = λ u pos within. ap (λ (q : List ℕ). quota_of q u) same.rules.quotas ∙ tied.may u pos within;
      tracks = λ u pos within. same.rules.tracks u ∙ tied.tracks u pos within;
      directories = same.rules.users ∙ tied.directories;
    }

-- one user has changed
pub tied_with : (users : List User) (k u : ℕ) (p : User) (had has : Held) → 0 < u → u ≤ length users → IsResized k (blocks_of p.inner) had has → (k ≡ u) ⊎ ((k ≡ 0) × (blocks_of p.inner ≡ blocks_of (user_at u users).inner))
    → p.inner.account ≡ (user_at u users).inner.account → IsTied users had → IsTied (with_user u p users) has
tied_with users k u p had has pos within same which account tied =
    record {
      many = same.len ∙ tied.many ∙ ap suc (sym (length-set users (u - 1) p));
      has = λ w some below. by_size w some (let e = length-set users (u - 1) p in omega (arith, e, below)) (either u w);
      may = λ w some below. by_quota w some (let e = length-set users (u - 1) p in omega (arith, e, below)) (either u w);
      tracks = λ w some below. by_tracks w some (let e = length-set users (u - 1) p in omega (arith, e, below)) (either u w);
      directories = same.rules.users ∙ tied.directories ∙ sym (length-set users (u - 1) p);
    }
  where
    here : user_at u (with_user u p users) ≡ p
    here = get_or-set_same users (u - 1) p _ (omega (arith, pos, within))

    there : (w : ℕ) → 1 ≤ w → w ≢ u → user_at w (with_user u p users) ≡ user_at w users
    there w some n = get_or-set_other users (u - 1) (w - 1) p _ (λ e. n (omega (arith, e, some, pos)))

    size_here : (k ≡ u) ⊎ ((k ≡ 0) × (blocks_of p.inner ≡ blocks_of (user_at u users).inner)) → size_of has.sizes u ≡ blocks_of p.inner
    size_here (inl e) = ap (size_of has.sizes) (sym e) ∙ same.mine (omega (arith, e, pos)) (let m = tied.many in omega (arith, e, m, within))
    size_here (inr h) = let z = h.0 in same.others u pos (λ e. omega (arith, e, z, pos)) ∙ tied.has u pos within ∙ sym h.1

    size_there : (w : ℕ) → 1 ≤ w → w ≢ u → (k ≡ u) ⊎ ((k ≡ 0) × (blocks_of p.inner ≡ blocks_of (user_at u users).inner)) → size_of has.sizes w ≡ size_of had.sizes w
    size_there w some n (inl e) = same.others w some (λ x. n (x ∙ e))
    size_there w some n (inr h) = let z = h.0 in same.others w some (λ x. omega (arith, x, z, some))

    by_size : (w : ℕ) → 1 ≤ w → w ≤ length users → (w ≡ u) ⊎ (w ≢ u) → size_of has.sizes w ≡ blocks_of (user_at w (with_user u p users)).inner
    by_size w some below (inl e) = ap (size_of has.sizes) e ∙ size_here which ∙ ap (λ (q : User). blocks_of q.inner) (sym here) ∙ ap (λ (v : ℕ). blocks_of (user_at v (with_user u p users)).inner) (sym e)
    by_size w some below (inr n) = size_there w some n which ∙ tied.has w some below ∙ ap (λ (q : User). blocks_of q.inner) (sym (there w some n))

    by_quota : (w : ℕ) → 1 ≤ w → w ≤ length users → (w ≡ u) ⊎ (w ≢ u) → quota_of has.quotas w ≡ (user_at w (with_user u p users)).inner.account.blocks
    by_quota w some below (inl e) =
        ap (λ (q : List ℕ). quota_of q w) same.rules.quotas ∙ ap (quota_of had.quotas) e ∙ tied.may u pos within ∙ ap (λ (a : Account). a.blocks) (sym account)
        ∙ ap (λ (q : User). q.inner.account.blocks) (sym here) ∙ ap (λ (v : ℕ). (user_at v (with_user u p users)).inner.account.blocks) (sym e)
    by_quota w some below (inr n) = ap (λ (q : List ℕ). quota_of q w) same.rules.quotas ∙ tied.may w some below ∙ ap (λ (q : User). q.inner.account.blocks) (sym (there w some n))

    by_tracks : (w : ℕ) → 1 ≤ w → w ≤ length users → (w ≡ u) ⊎ (w ≢ u) → has.tracks w ≡ (user_at w (with_user u p users)).inner.account.tracks
    by_tracks w some below (inl e) =
        same.rules.tracks w ∙ ap had.tracks e ∙ tied.tracks u pos within ∙ ap (λ (a : Account). a.tracks) (sym account)
        ∙ ap (λ (q : User). q.inner.account.tracks) (sym here) ∙ ap (λ (v : ℕ). (user_at v (with_user u p users)).inner.account.tracks) (sym e)
    by_tracks w some below (inr n) = same.rules.tracks w ∙ tied.tracks w some below ∙ ap (λ (q : User). q.inner.account.tracks) (sym (there w some n))

-- what an event leaves of users' blocks

cases : (c : ℕ) (r : Run) (had : Held) → IsTied r.system.users had → EachCase (λ k s. (has : Held) → IsResized k 0 had has → IsTied s.system.users has) c r
unfolding heard line_taken quit_taken hang_taken spent_taken login_taken dial_taken typed opened cut
cases c r had tied =
    record {
      hears = λ kind now has same. tied_same r.system.users 0 had has same tied;
      refuses = λ cause has same. tied_same r.system.users 0 had has same tied;
      types = λ u l who has same. keeps u (typed l (user_at u r.system.users)) who has same refl refl;
      quits = λ u who has same. keeps u (cut Quit (user_at u r.system.users)) who has same refl refl;
      dials = λ u who has same. tied_same r.system.users 0 had has same tied;
      opens = λ u who has same. keeps u (opened (user_at u r.system.users)) who has same refl refl;
      hangs = λ u who has same. tied_with r.system.users u u (cut Hang (user_at u r.system.users)) had has who.some who.within same (inl refl) refl tied;
      spends = λ u who has same. tied_with r.system.users u u (cut Spent (user_at u r.system.users)) had has who.some who.within same (inl refl) refl tied;
    }
  where
    keeps : (u : ℕ) (p : User) → IsUser u r → (has : Held) → IsResized 0 0 had has → blocks_of p.inner ≡ blocks_of (user_at u r.system.users).inner → p.inner.account ≡ (user_at u r.system.users).inner.account → IsTied (with_user u p r.system.users) has
    keeps u p who has same blocks account =
        tied_with r.system.users 0 u p had has who.some who.within
        (record { len = same.len; mine = λ pos below. absurd (omega (arith, pos)); others = same.others; rules = same.rules })
        (inr (refl, blocks)) account tied

pub tied_taken : (e : Timed) (r : Run) (had has : Held) → HasSeat e r → Sound r → IsTied r.system.users had
    → IsResized (cut_user (get_or r.system.consoles (e.console - 1) Off) e.event r.system.users) 0 had has → IsTied (taken e r).system.users has
tied_taken e r had has seat sound tied same =
    by_event (λ k s. (has : Held) → IsResized k 0 had has → IsTied s.system.users has) e r seat sound (cases e.console r had tied) has same
