-- Steps of a user whose words and files lie apart.
use Rattle.std.proofs.Common.{◌≡◌, ℕ, zero, suc, ◌+◌, ◌-◌, ◌*◌, Bool, true, false, not, cond, List, [], ◌∷◌, ◌++◌, length, take, replicate, Option, None, refl, sym, ap, ◌∙◌, arith, zero-add}
use Rattle.std.specs.Prelude.{if◌then◌else◌}
use Rattle.time_sharing.specs.Machine.{Line, Item, Ending, Went, Done}
use Rattle.time_sharing.specs.Rows.{Outcome, is_logout, out_all, in_line, behind, one_less, first_line}
use Rattle.cpu_regs.specs.declared.regs.Regs.{Regs}
use Rattle.machine_model.specs.Step.{Step, went}
use Rattle.machine_model.specs.Machine.{step_of}
use Rattle.user_model.specs.Inner.{Inner, Stored, recut}
use Rattle.program_model.specs.Stops.{Stops}
use Rattle.user_model.specs.Programs.{step_row, step_asks, reads_line, at_break_in, stepped_in, with_step}
use Rattle.user_model.specs.Session.{works_in}
use Rattle.user_model.specs.User.{User, step, in_store}
use Rattle.user_model.specs.Steps.{left}
use Rattle.user_model.proofs.StepLaws.{run_left}

-- lists

pub take-all : (n : ℕ) (xs : List ℕ) → length xs ≡ n → take n xs ≡ xs
take-all n [] h = by_number n
  where
    by_number : (n : ℕ) → take {A = ℕ} n [] ≡ []
    by_number zero = refl
    by_number (suc n) = refl
take-all zero (x ∷ xs) h = absurd (omega (arith, h))
take-all (suc n) (x ∷ xs) h = ap (λ (ys : List ℕ). x ∷ ys) (take-all n xs (omega (arith, h)))

nil : {X : Type 0} (xs : List X) → xs ++ [] ≡ xs
nil [] = refl
nil (x ∷ xs) = ap (λ (ys : List _). x ∷ ys) (nil xs)

none_more : (n : ℕ) → n ≡ 0 → replicate {A = ℕ} n 0 ≡ []
none_more n e = ap (λ (k : ℕ). replicate {A = ℕ} k 0) e

-- a core of that size already
pub recut_same : (blocks : ℕ) (c : List ℕ) → length c ≡ 256 * blocks → recut blocks c ≡ c
recut_same blocks c h =
    let e : 256 * blocks - length c ≡ 0 = omega (arith, h) in
    ap (λ (zs : List ℕ). take (256 * blocks) c ++ zs) (none_more (256 * blocks - length c) e) ∙ nil (take (256 * blocks) c) ∙ take-all (256 * blocks) c h

pub recut_none : (c : List ℕ) → recut 0 c ≡ []
recut_none c = let e : 256 * 0 - length c ≡ 0 = omega arith in none_more (256 * 0 - length c) e

-- what a step leaves that doesn't log out and puts no lines in front
stays : (b : Bool) (line : Option Line) (o : Outcome Inner) (q : User) → is_logout o.ending ≡ false → q.on ≡ true → o.front ≡ [] →
    left b line o q ≡ record q { inner = o.inner; unread = behind line q.unread; fed = one_less line q.fed; transcript = q.transcript ++ (in_line line ++ out_all o.written); own = suc q.own; own_at_command = if b then q.own else q.own_at_command }
unfolding left
stays b line o q inside on none = λ j. record q {
  inner = o.inner;
  on = ((ap not inside) ∙ sym on) j;
  unread = cond (inside j) [] (none j ++ behind line q.unread);
  fed = cond (inside j) 0 ((ap (λ (ls : List Line). length ls + one_less line q.fed) none ∙ zero-add (one_less line q.fed)) j);
  transcript = q.transcript ++ (in_line line ++ out_all o.written);
  own = suc q.own;
  own_at_command = if b then q.own else q.own_at_command;
}

-- a step of a program, from the row of what the machine gives
by_row : (t : ℕ) (p : User) (c : Stored) (words : List ℕ) (s : Step) (line : Option Line) (i : Inner) (written : List Line) (e : Ending) → works_in p.inner.state ≡ true → p.inner.fill ≡ None → p.inner.debugger ≡ None → step_of p.inner.regs c.core ≡ s → p.on ≡ true →
    first_line (reads_line s (in_store c p).inner) p.unread ≡ line → step_asks s (in_store c p).inner ≡ None →
    with_step (step_row s (in_store c p).inner line (suc p.own - p.own_at_command) t) ≡ record { inner = record i { core = words; files = c.files }; written = written; front = []; ending = e } → is_logout e ≡ false →
    in_store (record c { core = words }) (record p { inner = i; unread = behind line p.unread; fed = one_less line p.fed; transcript = p.transcript ++ (in_line line ++ out_all written); own = suc p.own }) ≡ step t Done (in_store c p)
by_row t p c words s line i written e h none shut is on first alone row inside = sym (
    run_left t (in_store c p) s h none (ap (λ (o : Option Stops). at_break_in o p.inner.regs.ic) shut) is alone
    ∙ ap (λ (l : Option Line). left false l (with_step (step_row s (in_store c p).inner l (suc p.own - p.own_at_command) t)) (in_store c p)) first
    ∙ ap (λ (o : Outcome Inner). left false line o (in_store c p)) row
    ∙ stays false line (record { inner = record i { core = words; files = c.files }; written = written; front = []; ending = e }) (in_store c p) inside on refl
    )

-- other registers, and any words
pub plain_step : (t : ℕ) (p : User) (c : Stored) (words : List ℕ) (r : Regs) → works_in p.inner.state ≡ true → p.inner.fill ≡ None → p.inner.debugger ≡ None → step_of p.inner.regs c.core ≡ went r words → p.on ≡ true →
    in_store (record c { core = words }) (record p { inner = record p.inner { regs = r }; own = suc p.own }) ≡ step t Done (in_store c p)
plain_step t p c words r h none shut is on =
    ap (λ (ts : List Item). in_store (record c { core = words }) (record p { inner = record p.inner { regs = r }; transcript = ts; own = suc p.own })) (sym (nil p.transcript))
    ∙ by_row t p c words (went r words) None (record p.inner { regs = r }) [] Went h none shut is on refl refl
    (λ j. record { inner = record p.inner { regs = r; core = words; files = c.files; debugger = (ap stepped_in shut ∙ sym shut) j }; written = []; front = []; ending = Went }) refl
