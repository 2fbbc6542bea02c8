-- Which lines ask for a login, and what a name and a password come to.
use Rattle.std.proofs.Common.{◌≡◌, ◌≢◌, ℕ, suc, ◌+◌, ◌<◌, ◌≤◌, Bool, true, false, cond, ◌&&◌, nat_eq, List, [], ◌∷◌, Option, Some, None, length, get_or, codes, refl, sym, ◌∙◌, ap, arith}
use Rattle.std.specs.Prelude.{bytes_eq}
use Rattle.time_sharing.specs.Machine.{Line}
use Rattle.time_sharing.specs.System.{at}
use Rattle.ctss_types.specs.declared.script.Account.{Account}
use Rattle.system_model.specs.World.{asked_by, password_by, account_in}
use Rattle.user_model.specs.Requests.{word_name}
use Rattle.accounts.specs.declared.table.Login.TheVariants.{Right, Unknown, Already}
use Rattle.accounts.specs.Logins.{login_by}

pub asked_two : (ws : List Line) → length ws ≡ 2 → asked_by ws ≡ cond (bytes_eq (get_or ws 0 []) (codes "LOGIN")) (word_name (get_or ws 1 [])) None
asked_two [] e = absurd (omega (arith, e))
asked_two (w ∷ []) e = absurd (omega (arith, e))
asked_two (w ∷ name ∷ []) e = refl
asked_two (w ∷ name ∷ x ∷ ws) e = absurd (omega (arith, e))

pub asked_other : (ws : List Line) → length ws ≢ 2 → asked_by ws ≡ None
asked_other [] e = refl
asked_other (w ∷ []) e = refl
asked_other (w ∷ name ∷ []) e = absurd (e refl)
asked_other (w ∷ name ∷ x ∷ ws) e = refl

pub password_one : (ws : List Line) → length ws ≡ 1 → password_by ws ≡ word_name (get_or ws 0 [])
password_one [] e = absurd (omega (arith, e))
password_one (w ∷ []) e = refl
password_one (w ∷ x ∷ ws) e = absurd (omega (arith, e))

pub password_other : (ws : List Line) → length ws ≢ 1 → password_by ws ≡ None
password_other [] e = refl
password_other (w ∷ []) e = absurd (e refl)
password_other (w ∷ x ∷ ws) e = refl

-- answers of the login table

pub login_unknown : (o : Option ℕ) (on : List Bool) → login_by o on ≡ Unknown → o ≡ None
login_unknown None on e = refl
login_unknown (Some u) on e = by_test (at false on u) e
  where
    by_test : (b : Bool) → cond b Already (Right u) ≡ Unknown → Some u ≡ None
    by_test true e = cc e
    by_test false e = cc e

pub login_already : (o : Option ℕ) (on : List Bool) → login_by o on ≡ Already → (u : ℕ) × (o ≡ Some u) × (at false on u ≡ true)
login_already None on e = cc e
login_already (Some u) on e = (u, refl, by_test (at false on u) e)
  where
    by_test : (b : Bool) → cond b Already (Right u) ≡ Already → b ≡ true
    by_test true e = refl
    by_test false e = cc e

pub login_right : (o : Option ℕ) (on : List Bool) (k : ℕ) → login_by o on ≡ Right k → (o ≡ Some k) × (at false on k ≡ false)
login_right None on k e = cc e
login_right (Some u) on k e = by_test (at false on u) refl e
  where
    by_test : (b : Bool) → at false on u ≡ b → cond b Already (Right u) ≡ Right k → (Some u ≡ Some k) × (at false on k ≡ false)
    by_test true is e = cc e
    by_test false is e = let same : u ≡ k = cc e in (ap (λ (n : ℕ). Some n) same, ap (at false on) (sym same) ∙ is)

-- the number of an account that was found
pub account_within : (k : ℕ) (accounts : List Account) (name password u : ℕ) → account_in k accounts name password ≡ Some u → (k ≤ u) × (u < k + length accounts)
account_within k [] name password u e = cc e
account_within k (a ∷ accounts) name password u e = by_test (nat_eq a.name name && nat_eq a.password password) e (account_within (suc k) accounts name password u)
  where
    by_test : (b : Bool) → cond b (Some k) (account_in (suc k) accounts name password) ≡ Some u → (account_in (suc k) accounts name password ≡ Some u → (suc k ≤ u) × (u < suc k + length accounts)) → (k ≤ u) × (u < k + suc (length accounts))
    by_test true e ih = let same : k ≡ u = cc e in (omega (arith, same), omega (arith, same))
    by_test false e ih = let h = ih e in let a = h.0 in let b = h.1 in (omega (arith, a), omega (arith, b))
