-- Lists of users and of consoles.
use Rattle.std.proofs.Common.{◌≡◌, ◌≢◌, ℕ, zero, suc, ◌≤◌, ◌<◌, List, [], ◌∷◌, refl, sym, ap, ◌∙◌, arith, length, get_or, set, get_or-set_same, get_or-set_other, length-set, ◌⊎◌, inl, inr}
use Rattle.std.proofs.Math.ListN.{get_or-map}
use Rattle.std.proofs.lemmas.Bool.Decides.{eqb_tells}
use Rattle.time_sharing.specs.System.{Console, Off, On, Password, Session, at, put, out_of, without}

pub at-put_same : {A : Type 0} (d : A) (xs : List A) (u : ℕ) (a : A) → 0 < u → u ≤ length xs → at d (put xs u a) u ≡ a
at-put_same d xs zero a h k = absurd (omega arith)
at-put_same d xs (suc n) a h k = get_or-set_same xs n a d k

pub at-put_other : {A : Type 0} (d : A) (xs : List A) (u v : ℕ) (a : A) → v ≢ u → at d (put xs u a) v ≡ at d xs v
at-put_other d xs zero v a h = refl
at-put_other d xs (suc n) zero a h = refl
at-put_other d xs (suc n) (suc k) a h = get_or-set_other xs n k a d (λ e. h (ap suc e))

pub length-put : {A : Type 0} (xs : List A) (u : ℕ) (a : A) → length (put xs u a) ≡ length xs
length-put xs zero a = refl
length-put xs (suc n) a = length-set xs n a

-- what is read after a write was written or there before
set_was : {A : Type 0} (d : A) (xs : List A) (i j : ℕ) (a x : A) → get_or (set xs i a) j d ≡ x → (a ≡ x) ⊎ (get_or xs j d ≡ x)
set_was d [] i j a x e = inr e
set_was d (y ∷ ys) zero zero a x e = inl e
set_was d (y ∷ ys) zero (suc j) a x e = inr e
set_was d (y ∷ ys) (suc i) zero a x e = inr e
set_was d (y ∷ ys) (suc i) (suc j) a x e = set_was d ys i j a x e

pub put_was : {A : Type 0} (d : A) (xs : List A) (c k : ℕ) (a x : A) → at d (put xs c a) k ≡ x → (a ≡ x) ⊎ (at d xs k ≡ x)
put_was d xs zero k a x e = inr e
put_was d xs (suc n) zero a x e = inr e
put_was d xs (suc n) (suc k) a x e = set_was d xs n k a x e

out_of_was : (u : ℕ) (x : Console) (v : ℕ) → out_of u x ≡ Session v → (x ≡ Session v) × (v ≢ u)
out_of_was u Off v e = cc
out_of_was u On v e = cc
out_of_was u (Password name) v e = cc
out_of_was u (Session v') v e =
    elim (eqb_tells v' u) [
      | inl h ↦ let e' = rw h.0 at e in cc
      | inr h ↦ let e' = rw h.0 at e in (e', λ q. h.1 (cc (e', q)))
    ]

-- a console that is in a session after u's is over was in it, and the session isn't u's
pub without_was : (u : ℕ) (cs : List Console) (k v : ℕ) → at Off (without u cs) k ≡ Session v → (at Off cs k ≡ Session v) × (v ≢ u)
without_was u cs zero v e = cc
without_was u cs (suc k) v e = out_of_was u (get_or cs k Off) v (sym (get_or-map (out_of u) cs k Off) ∙ e)
