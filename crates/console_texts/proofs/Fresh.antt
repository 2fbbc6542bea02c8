-- Consoles that have shown nothing.
use Rattle.std.proofs.Common.{◌≡◌, ℕ, zero, suc, List, [], ◌∷◌, All, None, map, replicate, get_or, refl, sym, ap, arith}
use Rattle.time_sharing.specs.System.{Off, at}
use Rattle.time_sharing.specs.Texts.{user_in}
use Rattle.console_texts.specs.Parts.{Shown, Transcripts, text_of, Fits}
use Rattle.console_texts.specs.Following.{fresh, Numbered, AreShown}

off_at : (m k : ℕ) → get_or (replicate m Off) k Off ≡ Off
off_at zero k = refl
off_at (suc m) zero = refl
off_at (suc m) (suc k) = off_at m k

numbered : (n k : ℕ) → Numbered k (fresh k n)
numbered zero k = tt
numbered (suc n) k = (refl, numbered n (suc k))

off_all : (m k : ℕ) → Off ≡ at Off (replicate m Off) k
off_all m zero = refl
off_all m (suc k) = sym (off_at m k)

all_fresh : (P : Shown → Type 0) → ((k : ℕ) → P (record { number = k; console = Off; pieces = []; tail = None })) → (n k : ℕ) → All P (fresh k n)
all_fresh P h zero k i d lt = absurd (omega arith)
all_fresh P h (suc n) k zero d lt = h k
all_fresh P h (suc n) k (suc i) d lt = all_fresh P h n (suc k) i d (omega arith)

pub fresh_shown : (n : ℕ) (ts : Transcripts) → AreShown (replicate n Off) ts (fresh 1 n)
fresh_shown n ts =
    record {
      numbered = numbered n 1;
      are = all_fresh (λ (s : Shown). s.console ≡ at Off (replicate n Off) s.number) (λ k. off_all n k) n 1;
      fit = all_fresh (λ (s : Shown). Fits ts (user_in s.console) s) (λ k. record { pieces = λ i d lt. absurd (omega arith); tail = refl }) n 1;
    }

pub fresh_texts : (n k : ℕ) (ts : Transcripts) → map (text_of ts) (fresh k n) ≡ replicate n []
fresh_texts zero k ts = refl
fresh_texts (suc n) k ts = ap (λ (xs : List (List ℕ)). [] ∷ xs) (fresh_texts n (suc k) ts)
