-- claim: loads: who owns which place of core, where each user's blocks lie, of which copies are kept, and what a load moves.
use Rattle.std.specs.Prelude.{ℕ, zero, suc, ◌+◌, ◌-◌, Bool, false, if◌then◌else◌, not, ◌||◌, ◌&&◌, nat_eq, nat_lt, nat_le}

-- A place is a block of core, 0 to 127. Each has an owner, 0 for none. Each user has a base: its block b lies at the place
-- base + b, where it is in core. And of some blocks of users a copy is kept.
pub record Places : Type 0 where
  pub owner : (place : ℕ) → ℕ
  pub base : (user : ℕ) → ℕ
  pub kept : (user block : ℕ) → Bool

-- how many places there are; no proof that merely passes it on counts them
unfoldable pub core_places : ℕ
core_places = 128

abbrev pub no_places : Places
no_places = record { owner = λ q. 0; base = λ u. 0; kept = λ u b. false }

-- how many numbers below n pass
abbrev pub count_below : ℕ → (ℕ → Bool) → ℕ
count_below zero p = 0
count_below (suc n) p = count_below n p + (if p n then 1 else 0)

-- whether a user's block is in core
abbrev pub is_in : Places → ℕ → ℕ → Bool
is_in p u b = nat_eq (p.owner (p.base u + b)) u

-- whether all of a user's n blocks are
abbrev pub is_loaded : Places → ℕ → ℕ → Bool
is_loaded p u n = nat_eq (count_below n (λ b. not (is_in p u b))) 0

-- how many places a user owns
abbrev pub owned : (ℕ → ℕ) → ℕ → ℕ
owned owner u = count_below core_places (λ q. nat_eq (owner q) u)

-- whether another user owns a place
abbrev pub is_other : ℕ → ℕ → Bool
is_other v u = not (nat_eq v u) && not (nat_eq v 0)

-- how many of the n places from q on others own
abbrev pub others_from : (ℕ → ℕ) → ℕ → ℕ → ℕ → ℕ
others_from owner u n q = count_below n (λ k. is_other (owner (q + k)) u)

-- the one of two numbers at which f is less, of equals the first
abbrev pub lesser : (ℕ → ℕ) → ℕ → ℕ → ℕ
lesser f a b = if nat_lt (f b) (f a) then b else a

-- the first of the numbers 0 to m at which f is least
abbrev pub first_least : ℕ → (ℕ → ℕ) → ℕ
first_least zero f = 0
first_least (suc m) f = lesser f (first_least m f) (suc m)

-- whether a user owns places, and its n blocks fit into core from its base on
abbrev pub stays : Places → ℕ → ℕ → Bool
stays p u n = nat_lt 0 (owned p.owner u) && nat_le (p.base u + n) 128

-- whether it owns places, and they don't
abbrev pub is_moved : Places → ℕ → ℕ → Bool
is_moved p u n = nat_lt 0 (owned p.owner u) && not (nat_le (p.base u + n) 128)

-- where a user's n blocks are to lie: at its base, or else from the first place on from which others own the fewest
unfoldable pub base_for : Places → ℕ → ℕ → ℕ
base_for p u n = if stays p u n then p.base u else first_least (128 - n) (others_from p.owner u n)

-- all that a user has in core is dumped, and its base is this one
abbrev pub put_out : Places → ℕ → ℕ → Places
put_out p u base =
    record {
      owner = λ q. if nat_eq (p.owner q) u then 0 else p.owner q;
      base = λ v. if nat_eq v u then base else p.base v;
      kept = λ v b. p.kept v b || (nat_eq v u && is_in p u b);
    }

-- a load's first part: the user's base is that for its n blocks
unfoldable pub based : Places → ℕ → ℕ → Places
based p u n = if stays p u n then p else put_out p u (base_for p u n)

-- whether a place is one of the n from a user's base on
abbrev pub is_within : Places → ℕ → ℕ → ℕ → Bool
is_within p u n q = nat_le (p.base u) q && nat_lt q (p.base u + n)

-- of the blocks that aren't in core those with a copy are read, and the others come up fresh
abbrev pub is_read : Places → ℕ → ℕ → Bool
is_read p u b = not (is_in p u b) && p.kept u b

abbrev pub is_fresh : Places → ℕ → ℕ → Bool
is_fresh p u b = not (is_in p u b) && not (p.kept u b)

-- its second part: the user takes the n places from its base on; others' blocks there are dumped, and copies of its own read
abbrev pub brought_in : Places → ℕ → ℕ → Places
brought_in p u n =
    record {
      owner = λ q. if is_within p u n q then u else p.owner q;
      base = p.base;
      kept = λ v b.
          (is_within p u n (p.base v + b) && is_other (p.owner (p.base v + b)) u && is_in p v b)
          || (p.kept v b && not (nat_eq v u && nat_lt b n && is_read p u b));
    }

-- after a load of a user's n blocks
unfoldable pub loaded : Places → ℕ → ℕ → Places
loaded p u n = brought_in (based p u n) u n

-- how many blocks it dumps, the user's own and others', how many it reads, and how many come up fresh
unfoldable pub dumps : Places → ℕ → ℕ → ℕ
dumps p u n = (if stays p u n then 0 else owned p.owner u) + others_from p.owner u n (base_for p u n)

unfoldable pub reads : Places → ℕ → ℕ → ℕ
reads p u n = count_below n (is_read (based p u n) u)

unfoldable pub clears : Places → ℕ → ℕ → ℕ
clears p u n = count_below n (is_fresh (based p u n) u)

-- a user gives up its blocks and copies from block m on
abbrev pub given_up : Places → ℕ → ℕ → Places
given_up p u m =
    record {
      owner = λ q. if nat_eq (p.owner q) u && nat_le (p.base u + m) q then 0 else p.owner q;
      base = p.base;
      kept = λ v b. p.kept v b && not (nat_eq v u && nat_le m b);
    }
