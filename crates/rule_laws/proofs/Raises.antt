-- Words whose addresses are raised.
use Rattle.std.proofs.Common.{◌≡◌, ℕ, ◌+◌, ◌-◌, ◌*◌, ◌%◌, ◌^◌, ◌<◌, Bool, true, false, arith}
use Rattle.opcode_table.specs.Table.{class_of, row_of, number_of}
use Rattle.opcode_table.specs.Words.{word_for, encoded}
use Rattle.opcode_table.specs.declared.op.Op.{Op}
use Rattle.opcode_table.specs.declared.op.Class.{Class}
use Rattle.opcode_table.specs.declared.op.Class.TheVariants as class
use Rattle.fap_model.specs.Decks.{instruction}
use Rattle.link_model.specs.Links.{raised}

pub none_raised : (w : ℕ) → raised w 0 ≡ w
none_raised w = omega arith

flagged : (k t a r : ℕ) → a < 2 ^ 15
    → raised (k * 2 ^ 24 + 3 * 2 ^ 22 + t * 2 ^ 15 + a) r ≡ k * 2 ^ 24 + 3 * 2 ^ 22 + t * 2 ^ 15 + (a + r) % 2 ^ 15
flagged k t a r h = omega (arith, h)

unflagged : (k t a r : ℕ) → a < 2 ^ 15
    → raised (k * 2 ^ 24 + 0 + t * 2 ^ 15 + a) r ≡ k * 2 ^ 24 + 0 + t * 2 ^ 15 + (a + r) % 2 ^ 15
unflagged k t a r h = omega (arith, h)

direct : (k t a r : ℕ) → a < 2 ^ 15 → raised (k * 2 ^ 24 + t * 2 ^ 15 + a) r ≡ k * 2 ^ 24 + t * 2 ^ 15 + (a + r) % 2 ^ 15
direct k t a r h = omega (arith, h)

prefixed : (k d t a r : ℕ) → a < 2 ^ 15
    → raised (k * 2 ^ 33 + d * 2 ^ 18 + t * 2 ^ 15 + a) r ≡ k * 2 ^ 33 + d * 2 ^ 18 + t * 2 ^ 15 + (a + r) % 2 ^ 15
prefixed k d t a r h = omega (arith, h)

pub plain_raised : (d t a r : ℕ) → a < 2 ^ 15 → raised (d * 2 ^ 18 + t * 2 ^ 15 + a) r ≡ d * 2 ^ 18 + t * 2 ^ 15 + (a + r) % 2 ^ 15
plain_raised d t a r h = omega (arith, h)

abbrev pub is_group : Class → Bool
is_group class.Addressed = false
is_group class.Direct = false
is_group class.Tagged = false
is_group class.Prefixed = false
is_group class.Group = true

word_raised : (c : Class) (k : ℕ) (o : Op) (flag : Bool) (t a d r : ℕ) → a < 2 ^ 15 → is_group c ≡ false
    → raised (word_for c k (instruction o flag t a d)) r ≡ word_for c k (instruction o flag t ((a + r) % 2 ^ 15) d)
word_raised class.Addressed k o true t a d r h g = flagged k t a r h
word_raised class.Addressed k o false t a d r h g = unflagged k t a r h
word_raised class.Direct k o flag t a d r h g = direct k t a r h
word_raised class.Tagged k o flag t a d r h g = direct k t a r h
word_raised class.Prefixed k o flag t a d r h g = prefixed (k - 0o10000) d t a r h
word_raised class.Group k o flag t a d r h g = absurd cc

pub instruction_raised : (o : Op) (flag : Bool) (t a d r : ℕ) → a < 2 ^ 15 → is_group (class_of o) ≡ false
    → raised (encoded (instruction o flag t a d)) r ≡ encoded (instruction o flag t ((a + r) % 2 ^ 15) d)
instruction_raised o flag t a d r h g = word_raised (class_of o) (number_of (row_of o)) o flag t a d r h g
