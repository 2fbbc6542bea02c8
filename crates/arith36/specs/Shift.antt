-- claim: shifts by products, quotients and remainders.
use Rattle.std.specs.Prelude.{ℕ, Bool, false, ◌+◌, ◌-◌, ◌*◌, ◌/◌, ◌%◌, ◌^◌, nat_le}
use Rattle.word36.specs.Bits.{Acc37, is_minus, magnitude_of, word_of}
use Rattle.arith36.specs.declared.Sum.{Sum}
use Rattle.arith36.specs.declared.shift.Shifted.{Shifted}

-- n places to the left in so many positions; what leaves is lost
abbrev pub left : (width n : ℕ) → ℕ → ℕ
left width n x = x * 2 ^ n % 2 ^ width

-- n places to the right
abbrev pub right : (n : ℕ) → ℕ → ℕ
right n x = x / 2 ^ n

-- whether a one from below a place enters or passes it in n places to the left
abbrev pub passes : (place n : ℕ) → ℕ → Bool
passes place n x = nat_le (2 ^ place) (x % 2 ^ place * 2 ^ n)

-- the accumulator alone; its sign stays, and P stands at place 35
abbrev pub acc_left : Acc37 → ℕ → Sum
acc_left a n = record { acc = record { negative = a.negative; magnitude = left 37 n a.magnitude }; overflow = passes 35 n a.magnitude }

abbrev pub acc_right : Acc37 → ℕ → Acc37
acc_right a n = record { negative = a.negative; magnitude = right n a.magnitude }

-- the accumulator's 37 positions joined with the multiplier-quotient's 35 without its sign
abbrev pub registers_joined : Acc37 → ℕ → ℕ
registers_joined a q = a.magnitude * 2 ^ 35 + magnitude_of q

abbrev pub parted : Bool → ℕ → Bool → Shifted
parted negative x overflow = record { acc = record { negative = negative; magnitude = x / 2 ^ 35 }; mq = word_of negative (x % 2 ^ 35); overflow = overflow }

-- the long left shift, which gives both the multiplier-quotient's sign; P stands at place 70
abbrev pub long_left : Acc37 → ℕ → ℕ → Shifted
long_left a q n = parted (is_minus q) (left 72 n (registers_joined a q)) (passes 70 n (registers_joined a q))

-- the long right shift, which gives both the accumulator's sign
abbrev pub long_right : Acc37 → ℕ → ℕ → Shifted
long_right a q n = parted a.negative (right n (registers_joined a q)) false

-- the accumulator's 37 positions joined with all 36 of the multiplier-quotient
abbrev pub all_joined : Acc37 → ℕ → ℕ
all_joined a q = a.magnitude * 2 ^ 36 + q

abbrev pub all_parted : Bool → ℕ → Bool → Shifted
all_parted negative x overflow = record { acc = record { negative = negative; magnitude = x / 2 ^ 36 }; mq = x % 2 ^ 36; overflow = overflow }

-- the logical left shift; the accumulator's sign stays, and P stands at place 71
abbrev pub logical_left : Acc37 → ℕ → ℕ → Shifted
logical_left a q n = all_parted a.negative (left 73 n (all_joined a q)) (passes 71 n (all_joined a q))

abbrev pub logical_right : Acc37 → ℕ → ℕ → Shifted
logical_right a q n = all_parted a.negative (right n (all_joined a q)) false

-- 36 bits turned left: the bits that leave come in on the right
abbrev pub turned : ℕ → ℕ → ℕ
turned q n = let k = n % 36 in q * 2 ^ k % 2 ^ 36 + q / 2 ^ (36 - k)
