-- claim: arithmetic of the accumulator by signs and numbers.
use Rattle.std.specs.Prelude.{ℕ, Bool, true, false, not, ◌&&◌, ◌+◌, ◌-◌, ◌*◌, ◌/◌, ◌%◌, ◌^◌, nat_eq, nat_le, nat_lt, if◌then◌else◌}
use Rattle.word36.specs.Bits.{Acc37, is_minus, magnitude_of, word_of, logical_of}
use Rattle.arith36.specs.declared.Sum.{Sum}
use Rattle.arith36.specs.declared.Pair.{Pair}
use Rattle.arith36.specs.declared.Divide.{Divide}
use Rattle.arith36.specs.declared.Divide.TheVariants.{Divided, Check}
use Rattle.arith36.specs.declared.Side.{Side}
use Rattle.arith36.specs.declared.Side.TheVariants.{Greater, Equal, Less}

-- whether two signs are alike
abbrev pub alike : Bool → Bool → Bool
alike true b = b
alike false b = not b

-- the sign of a product or a quotient, minus where the signs are not alike
abbrev pub unlike : Bool → Bool → Bool
unlike a b = not (alike a b)

-- a sign and a magnitude added to the accumulator: alike signs add modulo 2^37, unlike signs give the difference with
-- the sign of the greater, and on zero the accumulator's
abbrev pub added : Acc37 → Bool → ℕ → Acc37
added a negative m =
    if alike a.negative negative then record { negative = a.negative; magnitude = (a.magnitude + m) % 2 ^ 37 }
    else (if nat_le m a.magnitude then record { negative = a.negative; magnitude = a.magnitude - m }
    else record { negative = negative; magnitude = m - a.magnitude })

-- whether alike signs carry out of the low 35 positions
abbrev pub add_overflows : Acc37 → Bool → ℕ → Bool
add_overflows a negative m = alike a.negative negative && nat_le (2 ^ 35) (a.magnitude % 2 ^ 35 + m)

abbrev pub sum_of : Acc37 → Bool → ℕ → Sum
sum_of a negative m = record { acc = added a negative m; overflow = add_overflows a negative m }

-- the logical sum, with the carry out of P added at position 35; the sign and Q stay
abbrev pub logical_sum : Acc37 → ℕ → Acc37
logical_sum a w =
    let sum = logical_of a + w in
    record { negative = a.negative; magnitude = a.magnitude / 2 ^ 36 * 2 ^ 36 + (if nat_lt sum (2 ^ 36) then sum else sum - 2 ^ 36 + 1) }

-- the high 35 bits of a product in the accumulator, the low ones in the multiplier-quotient
abbrev pub product_of : ℕ → ℕ → Pair
product_of q w =
    let negative = unlike (is_minus q) (is_minus w) in
    let product = magnitude_of q * magnitude_of w in
    record { acc = record { negative = negative; magnitude = product / 2 ^ 35 }; mq = word_of negative (product % 2 ^ 35) }

-- rounded: one more where position 1 of the multiplier-quotient is one
abbrev pub rounded : Acc37 → ℕ → Acc37
rounded a q = record a { magnitude = if nat_le (2 ^ 34) (magnitude_of q) then (a.magnitude + 1) % 2 ^ 37 else a.magnitude }

abbrev pub round_overflows : Acc37 → ℕ → Bool
round_overflows a q = nat_le (2 ^ 34) (magnitude_of q) && nat_eq (a.magnitude % 2 ^ 35) (2 ^ 35 - 1)

abbrev pub rounded_product : ℕ → ℕ → Pair
rounded_product q w = record { acc = rounded (product_of q w).acc (product_of q w).mq; mq = (product_of q w).mq }

-- whether a division can't be done
abbrev pub divide_checks : Acc37 → ℕ → Bool
divide_checks a w = nat_le (magnitude_of w) a.magnitude

-- the 72 positions of accumulator and multiplier-quotient by a word: quotient in the multiplier-quotient, remainder in the
-- accumulator with the accumulator's sign
abbrev pub quotient_of : Acc37 → ℕ → ℕ → Pair
quotient_of a q w =
    let whole = a.magnitude * 2 ^ 35 + magnitude_of q in
    record {
      acc = record { negative = a.negative; magnitude = whole % magnitude_of w };
      mq = word_of (unlike a.negative (is_minus w)) (whole / magnitude_of w);
    }

abbrev pub divided : Acc37 → ℕ → ℕ → Divide
divided a q w = if divide_checks a w then Check else Divided (quotient_of a q w)

abbrev pub side_of : ℕ → ℕ → Side
side_of x y = if nat_lt y x then Greater else (if nat_eq x y then Equal else Less)

-- the place of a signed number in their order, in which minus zero stands just below plus zero
abbrev pub rank : Bool → ℕ → ℕ
rank true m = 2 ^ 37 - 1 - m
rank false m = 2 ^ 37 + m

-- the accumulator against a word
abbrev pub compared : Acc37 → ℕ → Side
compared a w = side_of (rank a.negative a.magnitude) (rank (is_minus w) (magnitude_of w))

-- without signs: the 37 positions against the word's 36
abbrev pub compared_logical : Acc37 → ℕ → Side
compared_logical a w = side_of a.magnitude w
