-- proof: what the fields of a case say.
use Rattle.std.specs.Prelude.{◌≡◌, ℕ, ◌+◌, ◌<◌, List, [], drop, nat_eq, slice_index, slice_index_or}
use Rattle.std.specs.Result.{OkIff}
use Rattle.std.specs.declared.result.Result.{Result}
use Rattle.std.specs.Str.Parse.{IsNumeral, digits_value, without_leading_plus, starts_with_minus}
use Rattle.word36.specs.Bits.{Acc37}
use Rattle.cpu_regs.specs.declared.regs.Regs.{Regs}

-- the number of octal digits, before which a plus may stand
abbrev pub octal_of : List ℕ → ℕ
octal_of text = digits_value 8 (without_leading_plus text)

-- it is read where there are digits alone and the number is below a limit
abbrev pub ReadsBelow : {E : Type 0} → ℕ → List ℕ → Result ℕ E → Type 0
ReadsBelow limit text r = OkIff r (IsNumeral 8 (without_leading_plus text) × (octal_of text < limit)) (octal_of text)

-- the accumulator of a sign and digits
abbrev pub acc_of : List ℕ → Acc37
acc_of text = record { negative = starts_with_minus text; magnitude = octal_of (drop 1 text) }

abbrev pub field_at : List (List ℕ) → ℕ → List ℕ
field_at fields k = slice_index_or fields k []

-- the registers of the fields AC MQ SI X1 X2 X3 X4 X5 X6 X7 IC OV DC
pub record AreRegisters (fields : List (List ℕ)) (r : Regs) : Type 0 where
  pub ac : r.ac ≡ acc_of (field_at fields 0)
  pub mq : r.mq ≡ octal_of (field_at fields 1)
  pub si : r.si ≡ octal_of (field_at fields 2)
  pub index : (k : ℕ) → k < 7 → slice_index r.index k ≡ octal_of (field_at fields (3 + k))
  pub ic : r.ic ≡ octal_of (field_at fields 10)
  pub overflow : r.overflow ≡ nat_eq (octal_of (field_at fields 11)) 1
  pub divide_check : r.divide_check ≡ nat_eq (octal_of (field_at fields 12)) 1
