-- How many places the fields of an instruction take.
use Rattle.std.proofs.Common.{◌≡◌, ℕ, zero, suc, ◌+◌, ◌/◌, ◌%◌, List, [], ◌∷◌, ◌++◌, length, refl, ◌∙◌, arith, length-append}
use Rattle.word36.specs.Octal.{octal_digits}
use Rattle.opcode_table.specs.declared.op.Instr.{Instr}
use Rattle.fap_model.specs.declared.types.SymbolValue.{SymbolValue}
use Rattle.program_trace.specs.Instructions.{address_field, tag_field, decrement_field, field_text}

pub digits_length : (k n : ℕ) → length (octal_digits k n) ≡ k
unfolding octal_digits
digits_length zero n = refl
digits_length (suc k) n = length-append (octal_digits k (n / 8)) ((48 + n % 8) ∷ []) ∙ omega (arith, digits_length k (n / 8))

pub field_length : (symbols : List SymbolValue) (i : Instr)
    → length (field_text symbols i) ≡ length (address_field symbols i) + length (tag_field i) + length (decrement_field i)
field_length symbols i =
    length-append (address_field symbols i) (tag_field i ++ decrement_field i)
    ∙ omega (arith, length-append (tag_field i) (decrement_field i))
