-- The fields of an instruction, and the columns of its word.
use Rattle.std.proofs.Common.{◌≡◌, ℕ, Bool, true, List, [], ◌++◌, codes, Option, Some, sym, ap, ◌∙◌}
use Rattle.std.specs.Prelude.{if◌then◌else◌}
use Rattle.word36.specs.Octal.{octal_digits}
use Rattle.opcode_table.specs.Table.{class_of}
use Rattle.opcode_table.specs.Words.{decoded}
use Rattle.opcode_table.specs.declared.op.Instr.{Instr}
use Rattle.fap_model.specs.declared.types.SymbolValue.{SymbolValue}
use Rattle.fap_listing.specs.declared.word.Split.{Split}
use Rattle.fap_listing.specs.Words.{blanks, word_text, word_gap}
use Rattle.program_trace.specs.Instructions.{is_prefixed, has_tag, tag_field, decrement_field, split_for, decoded_text, word_column}

pub tag_is : (i : Instr) → has_tag (class_of i.op) i.tag ≡ true → codes "," ++ octal_digits 1 i.tag ≡ tag_field i
tag_is i is = sym (ap (λ (b : Bool). if b then codes "," ++ octal_digits 1 i.tag else []) is)

pub decrement_is : (i : Instr) → is_prefixed (class_of i.op) ≡ true → codes "," ++ octal_digits 5 i.decrement ≡ decrement_field i
decrement_is i is = sym (ap (λ (b : Bool). if b then codes "," ++ octal_digits 5 i.decrement else []) is)

pub column_is : (symbols : List SymbolValue) (word : Option ℕ) (w : ℕ) (i : Option Instr) (split : Split) → word ≡ Some w → i ≡ decoded w → split ≡ split_for i
    → word_text split w ++ (word_gap split ++ (blanks 2 ++ decoded_text symbols i)) ≡ word_column symbols word
column_is symbols word w i split is told by =
    let so : split ≡ split_for (decoded w) = by ∙ ap split_for told in
    (λ j. word_text (so j) w ++ (word_gap (so j) ++ (blanks 2 ++ decoded_text symbols (told j)))) ∙ sym (ap (word_column symbols) is)
