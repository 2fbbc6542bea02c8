-- claim: the registers that a step changed, as a trace shows them.
use Rattle.std.specs.Prelude.{ℕ, ◌+◌, Bool, ◌&&◌, not, nat_eq, if◌then◌else◌, List, [], ◌∷◌, ◌++◌, Option, Some, None, codes}
use Rattle.word36.specs.Octal.{octal_digits}
use Rattle.word36.specs.Bits.{Acc37}
use Rattle.cpu_regs.specs.declared.regs.Regs.{Regs}
use Rattle.cpu_regs.specs.Registers.{xr}

-- a register by its name, if it isn't what it was
abbrev pub changed : (same : Bool) → (name value : List ℕ) → List ℕ
changed same name value = if same then [] else codes "  " ++ (name ++ (codes " " ++ value))

abbrev pub same_sign : Bool → Bool → Bool
same_sign a b = if a then b else not b

-- the accumulator: sign, and 37 bits as 13 octal digits
abbrev pub acc_text : Acc37 → List ℕ
acc_text a = (if a.negative then codes "-" else codes "+") ++ octal_digits 13 a.magnitude

abbrev pub acc_change : Acc37 → Acc37 → List ℕ
acc_change a b = changed (same_sign a.negative b.negative && nat_eq a.magnitude b.magnitude) (codes "AC") (acc_text b)

abbrev pub word_change : (name : List ℕ) → ℕ → ℕ → List ℕ
word_change name a b = changed (nat_eq a b) name (octal_digits 12 b)

-- index register n
abbrev pub index_change : Regs → Regs → (n : ℕ) → List ℕ
index_change a b n = changed (nat_eq (xr a n) (xr b n)) (88 ∷ (48 + n) ∷ []) (octal_digits 5 (xr b n))

abbrev pub index_changes : Regs → Regs → List ℕ
index_changes a b =
    index_change a b 1 ++ (index_change a b 2 ++ (index_change a b 3 ++ (index_change a b 4 ++ (index_change a b 5
    ++ (index_change a b 6 ++ index_change a b 7)))))

-- an indicator
abbrev pub on_text : Bool → List ℕ
on_text on = if on then codes "ON" else codes "OFF"

abbrev pub indicator_change : (name : List ℕ) → Bool → Bool → List ℕ
indicator_change name a b = changed (same_sign a b) name (on_text b)

abbrev pub register_changes : (before after : Regs) → List ℕ
register_changes a b =
    acc_change a.ac b.ac
    ++ (word_change (codes "MQ") a.mq b.mq
    ++ (word_change (codes "SI") a.si b.si
    ++ (index_changes a b
    ++ (indicator_change (codes "OV") a.overflow b.overflow
    ++ indicator_change (codes "DC") a.divide_check b.divide_check))))

-- nothing is told of registers where no program is left
abbrev pub changes_to : (before : Regs) → (after : Option Regs) → List ℕ
changes_to a None = []
changes_to a (Some b) = register_changes a b
