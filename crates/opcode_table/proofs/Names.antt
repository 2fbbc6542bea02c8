-- The names are text.
use Rattle.std.proofs.Common.{◌≡◌, ℕ, zero, suc, true, List, [], ◌∷◌, nat_lt, refl, arith}
use Rattle.std.specs.List.{list_all}
use Rattle.std.specs.Str.{IsUtf8, IsAscii}
use Rattle.std.proofs.lemmas.Bool.{and_parts}
use Rattle.std.proofs.lemmas.Bool.Decides.{nat_tests}
use Rattle.std.proofs.lemmas.Str.{IsUtf8-from_ascii}
use Rattle.opcode_table.specs.Table.{text_of}
use Rattle.opcode_table.specs.declared.op.Op.{Op}
use Rattle.opcode_table.specs.declared.op.Op.TheVariants.{Cla}

all_ascii : (o : Op) → list_all (λ b. nat_lt b 128) (text_of o) ≡ true
all_ascii Cla = refl
all_ascii _ = refl

is_ascii : (bs : List ℕ) → list_all (λ b. nat_lt b 128) bs ≡ true → IsAscii bs
is_ascii [] e i = omega arith
is_ascii (b ∷ bs) e zero = let parts = and_parts (nat_lt b 128) (list_all (λ c. nat_lt c 128) bs) e in grind (arith, nat_tests, parts.0)
is_ascii (b ∷ bs) e (suc i) = let parts = and_parts (nat_lt b 128) (list_all (λ c. nat_lt c 128) bs) e in is_ascii bs parts.1 i

pub is_utf8 : (o : Op) → IsUtf8 (text_of o)
is_utf8 o = IsUtf8-from_ascii (text_of o) (is_ascii (text_of o) (all_ascii o))
