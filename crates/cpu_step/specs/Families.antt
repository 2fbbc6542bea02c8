-- proof: the families of the operations.
use Rattle.std.specs.Prelude.{Bool, true, false}
use Rattle.opcode_table.specs.declared.op.Op.{Op}
use Rattle.opcode_table.specs.declared.op.Op.TheVariants as op

-- loads and stores of whole words
abbrev pub is_load_or_store : Op → Bool
is_load_or_store op.Cla = true
is_load_or_store op.Cls = true
is_load_or_store op.Ldq = true
is_load_or_store op.Stz = true
is_load_or_store op.Sto = true
is_load_or_store op.Stq = true
is_load_or_store _ = false

-- stores of a part of a word
abbrev pub is_part_store : Op → Bool
is_part_store op.Slq = true
is_part_store op.Sta = true
is_part_store op.Std = true
is_part_store op.Stt = true
is_part_store op.Stl = true
is_part_store op.Stp = true
is_part_store _ = false

-- sums
abbrev pub is_sum : Op → Bool
is_sum op.Add = true
is_sum op.Sub = true
is_sum op.Adm = true
is_sum op.Sbm = true
is_sum _ = false

-- products and quotients; DVH, which may halt, stands by itself
abbrev pub is_product : Op → Bool
is_product op.Mpy = true
is_product op.Mpr = true
is_product op.Dvp = true
is_product _ = false

-- tests that skip
abbrev pub is_test : Op → Bool
is_test op.Cas = true
is_test op.Zet = true
is_test op.Nzt = true
is_test op.Lbt = true
is_test op.Pbt = true
is_test op.Dct = true
is_test _ = false

-- changes of the accumulator
abbrev pub is_change : Op → Bool
is_change op.Xca = true
is_change op.Clm = true
is_change op.Chs = true
is_change op.Ssp = true
is_change op.Ssm = true
is_change op.Com = true
is_change op.Rnd = true
is_change _ = false
