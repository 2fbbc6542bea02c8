-- proof: the families of the operations.
use Rattle.std.specs.Prelude.{Bool, true, false}
use Rattle.opcode_table.specs.declared.op.Op.{Op}
use Rattle.opcode_table.specs.declared.op.Op.TheVariants as op

-- loads of an index register
abbrev pub is_index_load : Op → Bool
is_index_load op.Lxa = true
is_index_load op.Lxd = true
is_index_load op.Lac = true
is_index_load op.Ldc = true
is_index_load op.Axt = true
is_index_load op.Axc = true
is_index_load op.Pax = true
is_index_load op.Pdx = true
is_index_load op.Pac = true
is_index_load op.Pdc = true
is_index_load _ = false

-- stores of an index register
abbrev pub is_index_store : Op → Bool
is_index_store op.Sxa = true
is_index_store op.Sxd = true
is_index_store op.Sca = true
is_index_store op.Scd = true
is_index_store op.Pxa = true
is_index_store op.Pxd = true
is_index_store op.Pca = true
is_index_store op.Pcd = true
is_index_store _ = false

-- transfers
abbrev pub is_transfer : Op → Bool
is_transfer op.Tra = true
is_transfer op.Tze = true
is_transfer op.Tnz = true
is_transfer op.Tpl = true
is_transfer op.Tmi = true
is_transfer op.Tov = true
is_transfer op.Tno = true
is_transfer op.Tqp = true
is_transfer op.Tlq = true
is_transfer op.Tsx = true
is_transfer _ = false

-- counts and comparisons of an index register
abbrev pub is_count : Op → Bool
is_count op.Txi = true
is_count op.Tix = true
is_count op.Tnx = true
is_count op.Txh = true
is_count op.Txl = true
is_count _ = false

-- stops
abbrev pub is_stop : Op → Bool
is_stop op.Htr = true
is_stop op.Hpr = true
is_stop _ = false
