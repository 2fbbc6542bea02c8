-- proof: the families of the operations.
use Rattle.std.specs.Prelude.{Bool, true, false}
use Rattle.opcode_table.specs.declared.op.Op.{Op}
use Rattle.opcode_table.specs.declared.op.Op.TheVariants as op

-- loads and stores of all 36 bits
abbrev pub is_load_or_store : Op → Bool
is_load_or_store op.Cal = true
is_load_or_store op.Ldi = true
is_load_or_store op.Slw = true
is_load_or_store op.Sti = true
is_load_or_store _ = false

-- sums, products and comparisons bit by bit
abbrev pub is_combination : Op → Bool
is_combination op.Acl = true
is_combination op.Ana = true
is_combination op.Era = true
is_combination op.Ora = true
is_combination op.Ans = true
is_combination op.Ors = true
is_combination op.Las = true
is_combination _ = false

-- shifts and the exchange
abbrev pub is_shift : Op → Bool
is_shift op.Xcl = true
is_shift op.Als = true
is_shift op.Ars = true
is_shift op.Lls = true
is_shift op.Lrs = true
is_shift op.Lgl = true
is_shift op.Lgr = true
is_shift op.Rql = true
is_shift _ = false

-- operations of the indicators with the accumulator
abbrev pub is_of_accumulator : Op → Bool
is_of_accumulator op.Pai = true
is_of_accumulator op.Pia = true
is_of_accumulator op.Oai = true
is_of_accumulator op.Iia = true
is_of_accumulator op.Ria = true
is_of_accumulator op.Tio = true
is_of_accumulator op.Tif = true
is_of_accumulator _ = false

-- operations of the indicators with a word
abbrev pub is_of_word : Op → Bool
is_of_word op.Osi = true
is_of_word op.Iis = true
is_of_word op.Ris = true
is_of_word op.Ont = true
is_of_word op.Oft = true
is_of_word _ = false

-- operations of the indicators with half a word
abbrev pub is_of_half : Op → Bool
is_of_half op.Sir = true
is_of_half op.Sil = true
is_of_half op.Rir = true
is_of_half op.Ril = true
is_of_half op.Rnt = true
is_of_half op.Lnt = true
is_of_half op.Rft = true
is_of_half op.Lft = true
is_of_half _ = false
