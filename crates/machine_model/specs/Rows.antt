-- claim: worked rows of the machine: one step each, on registers that are zero unless said. Words are written in octal.
use Rattle.std.specs.Prelude.{◌≡◌, ℕ, true, false, ◌-◌, ◌+◌, ◌^◌, List, [], ◌∷◌, replicate}
use Rattle.word36.specs.Bits.{Acc37}
use Rattle.cpu_regs.specs.declared.regs.Regs.{Regs}
use Rattle.cpu_regs.specs.Registers.{no_registers}
use Rattle.machine_model.specs.Step.{went, halt, entry, illegal, outside}
use Rattle.machine_model.specs.Machine.{step_of}

-- a step goes on with these registers, and leaves the core as it was
abbrev pub GoesOnWith : Regs → List ℕ → Regs → Type 0
GoesOnWith r core s = step_of r core ≡ went s core

abbrev pub plus : ℕ → Acc37
plus m = record { negative = false; magnitude = m }

abbrev pub minus : ℕ → Acc37
minus m = record { negative = true; magnitude = m }

-- registers by accumulator and multiplier-quotient
abbrev pub regs : Acc37 → ℕ → Regs
regs a q = record no_registers { ac = a; mq = q }

-- registers with numbers in index registers 1 and 2
abbrev pub indexes : ℕ → ℕ → Regs
indexes x y = record no_registers { index = x ∷ y ∷ replicate 5 0 }

abbrev pub at_place : ℕ → Regs → Regs
at_place n r = record r { ic = n }

abbrev pub overflown : Regs → Regs
overflown r = record r { overflow = true }

abbrev pub checked : Regs → Regs
checked r = record r { divide_check = true }

-- CAS 1
abbrev pub cas : ℕ → List ℕ
cas w = 0o034000000001 ∷ w ∷ []

-- plus zero is greater than minus zero; less goes three places on, and equal two
pub record RowOfCas : Type 0 where
  pub plus_zero : GoesOnWith (regs (plus 0) 0) (cas 0o400000000000) (at_place 1 (regs (plus 0) 0))
  pub minus_zero : GoesOnWith (regs (minus 0) 0) (cas 0) (at_place 3 (regs (minus 0) 0))
  pub same : GoesOnWith (regs (minus 0) 0) (cas 0o400000000000) (at_place 2 (regs (minus 0) 0))
  pub greater : GoesOnWith (regs (minus 3) 0) (cas 0o400000000005) (at_place 1 (regs (minus 3) 0))
  pub less : GoesOnWith (regs (minus 5) 0) (cas 0o400000000003) (at_place 3 (regs (minus 5) 0))

-- ADD 1
abbrev pub add : ℕ → List ℕ
add w = 0o040000000001 ∷ w ∷ []

-- TOV 7, and TNO 7
abbrev pub tov : List ℕ
tov = 0o014000000007 ∷ []

abbrev pub tno : List ℕ
tno = 0o414000000007 ∷ []

-- -5 and 5 are minus zero without overflow; a carry into P turns the overflow on, and a transfer on it turns it off
pub record RowOfOverflow : Type 0 where
  pub minus_zero : GoesOnWith (regs (minus 5) 0) (add 5) (at_place 1 (regs (minus 0) 0))
  pub stays_on : GoesOnWith (overflown (regs (minus 5) 0)) (add 5) (at_place 1 (overflown (regs (minus 0) 0)))
  pub comes_on : GoesOnWith (regs (plus (2 ^ 35 - 1)) 0) (add 1) (at_place 1 (overflown (regs (plus (2 ^ 35)) 0)))
  pub tov_on : GoesOnWith (overflown (regs (plus (2 ^ 35)) 0)) tov (at_place 7 (regs (plus (2 ^ 35)) 0))
  pub tov_off : GoesOnWith no_registers tov (at_place 1 no_registers)
  pub tno_off : GoesOnWith no_registers tno (at_place 7 no_registers)
  pub tno_on : GoesOnWith (overflown no_registers) tno (at_place 1 no_registers)

-- DVP 1
abbrev pub dvp : ℕ → List ℕ
dvp w = 0o022100000001 ∷ w ∷ []

-- a divide check changes nothing else; 17 by -5 is -3, and 2 is left with the sign of the accumulator
pub record RowOfDivision : Type 0 where
  pub check : GoesOnWith (regs (plus 5) 17) (dvp 5) (at_place 1 (checked (regs (plus 5) 17)))
  pub by_zero : GoesOnWith (regs (plus 0) 17) (dvp 0o400000000000) (at_place 1 (checked (regs (plus 0) 17)))
  pub quotient : GoesOnWith (regs (plus 0) 17) (dvp 0o400000000005) (at_place 1 (regs (plus 2) 0o400000000003))
  pub remainder : GoesOnWith (regs (minus 0) 17) (dvp 0o400000000005) (at_place 1 (regs (minus 2) 3))
  pub check_halts : step_of (regs (plus 5) 17) (0o022000000001 ∷ 5 ∷ []) ≡ halt (at_place 1 (checked (regs (plus 5) 17))) (0o022000000001 ∷ 5 ∷ [])

-- LLS with a count
abbrev pub lls : ℕ → List ℕ
lls n = (0o076300000000 + n) ∷ []

-- a long left shift gives the accumulator the multiplier-quotient's sign, at a count of zero too, and a count is one
-- modulo 256; a one that passes P turns the overflow on
pub record RowOfLongShift : Type 0 where
  pub all_out : GoesOnWith (regs (plus 0) 0o400000000001) (lls 255) (at_place 1 (overflown (regs (minus 0) 0o400000000000)))
  pub count_of_zero : GoesOnWith (regs (plus 0) 0o400000000001) (lls 256) (at_place 1 (regs (minus 0) 0o400000000001))
  pub into_ac : GoesOnWith (regs (plus 0) 0o400000000001) (lls 35) (at_place 1 (regs (minus 1) 0o400000000000))
  pub into_p : GoesOnWith (regs (plus 0) 1) (lls 70) (at_place 1 (overflown (regs (plus (2 ^ 35)) 0)))
  pub below_p : GoesOnWith (regs (plus 0) 1) (lls 69) (at_place 1 (regs (plus (2 ^ 34)) 0))

-- ACL 1
abbrev pub acl : ℕ → List ℕ
acl w = 0o036100000001 ∷ w ∷ []

-- a carry out of P is added at position 35; the sign and Q stay
pub record RowOfLogicalSum : Type 0 where
  pub sum : GoesOnWith (regs (plus 3) 0) (acl 0o400000000000) (at_place 1 (regs (plus 0o400000000003) 0))
  pub carry : GoesOnWith (regs (minus 0o1777777777776) 0) (acl 5) (at_place 1 (regs (minus 0o1000000000004) 0))

-- TIX 7,1,3; TNX 7,1,3; TXI 7,1,3
abbrev pub tix : List ℕ
tix = 0o200003100007 ∷ []

abbrev pub tnx : List ℕ
tnx = 0o600003100007 ∷ []

abbrev pub txi : List ℕ
txi = 0o100003100007 ∷ []

-- a count of an index register ends where it is no longer above the decrement
pub record RowOfCounts : Type 0 where
  pub tix_equal : GoesOnWith (indexes 3 0) tix (at_place 1 (indexes 3 0))
  pub tix_greater : GoesOnWith (indexes 4 0) tix (at_place 7 (indexes 1 0))
  pub tnx_equal : GoesOnWith (indexes 3 0) tnx (at_place 7 (indexes 3 0))
  pub tnx_greater : GoesOnWith (indexes 4 0) tnx (at_place 1 (indexes 1 0))
  pub txi_round : GoesOnWith (indexes 0o77776 0) txi (at_place 7 (indexes 1 0))

-- TSX 7,1 leaves the complement of its own place, so that TRA 1,1 goes back behind it
pub record RowOfReturn : Type 0 where
  pub tsx : GoesOnWith (at_place 1 no_registers) (0 ∷ 0o007400100007 ∷ []) (at_place 7 (indexes 0o77777 0))
  pub tra : GoesOnWith (indexes 0o77777 0) (0o002000100001 ∷ []) (at_place 2 (indexes 0o77777 0))

-- CLA* 3,2 over words at 1 to 4, of which the one at 1 is an indirect word 6,1 with a flag of its own
abbrev pub indirect : List ℕ
indirect = 0o050060200003 ∷ 0o000060100006 ∷ 2 ∷ 4 ∷ 1 ∷ []

-- AXT 5,1
abbrev pub axt : List ℕ
axt = 0o077400100005 ∷ []

-- LXA 1,2
abbrev pub lxa : List ℕ
lxa = 0o053400200001 ∷ 0o000000000011 ∷ []

-- an index number is subtracted from an address; a flag goes on with address and tag of the word there, whose own flag
-- isn't looked at; a tag that names a register doesn't index
pub record RowOfPlaces : Type 0 where
  pub direct : GoesOnWith (indexes 0 2) (0o050000200003 ∷ 6 ∷ []) (at_place 1 (record (indexes 0 2) { ac = plus 6 }))
  pub through : GoesOnWith (indexes 3 2) indirect (at_place 1 (record (indexes 3 2) { ac = plus 4 }))
  pub round : step_of (indexes 7 2) indirect ≡ outside 0o77777
  pub no_word : step_of (indexes 3 2) (0o050060200010 ∷ []) ≡ outside 6
  pub tag_names : GoesOnWith (indexes 3 0) axt (at_place 1 (indexes 5 0))
  pub tag_and_word : GoesOnWith (indexes 3 1) lxa (at_place 1 (indexes 3 9))

-- an XEC does another instruction as if it stood in its place, but no XEC, with a flag or without
pub record RowOfXec : Type 0 where
  pub goes_on : GoesOnWith (at_place 1 no_registers) (0 ∷ 0o052200000002 ∷ 0o076100000000 ∷ []) (at_place 2 no_registers)
  pub skips : GoesOnWith no_registers (0o052200000001 ∷ 0o034000000002 ∷ 0 ∷ []) (at_place 2 no_registers)
  pub another : step_of no_registers (0o052200000001 ∷ 0o052200000002 ∷ 0o076100000000 ∷ []) ≡ illegal
  pub itself : step_of no_registers (0o052200000000 ∷ []) ≡ illegal
  pub with_flag : step_of no_registers (0o052200000001 ∷ 0o052260077777 ∷ []) ≡ illegal

-- two blocks of plus zeros behind a word
abbrev pub two_blocks : ℕ → List ℕ
two_blocks w = w ∷ replicate 511 0

-- how a step ends that doesn't go on: a cleared word is HTR 0, and code 0001 is none; STO 512 lies outside two blocks;
-- TIA 1 is an entry and gives the word at 1
pub record RowOfEnds : Type 0 where
  pub cleared : step_of (at_place 1 no_registers) (0o076100000000 ∷ 0 ∷ []) ≡ halt no_registers (0o076100000000 ∷ 0 ∷ [])
  pub htr : step_of no_registers (0o000000000005 ∷ []) ≡ halt (at_place 5 no_registers) (0o000000000005 ∷ [])
  pub hpr : step_of no_registers (0o042000000005 ∷ []) ≡ halt (at_place 1 no_registers) (0o042000000005 ∷ [])
  pub off_the_table : step_of no_registers (0o000100000000 ∷ []) ≡ illegal
  pub past_two_blocks : step_of no_registers (two_blocks 0o060100001000) ≡ outside 512
  pub last_of_two_blocks : GoesOnWith no_registers (two_blocks 0o050000000777) (at_place 1 no_registers)
  pub fetch : step_of (at_place 512 no_registers) (two_blocks 0) ≡ outside 512
  pub entry : step_of no_registers (0o010100000001 ∷ 42 ∷ []) ≡ entry 42
