-- claim: a saved program: sixteen words with its size and registers, and then its core; and what is printed of a program that
-- stopped.
use Rattle.std.specs.Prelude.{ℕ, ◌+◌, ◌*◌, ◌/◌, ◌%◌, ◌^◌, Bool, ◌&&◌, nat_eq, nat_lt, nat_le, if◌then◌else◌, List, [], ◌∷◌, ◌++◌, length, map, slice_index, codes, Ok, Err}
use Rattle.std.specs.declared.result.Result.{Result}
use Rattle.std.specs.List.{flat_map}
use Rattle.word36.specs.Bits.{Acc37, acc_word, is_minus, magnitude_of, address_of}
use Rattle.word36.specs.Octal.{octal_digits}
use Rattle.ctss_types.specs.Names.{NamePair}
use Rattle.ctss_types.specs.Words.{name_of}
use Rattle.ctss_types.specs.declared.file.Refusal.{Refusal}
use Rattle.cpu_regs.specs.declared.regs.Regs.{Regs}
use Rattle.cpu_regs.specs.Registers.{xr}
use Rattle.program_model.specs.declared.LoadFault.{LoadFault}
use Rattle.program_model.specs.declared.LoadFault.TheVariants.{NoFile, BadDeck, TooLarge}

abbrev pub bit : Bool → ℕ
bit b = if b then 1 else 0

-- the last bit of a number is one
abbrev pub is_odd : ℕ → Bool
is_odd n = nat_eq (n % 2) 1

-- positions Q and P of an accumulator, as the two last positions of a word
abbrev pub high_of : Acc37 → ℕ
high_of a = a.magnitude / 2 ^ 35

-- the tags of the index registers
abbrev pub tags : List ℕ
tags = 1 ∷ 2 ∷ 3 ∷ 4 ∷ 5 ∷ 6 ∷ 7 ∷ []

abbrev pub indexes : Regs → List ℕ
indexes r = map (xr r) tags

-- the size; AC, its Q and P; MQ; SI; the index registers; IC; divide check and overflow; two words of zero
abbrev pub head_of : ℕ → Regs → List ℕ
head_of blocks r =
    blocks ∷ acc_word r.ac ∷ high_of r.ac ∷ r.mq ∷ r.si ∷ (indexes r ++ r.ic ∷ (2 * bit r.divide_check + bit r.overflow) ∷ 0 ∷ 0 ∷ [])

abbrev pub saved : ℕ → Regs → List ℕ → List ℕ
saved blocks r core = head_of blocks r ++ core

-- an accumulator of its sign and low positions, and its Q and P
abbrev pub acc_in : (low high : ℕ) → Acc37
acc_in low high = record { negative = is_minus low; magnitude = high % 4 * 2 ^ 35 + magnitude_of low }

-- the index register of a tag, behind the first five words
abbrev pub index_in : List ℕ → ℕ → ℕ
index_in words tag = address_of (slice_index words (tag + 4))

-- the registers that the first sixteen words say
abbrev pub regs_in : List ℕ → Regs
regs_in words =
    record {
      ac = acc_in (slice_index words 1) (slice_index words 2);
      mq = slice_index words 3;
      si = slice_index words 4;
      ic = address_of (slice_index words 12);
      overflow = is_odd (slice_index words 13);
      divide_check = is_odd (slice_index words 13 / 2);
      index = map (index_in words) tags;
    }

-- the first word, which is a number of blocks, and how many words there are
abbrev pub is_saved : (blocks words : ℕ) → Bool
is_saved blocks words = nat_le 1 blocks && nat_le blocks 128 && nat_eq words (16 + 256 * blocks)

-- how many blocks the words of a file say as a saved program, for a user of so many blocks
abbrev pub saved_in : ℕ → List ℕ → Result ℕ LoadFault
saved_in quota [] = Err BadDeck
saved_in quota (w ∷ ws) =
    if is_saved w (length (w ∷ ws)) then (if nat_le w quota then Ok w else Err TooLarge) else Err BadDeck

abbrev pub saved_of : ℕ → Result (List ℕ) Refusal → Result ℕ LoadFault
saved_of quota (Ok words) = saved_in quota words
saved_of quota (Err r) = Err NoFile

-- the file that a program of this name is saved in
abbrev pub saved_name : ℕ → NamePair
saved_name name = record { first = name; second = name_of (codes "SAVED") }

-- + or -
abbrev pub sign_of : Bool → ℕ
sign_of negative = if negative then 45 else 43

-- three lines of the registers in octal digits, and the indicators as 0 or 1
abbrev pub register_lines : Regs → List (List ℕ)
register_lines r =
    (codes "IC " ++ (octal_digits 5 r.ic ++ (codes " AC " ++ (sign_of r.ac.negative ∷ (octal_digits 13 r.ac.magnitude ++ (codes " MQ " ++ octal_digits 12 r.mq))))))
    ∷ (codes "SI " ++ (octal_digits 12 r.si ++ (codes " OV " ++ ((48 + bit r.overflow) ∷ (codes " DC " ++ ((48 + bit r.divide_check) ∷ []))))))
    ∷ (codes "XR" ++ flat_map (λ x. 32 ∷ octal_digits 5 x) (indexes r))
    ∷ []

-- the word at a place, or that it is outside
abbrev pub word_line : List ℕ → ℕ → List ℕ
word_line core place = if nat_lt place (length core) then octal_digits 5 place ++ (32 ∷ octal_digits 12 (slice_index core place)) else codes "PROTECTION"
