-- proof: the words and the files' names that a call looks at.
use Rattle.std.specs.Prelude.{ℕ, ◌+◌, ◌%◌, ◌^◌, List, length, slice_index, nat_lt, if◌then◌else◌, Ok, Err}
use Rattle.std.specs.declared.result.Result.{Result}
use Rattle.word36.specs.Bits.{address_of}
use Rattle.ctss_types.specs.Names.{NamePair}
use Rattle.cpu_regs.specs.declared.regs.Regs.{Regs}
use Rattle.program_model.specs.declared.EntryFault.{EntryFault}
use Rattle.program_model.specs.declared.EntryFault.TheVariants.{Outside}
use Rattle.program_model.specs.Calls.{behind_call}

-- the word at an address
abbrev pub word_at : List ℕ → ℕ → Result ℕ EntryFault
word_at core a = if nat_lt a (length core) then Ok (slice_index core a) else Err (Outside a)

-- goes on where there is no fault
abbrev pub then_go : {A B : Type 0} → Result A EntryFault → (A → Result B EntryFault) → Result B EntryFault
then_go (Ok x) f = f x
then_go (Err e) f = Err e

-- a file's two names, from an address on, round the end of core
abbrev pub file_at : List ℕ → ℕ → Result NamePair EntryFault
file_at core a =
    then_go (word_at core a) (λ first. then_go (word_at core ((a + 1) % 2 ^ 15)) (λ second.
    Ok (record { first = first; second = second })))

-- the file whose names the first argument points at
abbrev pub named_file : Regs → List ℕ → Result NamePair EntryFault
named_file r core = then_go (word_at core (behind_call r 1)) (λ n. file_at core (address_of n))
