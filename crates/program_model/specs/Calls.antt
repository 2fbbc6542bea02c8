-- claim: supervisor entries: how the arguments of a call are read, and what an answer leaves in the registers.
use Rattle.std.specs.Prelude.{ℕ, ◌+◌, ◌-◌, ◌%◌, ◌^◌, Bool, false, ◌&&◌, nat_eq, nat_lt, nat_le, if◌then◌else◌, List, [], ◌∷◌, length, slice_index, codes, Option, Some, None, Ok, Err}
use Rattle.std.specs.declared.result.Result.{Result}
use Rattle.word36.specs.Bits.{address_of, decrement_of, magnitude_of}
use Rattle.ctss_types.specs.Names.{NamePair}
use Rattle.ctss_types.specs.Words.{name_of}
use Rattle.cpu_regs.specs.declared.regs.Regs.{Regs}
use Rattle.cpu_regs.specs.Registers.{xr}
use Rattle.program_model.specs.declared.Call.{Call}
use Rattle.program_model.specs.declared.Call.TheVariants.{ReadLine, WriteLine, GetTime, GetMemory, SetMemory, FileStat, ReadFile, WriteFile, DeleteFile, RenameFile, ChangeMode, Common, Dead, Dormant}
use Rattle.program_model.specs.declared.CommonCall.TheVariants as common
use Rattle.program_model.specs.declared.EntryFault.{EntryFault}
use Rattle.program_model.specs.declared.EntryFault.TheVariants.{NoSuchEntry, Outside}

-- the place of the call: register 4 holds its complement
abbrev pub call_place : Regs → ℕ
call_place r = (2 ^ 15 - xr r 4) % 2 ^ 15

-- the n-th place after the call, from 1 on, round the end of core
abbrev pub behind_call : Regs → ℕ → ℕ
behind_call r n = (call_place r + n) % 2 ^ 15

-- goes on with the word at an address
abbrev pub with_word : List ℕ → ℕ → (ℕ → Result Call EntryFault) → Result Call EntryFault
with_word core a f = if nat_lt a (length core) then f (slice_index core a) else Err (Outside a)

-- a call with a buffer, of which so many words from its address on lie within the core
abbrev pub with_buffer : List ℕ → ℕ → ℕ → Call → Result Call EntryFault
with_buffer core at count call = if nat_le (at + count) (length core) then Ok call else Err (Outside at)

-- a line has 1 to 14 words
abbrev pub is_line_count : ℕ → Bool
is_line_count count = nat_le 1 count && nat_le count 14

-- an argument with a buffer in address and decrement; where no line has so many words, the buffer isn't looked at
abbrev pub line_call : Regs → List ℕ → (ℕ → ℕ → Call) → Result Call EntryFault
line_call r core call =
    with_word core (behind_call r 1) (λ w.
    let at = address_of w in
    let count = decrement_of w in
    if is_line_count count then with_buffer core at count (call at count) else Ok (call at count))

-- a file's two names, from an address on, round the end of core
abbrev pub with_file : List ℕ → ℕ → (NamePair → Result Call EntryFault) → Result Call EntryFault
with_file core a f = with_word core a (λ first. with_word core ((a + 1) % 2 ^ 15) (λ second. f (record { first = first; second = second })))

-- a call whose one argument points at a file's names
abbrev pub file_call : Regs → List ℕ → (NamePair → Call) → Result Call EntryFault
file_call r core call = with_word core (behind_call r 1) (λ n. with_file core (address_of n) (λ name. Ok (call name)))

-- A call whose arguments point at a file's names, hold a buffer in address and decrement, and point at a word whose magnitude is
-- a place. The argument words are looked at first, then what they point at, then the buffer.
abbrev pub transfer_call : Regs → List ℕ → (NamePair → (at count place : ℕ) → Call) → Result Call EntryFault
transfer_call r core call =
    with_word core (behind_call r 1) (λ n. with_word core (behind_call r 2) (λ buffer. with_word core (behind_call r 3) (λ p.
    with_file core (address_of n) (λ name. with_word core (address_of p) (λ place.
    let at = address_of buffer in
    let count = decrement_of buffer in
    with_buffer core at count (call name at count (magnitude_of place)))))))

-- a call whose arguments point at the names of a file and at other names
abbrev pub rename_call : Regs → List ℕ → Result Call EntryFault
rename_call r core =
    with_word core (behind_call r 1) (λ n. with_word core (behind_call r 2) (λ m.
    with_file core (address_of n) (λ name. with_file core (address_of m) (λ to. Ok (RenameFile name to)))))

-- a call whose arguments point at a file's names and hold a mode in the address
abbrev pub mode_call : Regs → List ℕ → Result Call EntryFault
mode_call r core =
    with_word core (behind_call r 1) (λ n. with_word core (behind_call r 2) (λ m.
    with_file core (address_of n) (λ name. Ok (ChangeMode name (address_of m)))))

-- an entry by its name as a word, and its call of a program with these registers and this core
abbrev pub Entry : Type 0
Entry = ℕ × (Regs → List ℕ → Result Call EntryFault)

-- the entries that ask for something of a common file
abbrev pub common_entries : List Entry
common_entries =
    (name_of (codes "CFSTAT"), λ r core. file_call r core (λ file. Common (common.Stat file)))
    ∷ (name_of (codes "CRDFIL"), λ r core. transfer_call r core (λ file at count place. Common (common.Read file at count place)))
    ∷ (name_of (codes "CWRFIL"), λ r core. transfer_call r core (λ file at count place. Common (common.Write file at count place)))
    ∷ (name_of (codes "CDELET"), λ r core. file_call r core (λ file. Common (common.Delete file)))
    ∷ []

-- those, and before them the entries that ask for something of a file
abbrev pub file_entries : List Entry
file_entries =
    (name_of (codes "FSTAT"), λ r core. file_call r core (λ file. FileStat file))
    ∷ (name_of (codes "RDFILE"), λ r core. transfer_call r core (λ file at count place. ReadFile file at count place))
    ∷ (name_of (codes "WRFILE"), λ r core. transfer_call r core (λ file at count place. WriteFile file at count place))
    ∷ (name_of (codes "DELETE"), λ r core. file_call r core (λ file. DeleteFile file))
    ∷ (name_of (codes "RENAME"), λ r core. rename_call r core)
    ∷ (name_of (codes "CHMODE"), λ r core. mode_call r core)
    ∷ common_entries

-- those, and before them the entries without arguments
abbrev pub simple_entries : List Entry
simple_entries =
    (name_of (codes "GETTM"), λ r core. Ok GetTime)
    ∷ (name_of (codes "GETMEM"), λ r core. Ok GetMemory)
    ∷ (name_of (codes "DEAD"), λ r core. Ok Dead)
    ∷ (name_of (codes "DORMNT"), λ r core. Ok Dormant)
    ∷ file_entries

-- all entries
abbrev pub entries : List Entry
entries =
    (name_of (codes "RDFLX"), λ r core. line_call r core (λ at count. ReadLine at count))
    ∷ (name_of (codes "WRFLX"), λ r core. line_call r core (λ at count. WriteLine at count))
    ∷ (name_of (codes "SETMEM"), λ r core. with_word core (behind_call r 1) (λ w. Ok (SetMemory (address_of w))))
    ∷ simple_entries

-- the call of the entry of a name, among those of a list
abbrev pub call_among : List Entry → Regs → List ℕ → ℕ → Result Call EntryFault
call_among [] r core name = Err NoSuchEntry
call_among ((entry, call) ∷ rest) r core name = if nat_eq name entry then call r core else call_among rest r core name

-- the call of an entry by name
abbrev pub call_of : Regs → List ℕ → ℕ → Result Call EntryFault
call_of r core name = call_among entries r core name

-- a value goes to the multiplier-quotient, which else stays
abbrev pub value_or : Option ℕ → ℕ → ℕ
value_or None q = q
value_or (Some v) q = v

-- the registers behind an answer: the reply in the accumulator, and on behind so many arguments
abbrev pub answered : Regs → ℕ → ℕ → Option ℕ → Regs
answered r arguments reply value =
    record r {
      ac = record { negative = false; magnitude = reply };
      mq = value_or value r.mq;
      ic = behind_call r (1 + arguments);
    }
