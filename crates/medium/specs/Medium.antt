-- claim: what the calls of a medium do to its records and to its list of calls.
use Rattle.std.specs.Prelude.{◌≡◌, ℕ, Bool, true, false, ◌-◌, ◌^◌, ◌<◌, nat_eq, if◌then◌else◌, List, [], ◌∷◌, ◌++◌, length, slice_set, slice_index_or, Option, None, Some}
use Rattle.std.specs.List.{All}
use Rattle.faults.specs.Faults.{WhereTold}

-- each is a word of 36 bits
abbrev pub AreWords : List ℕ → Type 0
AreWords ws = All (λ w. w < 2 ^ 36) ws

-- one call: a read or a write, of which record, whether it failed, and the words that it gave
pub record Call : Type 0 where
  pub is_write : Bool
  pub at : ℕ
  pub failed : Bool
  pub words : List ℕ

-- a read of a record, which gave these words where it did not fail
abbrev pub read_call : ℕ → Bool → List ℕ → Call
read_call at failed words =
    record { is_write = false; at = at; failed = failed; words = (if failed then [] else words) }

-- a write of a record
abbrev pub write_call : ℕ → Bool → Call
write_call at failed = record { is_write = true; at = at; failed = failed; words = [] }

-- the calls made, and the room for further ones
pub record CallList : Type 0 where
  pub made : List Call
  pub room : ℕ

-- no calls yet, which are told where there is room for any
abbrev pub no_calls : ℕ → Option CallList
no_calls room = if nat_eq room 0 then None else Some (record { made = []; room = room })

-- one more call, told where calls are told and there is room
abbrev pub with_call : Option CallList → Call → Option CallList
with_call None call = None
with_call (Some calls) call =
    if nat_eq calls.room 0 then None else Some (record { made = calls.made ++ call ∷ []; room = calls.room - 1 })

-- the records with other words in one, where records are told
abbrev pub with_record : Option (List (List ℕ)) → ℕ → List ℕ → Option (List (List ℕ))
with_record None at ws = None
with_record (Some contents) at ws = Some (slice_set contents at ws)

-- there are as many records as this, where they are told
abbrev pub HasShape : Option (List (List ℕ)) → ℕ → Type 0
HasShape contents n = WhereTold contents (λ contents. length contents ≡ n)

-- a record holds these words, where records are told
abbrev pub Reads : Option (List (List ℕ)) → ℕ → List ℕ → Type 0
Reads contents at ws = WhereTold contents (λ contents. slice_index_or contents at [] ≡ ws)

-- one record holds some words, and the others what they held
abbrev pub ChangesOnly : Option (List (List ℕ)) → Option (List (List ℕ)) → ℕ → Type 0
ChangesOnly old new at = (ws : List ℕ) × (new ≡ with_record old at ws)
