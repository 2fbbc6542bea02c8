-- claim: modules laid one behind the other, and the deck that they make.
use Rattle.std.specs.Prelude.{ℕ, ◌+◌, ◌-◌, ◌%◌, ◌^◌, nat_eq, nat_lt, if◌then◌else◌, List, [], ◌∷◌, ◌++◌, length, map, find, get_or, Option, Some, None, is_none}
use Rattle.word36.specs.Bits.{address_of, with_address}
use Rattle.fap_model.specs.Places.{value_in, or_zero, max_place}
use Rattle.fap_model.specs.Decks.{blocks_for, add_words, segment_words}
use Rattle.link_model.specs.Modules.{Module, ModuleEntry, ModulePlace, pair_word}

-- the places of all modules together
abbrev pub places_of_all : List Module → ℕ
places_of_all [] = 0
places_of_all (m ∷ modules) = length m.places + places_of_all modules

-- the entries of a module whose first place is one, as places
abbrev pub entered : ℕ → List ModuleEntry → List (ℕ × ℕ)
entered base entries = map (λ (e : ModuleEntry). (e.name, (base + e.place) % 2 ^ 15)) entries

-- the entries of modules from a place on, each module behind the one before
abbrev pub entered_from : ℕ → List Module → List (ℕ × ℕ)
entered_from base [] = []
entered_from base (m ∷ modules) = entered base m.entries ++ entered_from (base + length m.places) modules

-- the first name that is one of earlier ones
abbrev pub repeated_in : List (ℕ × ℕ) → List (ℕ × ℕ) → Option ℕ
repeated_in earlier [] = None
repeated_in earlier (e ∷ names) = if is_none (value_in earlier e.0) then repeated_in (earlier ++ e ∷ []) names else Some e.0

abbrev pub externs_of_all : List Module → List ℕ
externs_of_all [] = []
externs_of_all (m ∷ modules) = m.externs ++ externs_of_all modules

-- the first extern that no module enters
abbrev pub missing_in : List (ℕ × ℕ) → List ℕ → Option ℕ
missing_in entries names = find (λ name. is_none (value_in entries name)) names

-- a word whose address is raised, modulo 2^15
abbrev pub raised : (word by : ℕ) → ℕ
raised word by = with_address word ((address_of word + by) % 2 ^ 15)

-- how far the address of a kind is raised
abbrev pub raised_by : ℕ → List (ℕ × ℕ) → List ℕ → (kind : ℕ) → ℕ
raised_by base entries externs kind =
    if nat_eq kind 0 then 0 else (if nat_eq kind 1 then base else or_zero (value_in entries (get_or externs (kind - 2) 0)))

abbrev pub linked_word : ℕ → List (ℕ × ℕ) → List ℕ → ModulePlace → ℕ
linked_word base entries externs p = raised p.word (raised_by base entries externs p.kind)

-- the words of modules from a place on
abbrev pub linked_from : ℕ → List (ℕ × ℕ) → List Module → List ℕ
linked_from base entries [] = []
linked_from base entries (m ∷ modules) =
    map (linked_word base entries m.externs) m.places ++ linked_from (base + length m.places) entries modules

abbrev pub start_of_all : List Module → ℕ
start_of_all [] = 0
start_of_all (m ∷ modules) = m.start

-- start and blocks, and behind them segments of 4096 words, the last shorter
abbrev pub linked_deck : List (ℕ × ℕ) → List Module → List ℕ
linked_deck entries modules =
    pair_word (start_of_all modules) (blocks_for (places_of_all modules)) ∷ segment_words (add_words [] 0 (linked_from 0 entries modules))

-- a deck, or why there is none
pub data Linked : Type 0 where
  deck : List ℕ → Linked
  too_large : Linked
  doubly : ℕ → Linked
  undefined : ℕ → Linked

abbrev pub if_none_missing : Option ℕ → List (ℕ × ℕ) → List Module → Linked
if_none_missing None entries modules = deck (linked_deck entries modules)
if_none_missing (Some name) entries modules = undefined name

abbrev pub if_none_repeated : Option ℕ → List (ℕ × ℕ) → List Module → Linked
if_none_repeated None entries modules = if_none_missing (missing_in entries (externs_of_all modules)) entries modules
if_none_repeated (Some name) entries modules = doubly name

-- the deck that modules make together
unfoldable pub link_of : List Module → Linked
link_of modules =
    if nat_lt max_place (places_of_all modules) then too_large
    else if_none_repeated (repeated_in [] (entered_from 0 modules)) (entered_from 0 modules) modules
