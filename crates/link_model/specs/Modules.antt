-- claim: a module and the words of its file.
use Rattle.std.specs.Prelude.{ℕ, ◌+◌, ◌*◌, ◌^◌, Bool, ◌&&◌, nat_eq, nat_lt, nat_le, if◌then◌else◌, List, [], ◌∷◌, ◌++◌, length, take, drop, Option, Some, None}
use Rattle.std.specs.List.{list_all}
use Rattle.word36.specs.Bits.{address_of, decrement_of}
use Rattle.fap_model.specs.Decks.{blocks_for}
pub use Rattle.link_model.specs.declared.types.Module.{Module}
pub use Rattle.link_model.specs.declared.types.ModuleEntry.{ModuleEntry}
pub use Rattle.link_model.specs.declared.types.ModulePlace.{ModulePlace}

-- a word with a number in its decrement and one in its address
abbrev pub pair_word : (decrement address : ℕ) → ℕ
pair_word decrement address = decrement * 2 ^ 18 + address

-- of each entry its name and its place
abbrev pub entry_words : List ModuleEntry → List ℕ
entry_words [] = []
entry_words (e ∷ entries) = e.name ∷ e.place ∷ entry_words entries

-- of each place its kind and its word
abbrev pub place_words : List ModulePlace → List ℕ
place_words [] = []
place_words (p ∷ places) = p.kind ∷ p.word ∷ place_words places

-- the words of a module's file: start and number of places, numbers of entries and externs, and then entries, externs and
-- places
abbrev pub module_words : Module → List ℕ
module_words m =
    pair_word m.start (length m.places) ∷ pair_word (length m.entries) (length m.externs)
    ∷ (entry_words m.entries ++ (m.externs ++ place_words m.places))

abbrev pub entries_in : List ℕ → List ModuleEntry
entries_in [] = []
entries_in (name ∷ []) = []
entries_in (name ∷ w ∷ words) = record { name = name; place = address_of w } ∷ entries_in words

abbrev pub places_in : List ℕ → List ModulePlace
places_in [] = []
places_in (k ∷ []) = []
places_in (k ∷ w ∷ words) = record { kind = address_of k; word = w } ∷ places_in words

-- what stands behind two first words
abbrev pub module_in : (first second : ℕ) → List ℕ → Module
module_in first second words =
    let pairs = 2 * decrement_of second in
    record {
      start = decrement_of first;
      entries = entries_in (take pairs words);
      externs = take (address_of second) (drop pairs words);
      places = places_in (drop (address_of second) (drop pairs words));
    }

-- whether so many words stand behind two first words
abbrev pub has_length : (first second : ℕ) → List ℕ → Bool
has_length first second words =
    nat_eq (length words) (2 * decrement_of second + address_of second + 2 * address_of first)

-- entries within the module or just behind it, kinds that are there, a start within the blocks that its places need
abbrev pub is_bounded : Module → Bool
is_bounded m =
    list_all (λ (e : ModuleEntry). nat_le e.place (length m.places)) m.entries
    && (list_all (λ (p : ModulePlace). nat_lt p.kind (2 + length m.externs)) m.places
    && nat_lt m.start (256 * blocks_for (length m.places)))

abbrev pub if_bounded : Module → Option Module
if_bounded m = if is_bounded m then Some m else None

-- the module that words say, if they say one
abbrev pub module_of_words : List ℕ → Option Module
module_of_words [] = None
module_of_words (first ∷ []) = None
module_of_words (first ∷ second ∷ words) =
    if has_length first second words then if_bounded (module_in first second words) else None

-- a module whose numbers its words can tell
abbrev pub is_module : Module → Bool
is_module m =
    is_bounded m
    && (nat_le (length m.entries) 32767 && (nat_le (length m.externs) 32767 && (nat_le (length m.places) 32767
    && list_all (λ (p : ModulePlace). nat_lt p.kind 32768) m.places)))
