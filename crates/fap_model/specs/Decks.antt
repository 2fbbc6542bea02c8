-- claim: the deck of a list of cards, or the faults of its cards.
use Rattle.std.specs.Prelude.{ℕ, zero, suc, ◌+◌, ◌*◌, ◌/◌, ◌%◌, ◌^◌, max, Bool, true, false, ◌&&◌, nat_eq, nat_lt, nat_le, if◌then◌else◌, List, [], ◌∷◌, ◌++◌, length, Option, Some, None}
use Rattle.std.specs.List.{list_any}
use Rattle.opcode_table.specs.Words.{encoded}
use Rattle.opcode_table.specs.declared.op.Op.{Op}
use Rattle.opcode_table.specs.declared.op.Instr.{Instr}
use Rattle.fap_model.specs.Cards.{is_comment, is_bad, flag_of, operation_of, field_of}
use Rattle.fap_model.specs.Statements.{Operation, machine, pze, dec, oct, bci, end, operation_named, Address, plain, literal, Field, placed, half, value, words, form_of, field_for, literal_in}
use Rattle.fap_model.specs.Places.{Known, nothing_known, value_of, or_zero, size_of, looks_back, fault_with, known_behind, known_after}

abbrev pub operation_in : List ℕ → Option Operation
operation_in card = if is_comment card then None else operation_named (operation_of card)

abbrev pub is_end : Option Operation → Bool
is_end None = false
is_end (Some end) = true
is_end (Some o) = false

-- the cards that are read: those up to the first END card
abbrev pub cards_read : List (List ℕ) → List (List ℕ)
cards_read [] = []
cards_read (card ∷ cards) = if is_end (operation_in card) then card ∷ [] else card ∷ cards_read cards

abbrev pub has_end : List (List ℕ) → Bool
has_end cards = list_any (λ card. is_end (operation_in card)) cards

abbrev pub cards_before_end : List (List ℕ) → List (List ℕ)
cards_before_end [] = []
cards_before_end (card ∷ cards) = if is_end (operation_in card) then [] else card ∷ cards_before_end cards

-- the distinct literals, in order of first use
abbrev pub literal_by : Option Operation → List ℕ → Option ℕ
literal_by None card = None
literal_by (Some o) card = literal_in (form_of o) (field_of card)

abbrev pub with_literal : List ℕ → Option ℕ → List ℕ
with_literal seen None = seen
with_literal seen (Some w) = if list_any (λ x. nat_eq x w) seen then seen else seen ++ w ∷ []

abbrev pub literals_with : List ℕ → List (List ℕ) → List ℕ
literals_with seen [] = seen
literals_with seen (card ∷ cards) = literals_with (with_literal seen (literal_by (operation_in card) card)) cards

-- one more than the highest place that has a word or is reserved
abbrev pub size_by : Option Operation → Known → List ℕ → ℕ
size_by None k card = 0
size_by (Some o) k card = size_of o k (field_for o card)

abbrev pub reach_of : ℕ → ℕ → ℕ → ℕ
reach_of reach place zero = reach
reach_of reach place (suc n) = max reach (place + suc n)

abbrev pub reach_from : ℕ → Known → List (List ℕ) → ℕ
reach_from reach k [] = reach
reach_from reach k (card ∷ cards) = reach_from (reach_of reach k.place (size_by (operation_in card) k card)) (known_behind k card) cards

-- what only all cards together tell: the symbols, the literals, the place behind the last card before END, the blocks
pub record Whole : Type 0 where
  pub names : List (ℕ × ℕ)
  pub literals : List ℕ
  pub end_place : ℕ
  pub blocks : ℕ

abbrev pub blocks_for : ℕ → ℕ
blocks_for reach = max 1 ((reach + 255) / 256)

abbrev pub whole_of : List (List ℕ) → Whole
whole_of cards =
    let read = cards_read cards in
    let before = cards_before_end cards in
    let literals = literals_with [] read in
    let place = (known_after nothing_known before).place in
    record {
      names = (known_after nothing_known read).symbols;
      literals = literals;
      end_place = place;
      blocks = blocks_for (reach_of (reach_from 0 nothing_known before) place (length literals));
    }

-- whether a start lies outside the blocks
abbrev pub is_outside : ℕ → Option ℕ → Bool
is_outside blocks None = false
is_outside blocks (Some v) = nat_le (256 * blocks) v

abbrev pub start_is_outside : Whole → Known → Option Field → Bool
start_is_outside whole k (Some (value ts)) = is_outside whole.blocks (value_of whole.names k.place ts)
start_is_outside whole k f = false

abbrev pub names_for : Operation → Whole → Known → List (ℕ × ℕ)
names_for o whole k = if looks_back o then k.symbols else whole.names

abbrev pub fault_by : Option Operation → Whole → Known → List ℕ → ℕ
fault_by None whole k card = 1
fault_by (Some end) whole k card =
    fault_with whole.names (length whole.literals) (start_is_outside whole k (field_for end card)) k end card (field_for end card)
fault_by (Some o) whole k card = fault_with (names_for o whole k) 0 false k o card (field_for o card)

-- the least fault of a card, 0 where there is none; of a comment only its characters can be at fault
abbrev pub fault_of : Whole → Known → List ℕ → ℕ
fault_of whole k card = if is_comment card then (if is_bad card then 2 else 0) else fault_by (operation_named (operation_of card)) whole k card

-- a card's number and its fault, if it has one
abbrev pub fault_entry : ℕ → ℕ → List (ℕ × ℕ)
fault_entry n zero = []
fault_entry n (suc f) = (n, suc f) ∷ []

abbrev pub faults_from : Whole → ℕ → Known → List (List ℕ) → List (ℕ × ℕ)
faults_from whole n k [] = []
faults_from whole n k (card ∷ cards) = fault_entry n (fault_of whole k card) ++ faults_from whole (suc n) (known_behind k card) cards

-- the faults of all cards, with the missing END's on the card behind the last one
abbrev pub faults_of : List (List ℕ) → List (ℕ × ℕ)
faults_of cards =
    faults_from (whole_of cards) 1 nothing_known (cards_read cards) ++ (if has_end cards then [] else (length cards + 1, 6) ∷ [])

-- words with their places

abbrev pub index_from : ℕ → List ℕ → ℕ → ℕ
index_from n [] w = n
index_from n (x ∷ xs) w = if nat_eq x w then n else index_from (suc n) xs w

abbrev pub address_value : Whole → ℕ → Address → ℕ
address_value whole place (plain ts) = or_zero (value_of whole.names place ts)
address_value whole place (literal w) = (whole.end_place + index_from 0 whole.literals w) % 2 ^ 15

abbrev pub instruction : Op → Bool → ℕ → ℕ → ℕ → Instr
instruction o flag tag address decrement = record { op = o; flag = flag; tag = tag; address = address; decrement = decrement }

-- the word of an instruction with this field
abbrev pub machine_word : Whole → ℕ → Op → Bool → Option Field → ℕ
machine_word whole place o flag (Some (placed a tag decrement)) =
    encoded (instruction o flag (or_zero (value_of whole.names place tag)) (address_value whole place a) (or_zero (value_of whole.names place decrement)))
machine_word whole place o flag (Some (half n)) = encoded (instruction o flag (n / 2 ^ 15) (n % 2 ^ 15) 0)
machine_word whole place o flag f = encoded (instruction o flag 0 0 0)

-- prefix zero
abbrev pub plain_word : Whole → ℕ → Option Field → ℕ
plain_word whole place (Some (placed a tag decrement)) =
    or_zero (value_of whole.names place decrement) * 2 ^ 18 + or_zero (value_of whole.names place tag) * 2 ^ 15 + address_value whole place a
plain_word whole place f = 0

abbrev pub given_words : Option Field → List ℕ
given_words (Some (words ws)) = ws
given_words f = []

-- the words of a card
abbrev pub words_by : Whole → Known → Option Operation → List ℕ → List ℕ
words_by whole k None card = []
words_by whole k (Some (machine o)) card = machine_word whole k.place o (flag_of card) (field_for (machine o) card) ∷ []
words_by whole k (Some pze) card = plain_word whole k.place (field_for pze card) ∷ []
words_by whole k (Some dec) card = given_words (field_for dec card)
words_by whole k (Some oct) card = given_words (field_for oct card)
words_by whole k (Some bci) card = given_words (field_for bci card)
words_by whole k (Some o) card = []

-- segments: runs of words at successive places, each of at most 4096

pub record Segment : Type 0 where
  pub first : ℕ
  pub words : List ℕ

abbrev pub max_run : ℕ
max_run = 4096

-- a word more behind the last segment, or a segment of its own
abbrev pub add_word : List Segment → ℕ → ℕ → List Segment
add_word [] place w = record { first = place; words = w ∷ [] } ∷ []
add_word (s ∷ []) place w =
    if nat_eq (s.first + length s.words) place && nat_lt (length s.words) max_run then record { first = s.first; words = s.words ++ w ∷ [] } ∷ []
    else s ∷ record { first = place; words = w ∷ [] } ∷ []
add_word (s ∷ t ∷ ss) place w = s ∷ add_word (t ∷ ss) place w

-- words at successive places from one on
abbrev pub add_words : List Segment → ℕ → List ℕ → List Segment
add_words ss place [] = ss
add_words ss place (w ∷ ws) = add_words (add_word ss place w) (suc place) ws

abbrev pub segments_from : Whole → List Segment → Known → List (List ℕ) → List Segment
segments_from whole ss k [] = ss
segments_from whole ss k (card ∷ cards) =
    segments_from whole (add_words ss k.place (words_by whole k (operation_in card) card)) (known_behind k card) cards

-- all segments in card order, the literals behind the last card
abbrev pub segments_of : List (List ℕ) → List Segment
segments_of cards =
    let whole = whole_of cards in
    add_words (segments_from whole [] nothing_known (cards_before_end cards)) whole.end_place whole.literals

abbrev pub segment_words : List Segment → List ℕ
segment_words [] = []
segment_words (s ∷ ss) = (length s.words * 2 ^ 18 + s.first) ∷ (s.words ++ segment_words ss)

-- the start that the END card says
abbrev pub start_in : Whole → Known → Option Field → ℕ
start_in whole k (Some (value ts)) = or_zero (value_of whole.names k.place ts)
start_in whole k f = 0

abbrev pub start_from : Whole → Known → List (List ℕ) → ℕ
start_from whole k [] = 0
start_from whole k (card ∷ cards) =
    if is_end (operation_in card) then start_in whole k (field_for end card) else start_from whole (known_behind k card) cards

-- a deck, or the faulty cards with their faults
pub data Assembled : Type 0 where
  deck : List ℕ → Assembled
  faulty : List (ℕ × ℕ) → Assembled

-- start and blocks in the first word, then the segments
abbrev pub deck_words : List (List ℕ) → List ℕ
deck_words cards =
    let whole = whole_of cards in
    (start_from whole nothing_known cards * 2 ^ 18 + whole.blocks) ∷ segment_words (segments_of cards)

abbrev pub assembled_by : List (ℕ × ℕ) → List (List ℕ) → Assembled
assembled_by [] cards = deck (deck_words cards)
assembled_by (f ∷ fs) cards = faulty (f ∷ fs)

unfoldable pub assembled : List (List ℕ) → Assembled
assembled cards = assembled_by (faults_of cards) cards
