-- Words as pairs, and pairs as words.
use Rattle.std.proofs.Common.{◌≡◌, ℕ, ◌+◌, ◌*◌, ◌^◌, ◌<◌, ◌≤◌, Bool, true, ◌&&◌, if◌then◌else◌, nat_le, nat_lt, List, [], ◌∷◌, ◌++◌, length, take, drop, get_or, Some, None, refl, sym, ap, ◌∙◌, arith, append_assoc, length-append, leb-true, ltb-true, eq-eqb}
use Rattle.std.proofs.lemmas.Bool.{and_parts}
use Rattle.std.proofs.lemmas.List.{append-nil, drop_more}
use Rattle.std.proofs.Math.Seq.{take-append_seam, drop-append_seam}
use Rattle.std.specs.List.{list_all}
use Rattle.word36.specs.Bits.{address_of, decrement_of}
use Rattle.fap_model.specs.Decks.{blocks_for}
use Rattle.link_model.specs.declared.types.Module.{Module}
use Rattle.link_model.specs.declared.types.ModuleEntry.{ModuleEntry}
use Rattle.link_model.specs.declared.types.ModulePlace.{ModulePlace}
use Rattle.link_model.specs.Modules.{pair_word, entry_words, place_words, module_words, entries_in, places_in, module_in, has_length, is_bounded, if_bounded, module_of_words, is_module}

-- one pair more

pub entry_read : (entries new : List ModuleEntry) (name w : ℕ) (more words : List ℕ) (total : List ModuleEntry) → words ≡ name ∷ w ∷ more
    → new ≡ entries ++ record { name = name; place = address_of w } ∷ [] → entries ++ entries_in words ≡ total → new ++ entries_in more ≡ total
entry_read entries new name w more words total e n h =
    ap (λ (l : List ModuleEntry). l ++ entries_in more) n
    ∙ append_assoc entries (record { name = name; place = address_of w } ∷ []) (entries_in more)
    ∙ sym (ap (λ (l : List ℕ). entries ++ entries_in l) e) ∙ h

pub place_read : (places new : List ModulePlace) (k w : ℕ) (more words : List ℕ) (total : List ModulePlace) → words ≡ k ∷ w ∷ more
    → new ≡ places ++ record { kind = address_of k; word = w } ∷ [] → places ++ places_in words ≡ total → new ++ places_in more ≡ total
place_read places new k w more words total e n h =
    ap (λ (l : List ModulePlace). l ++ places_in more) n
    ∙ append_assoc places (record { kind = address_of k; word = w } ∷ []) (places_in more)
    ∙ sym (ap (λ (l : List ℕ). places ++ places_in l) e) ∙ h

-- no pair more
pub entries_done : (entries total : List ModuleEntry) (words : List ℕ) → length words < 2 → entries ++ entries_in words ≡ total → entries ≡ total
entries_done entries total [] h e = sym (append-nil entries) ∙ e
entries_done entries total (w ∷ []) h e = sym (append-nil entries) ∙ e
entries_done entries total (w ∷ v ∷ words) h e = absurd (omega (arith, h))

pub places_done : (places total : List ModulePlace) (words : List ℕ) → length words < 2 → places ++ places_in words ≡ total → places ≡ total
places_done places total [] h e = sym (append-nil places) ∙ e
places_done places total (w ∷ []) h e = sym (append-nil places) ∙ e
places_done places total (w ∷ v ∷ words) h e = absurd (omega (arith, h))

-- one item more written

pub entry_written : (entries : List ModuleEntry) (i : ℕ) (e : ModuleEntry) (words once twice total : List ℕ) → i < length entries
    → e ≡ get_or entries i e → once ≡ words ++ e.name ∷ [] → twice ≡ once ++ e.place ∷ [] → words ++ entry_words (drop i entries) ≡ total
    → twice ++ entry_words (drop (i + 1) entries) ≡ total
entry_written entries i e words once twice total lt is a b h =
    let first : drop i entries ≡ e ∷ drop (i + 1) entries = drop_more entries i e lt ∙ ap (λ (x : ModuleEntry). x ∷ drop (i + 1) entries) (sym is) in
    let rest : List ℕ = entry_words (drop (i + 1) entries) in
    ap (λ (l : List ℕ). l ++ rest) b ∙ ap (λ (l : List ℕ). l ++ e.place ∷ [] ++ rest) a
    ∙ append_assoc (words ++ e.name ∷ []) (e.place ∷ []) rest ∙ append_assoc words (e.name ∷ []) (e.place ∷ rest)
    ∙ sym (ap (λ (l : List ModuleEntry). words ++ entry_words l) first) ∙ h

pub place_written : (places : List ModulePlace) (i : ℕ) (p : ModulePlace) (words once twice total : List ℕ) → i < length places
    → p ≡ get_or places i p → once ≡ words ++ p.kind ∷ [] → twice ≡ once ++ p.word ∷ [] → words ++ place_words (drop i places) ≡ total
    → twice ++ place_words (drop (i + 1) places) ≡ total
place_written places i p words once twice total lt is a b h =
    let first : drop i places ≡ p ∷ drop (i + 1) places = drop_more places i p lt ∙ ap (λ (x : ModulePlace). x ∷ drop (i + 1) places) (sym is) in
    let rest : List ℕ = place_words (drop (i + 1) places) in
    ap (λ (l : List ℕ). l ++ rest) b ∙ ap (λ (l : List ℕ). l ++ p.word ∷ [] ++ rest) a
    ∙ append_assoc (words ++ p.kind ∷ []) (p.word ∷ []) rest ∙ append_assoc words (p.kind ∷ []) (p.word ∷ rest)
    ∙ sym (ap (λ (l : List ModulePlace). words ++ place_words l) first) ∙ h

-- the round trip

pair_address : (d a : ℕ) → a < 2 ^ 15 → address_of (pair_word d a) ≡ a
pair_address d a h = omega (arith, h)

pair_decrement : (d a : ℕ) → d < 2 ^ 15 → a < 2 ^ 15 → decrement_of (pair_word d a) ≡ d
pair_decrement d a h k = omega (arith, h, k)

entries_back : (entries : List ModuleEntry) (bound : ℕ) → bound < 2 ^ 15 → list_all (λ (e : ModuleEntry). nat_le e.place bound) entries ≡ true
    → entries_in (entry_words entries) ≡ entries
entries_back [] bound small h = refl
entries_back (e ∷ entries) bound small h =
    let two = and_parts (nat_le e.place bound) (list_all (λ (e : ModuleEntry). nat_le e.place bound) entries) h in
    let low : e.place ≤ bound = leb-true e.place bound two.0 in
    let same : address_of e.place ≡ e.place = omega (arith, low, small) in
    rw (same, entries_back entries bound small two.1) refl

places_back : (places : List ModulePlace) → list_all (λ (p : ModulePlace). nat_lt p.kind 32768) places ≡ true → places_in (place_words places) ≡ places
places_back [] h = refl
places_back (p ∷ places) h =
    let two = and_parts (nat_lt p.kind 32768) (list_all (λ (p : ModulePlace). nat_lt p.kind 32768) places) h in
    let low : p.kind < 32768 = ltb-true p.kind 32768 two.0 in
    let same : address_of p.kind ≡ p.kind = omega (arith, low) in
    rw (same, places_back places two.1) refl

entry_length : (entries : List ModuleEntry) → length (entry_words entries) ≡ 2 * length entries
entry_length [] = refl
entry_length (e ∷ entries) = let rest : length (entry_words entries) ≡ 2 * length entries = entry_length entries in omega (arith, rest)

place_length : (places : List ModulePlace) → length (place_words places) ≡ 2 * length places
place_length [] = refl
place_length (p ∷ places) = let rest : length (place_words places) ≡ 2 * length places = place_length places in omega (arith, rest)

start_small : (start places : ℕ) → places ≤ 32767 → start < 256 * blocks_for places → start < 2 ^ 15
start_small start places h k = omega (arith, h, k)

-- what a module keeps that words can tell
record Kept (m : Module) : Type 0 where
  bounded : is_bounded m ≡ true
  few_entries : length m.entries ≤ 32767
  few_externs : length m.externs ≤ 32767
  few_places : length m.places ≤ 32767
  small_kinds : list_all (λ (p : ModulePlace). nat_lt p.kind 32768) m.places ≡ true

kept : (m : Module) → is_module m ≡ true → Kept m
kept m h =
    let a = and_parts (is_bounded m)
    (nat_le (length m.entries) 32767 && (nat_le (length m.externs) 32767 && (nat_le (length m.places) 32767
    && list_all (λ (p : ModulePlace). nat_lt p.kind 32768) m.places))) h in
    let b = and_parts (nat_le (length m.entries) 32767)
    (nat_le (length m.externs) 32767 && (nat_le (length m.places) 32767
    && list_all (λ (p : ModulePlace). nat_lt p.kind 32768) m.places)) a.1 in
    let c = and_parts (nat_le (length m.externs) 32767)
    (nat_le (length m.places) 32767 && list_all (λ (p : ModulePlace). nat_lt p.kind 32768) m.places) b.1 in
    let d = and_parts (nat_le (length m.places) 32767) (list_all (λ (p : ModulePlace). nat_lt p.kind 32768) m.places) c.1 in
    record {
      bounded = a.0;
      few_entries = leb-true (length m.entries) 32767 b.0;
      few_externs = leb-true (length m.externs) 32767 c.0;
      few_places = leb-true (length m.places) 32767 d.0;
      small_kinds = d.1;
    }

record Bounds (m : Module) : Type 0 where
  entries : list_all (λ (e : ModuleEntry). nat_le e.place (length m.places)) m.entries ≡ true
  start : m.start < 256 * blocks_for (length m.places)

bounds : (m : Module) → is_bounded m ≡ true → Bounds m
bounds m h =
    let a = and_parts (list_all (λ (e : ModuleEntry). nat_le e.place (length m.places)) m.entries)
    (list_all (λ (p : ModulePlace). nat_lt p.kind (2 + length m.externs)) m.places && nat_lt m.start (256 * blocks_for (length m.places))) h in
    let b = and_parts (list_all (λ (p : ModulePlace). nat_lt p.kind (2 + length m.externs)) m.places)
    (nat_lt m.start (256 * blocks_for (length m.places))) a.1 in
    record { entries = a.0; start = ltb-true m.start (256 * blocks_for (length m.places)) b.1 }

-- numbers of a module that its words can tell
pub record Small (m : Module) : Type 0 where
  pub start : m.start < 2 ^ 15
  pub entries : length m.entries < 2 ^ 15
  pub externs : length m.externs < 2 ^ 15
  pub places : length m.places < 2 ^ 15

pub small : (m : Module) → is_module m ≡ true → Small m
small m h =
    let k = kept m h in
    let b = bounds m k.bounded in
    record {
      start = start_small m.start (length m.places) k.few_places b.start;
      entries = omega (arith, k.few_entries);
      externs = omega (arith, k.few_externs);
      places = omega (arith, k.few_places);
    }

-- the words behind the first two
abbrev behind : Module → List ℕ
behind m = entry_words m.entries ++ (m.externs ++ place_words m.places)

made : ℕ → List ModuleEntry → List ℕ → List ModulePlace → Module
made start entries externs places = record { start = start; entries = entries; externs = externs; places = places }

read_back : (m : Module) → is_module m ≡ true → (first second : ℕ) → decrement_of first ≡ m.start → decrement_of second ≡ length m.entries
    → address_of second ≡ length m.externs → module_in first second (behind m) ≡ m
read_back m h first second start entries externs =
    let k = kept m h in
    let b = bounds m k.bounded in
    let pairs : 2 * decrement_of second ≡ length (entry_words m.entries) = ap (λ (n : ℕ). 2 * n) entries ∙ sym (entry_length m.entries) in
    let front : take (length (entry_words m.entries)) (behind m) ≡ entry_words m.entries = take-append_seam (entry_words m.entries) (m.externs ++ place_words m.places) in
    let back : drop (length (entry_words m.entries)) (behind m) ≡ m.externs ++ place_words m.places = drop-append_seam (entry_words m.entries) (m.externs ++ place_words m.places) in
    let names : take (length m.externs) (m.externs ++ place_words m.places) ≡ m.externs = take-append_seam m.externs (place_words m.places) in
    let last : drop (length m.externs) (m.externs ++ place_words m.places) ≡ place_words m.places = drop-append_seam m.externs (place_words m.places) in
    let less : length m.places < 2 ^ 15 = (small m h).places in
    rw (start, pairs, externs, front, back, names, last, entries_back m.entries (length m.places) less b.entries, places_back m.places k.small_kinds) refl

has_room : (m : Module) (first second : ℕ) → decrement_of second ≡ length m.entries → address_of second ≡ length m.externs
    → address_of first ≡ length m.places → has_length first second (behind m) ≡ true
has_room m first second entries externs places =
    let size : length (behind m) ≡ 2 * length m.entries + (length m.externs + 2 * length m.places) =
    length-append (entry_words m.entries) (m.externs ++ place_words m.places)
    ∙ ap (λ (n : ℕ). n + length (m.externs ++ place_words m.places)) (entry_length m.entries)
    ∙ ap (λ (n : ℕ). 2 * length m.entries + n) (length-append m.externs (place_words m.places) ∙ ap (λ (n : ℕ). length m.externs + n) (place_length m.places)) in
    let total : length (behind m) ≡ 2 * decrement_of second + address_of second + 2 * address_of first = omega (arith, size, entries, externs, places) in
    eq-eqb (length (behind m)) (2 * decrement_of second + address_of second + 2 * address_of first) total

-- what is written is read again
pub words_back : (m : Module) → is_module m ≡ true → module_of_words (module_words m) ≡ Some m
words_back m h =
    let s = small m h in
    let k = kept m h in
    let first : ℕ = pair_word m.start (length m.places) in
    let second : ℕ = pair_word (length m.entries) (length m.externs) in
    let start : decrement_of first ≡ m.start = pair_decrement m.start (length m.places) s.start s.places in
    let places : address_of first ≡ length m.places = pair_address m.start (length m.places) s.places in
    let entries : decrement_of second ≡ length m.entries = pair_decrement (length m.entries) (length m.externs) s.entries s.externs in
    let externs : address_of second ≡ length m.externs = pair_address (length m.entries) (length m.externs) s.externs in
    ap (λ (b : Bool). if b then if_bounded (module_in first second (behind m)) else None) (has_room m first second entries externs places)
    ∙ ap if_bounded (read_back m h first second start entries externs)
    ∙ ap (λ (b : Bool). if b then Some m else None) k.bounded

pub said_again : (m : Module) (words : List ℕ) → is_module m ≡ true → words ≡ module_words m → module_of_words words ≡ Some m
said_again m words h e = ap module_of_words e ∙ words_back m h
