-- The law of linked decks, as far as its parts are there.
use Rattle.std.proofs.Common.{◌≡◌, ℕ, ◌+◌, ◌%◌, ◌^◌, ◌<◌, ◌≤◌, Bool, true, false, if◌then◌else◌, nat_lt, List, [], ◌∷◌, length, map, get_or, nat_eq, All, refl, sym, ap, ◌∙◌, subst, arith, ltb-false, Option, Some, None, zero-add}
use Rattle.std.proofs.lemmas.List.{length-map}
use Rattle.std.proofs.lemmas.List.Elements.{All-nil, All-cons, All-head, All-tail, All-append}
use Rattle.program_model.specs.Decks as program
use Rattle.fap_model.specs.Places.{max_place, value_in, or_zero}
use Rattle.fap_model.specs.Decks.{Segment}
use Rattle.link_model.specs.declared.types.Module.{Module}
use Rattle.link_model.specs.declared.types.ModuleEntry.{ModuleEntry}
use Rattle.link_model.specs.Links.{places_of_all, entered, linked_word, entered_from, repeated_in, missing_in, externs_of_all, linked_from, linked_deck, if_none_missing, if_none_repeated, Linked, deck, too_large, doubly, undefined, link_of}
use Rattle.link_model.specs.ModuleCards.{module_made, relocatable}
use Rattle.link_model.specs.Laid.{laid_at}
use Rattle.rule_laws.specs.Decks.{NoneCovers}
use Rattle.rule_laws.specs.Linked.{AreMade, laid_all, HoldsJust, core_of, DeckIsLinked}
use Rattle.rule_laws.proofs.Spreads.{Spread, spread_append, spread_words, spread_zeros}
use Rattle.rule_laws.proofs.Cores.{core_is}
use Rattle.rule_laws.proofs.Made.{module_is_spread}
use Rattle.rule_laws.proofs.Starts.{deck_is_read}

-- what a deck that is linked is
pub record IsDeck (modules : List Module) (words : List ℕ) : Type 0 where
  pub small : places_of_all modules ≤ 32768
  pub words_are : words ≡ linked_deck (entered_from 0 modules) modules
  pub once : repeated_in [] (entered_from 0 modules) ≡ None
  pub there : missing_in (entered_from 0 modules) (externs_of_all modules) ≡ None

abbrev deck_in : Linked → List ℕ
deck_in (deck words) = words
deck_in too_large = []
deck_in (doubly name) = []
deck_in (undefined name) = []

pub linked_so : (modules : List Module) (words : List ℕ) → link_of modules ≡ deck words → IsDeck modules words
unfolding link_of
linked_so modules words h = by_size (nat_lt max_place (places_of_all modules)) refl h
  where
    by_missing : (o : Option ℕ) → missing_in (entered_from 0 modules) (externs_of_all modules) ≡ o → repeated_in [] (entered_from 0 modules) ≡ None
        → places_of_all modules ≤ 32768 → if_none_missing o (entered_from 0 modules) modules ≡ deck words → IsDeck modules words
    by_missing (Some name) e once small is = absurd cc
    by_missing None e once small is = record { small = small; words_are = sym (ap deck_in is); once = once; there = e }

    by_repeated : (o : Option ℕ) → repeated_in [] (entered_from 0 modules) ≡ o → places_of_all modules ≤ 32768
        → if_none_repeated o (entered_from 0 modules) modules ≡ deck words → IsDeck modules words
    by_repeated (Some name) e small is = absurd cc
    by_repeated None e small is = by_missing (missing_in (entered_from 0 modules) (externs_of_all modules)) refl e small is

    by_size : (b : Bool) → nat_lt max_place (places_of_all modules) ≡ b
        → (if b then too_large else if_none_repeated (repeated_in [] (entered_from 0 modules)) (entered_from 0 modules) modules) ≡ deck words
        → IsDeck modules words
    by_size true e is = absurd cc
    by_size false e is =
        by_repeated (repeated_in [] (entered_from 0 modules)) refl (ltb-false max_place (places_of_all modules) e) is

-- a core that has the linked words holds the segments that they spread
pub holds : (modules : List Module) (words : List ℕ) (segments : List Segment) → IsDeck modules words
    → Spread 0 segments (linked_from 0 (entered_from 0 modules) modules) → HoldsJust segments (core_of (places_of_all modules) words)
holds modules words segments d spread =
    record {
      words =
          λ before after s k e below.
          let place : s.first + k ≡ 0 + (s.first + k) = sym (zero-add (s.first + k)) in
          core_at (s.first + k)
          ∙ spread_words 0 before after s (linked_from 0 (entered_from 0 modules) modules) k (s.first + k)
          (subst (λ (l : List Segment). Spread 0 l (linked_from 0 (entered_from 0 modules) modules)) e spread) below place;
      zeros =
          λ place none.
          core_at place
          ∙ spread_zeros 0 segments (linked_from 0 (entered_from 0 modules) modules) place spread
          (subst (λ (p : ℕ). NoneCovers segments p) (sym (zero-add place)) none);
    }
  where
    core_at : (place : ℕ) → get_or (core_of (places_of_all modules) words) place 0 ≡ get_or (linked_from 0 (entered_from 0 modules) modules) place 0
    core_at place =
        ap (λ (l : List ℕ). get_or (core_of (places_of_all modules) l) place 0) d.words_are ∙ core_is (entered_from 0 modules) modules place d.small

-- What the law still needs: the words of a module of cards, linked from a place on, are its cards' words where it comes to
-- lie.
abbrev pub ModuleIsSpread : Type 0
ModuleIsSpread =
    (cards : List (List ℕ)) (m : Module) (base : ℕ) (entries : List (ℕ × ℕ)) → ((name : ℕ) → or_zero (value_in entries name) < 2 ^ 15)
    → module_made cards ≡ relocatable m → base + length m.places ≤ 32768
    → Spread base (laid_at cards base entries) (map (linked_word base entries m.externs) m.places)

-- modules one behind the other
modules_spread : ModuleIsSpread → (entries : List (ℕ × ℕ)) → ((name : ℕ) → or_zero (value_in entries name) < 2 ^ 15)
    → (base : ℕ) (all : List (List (List ℕ))) (modules : List Module) → AreMade all modules → base + places_of_all modules ≤ 32768
    → Spread base (laid_all base entries all modules) (linked_from base entries modules)
modules_spread law entries small base [] [] made room = (0, refl)
modules_spread law entries small base [] (m ∷ modules) made room = absurd made
modules_spread law entries small base (cards ∷ all) [] made room = absurd made
modules_spread law entries small base (cards ∷ all) (m ∷ modules) made room =
    let first : base + length m.places ≤ 32768 = omega (arith, room) in
    let rest : base + length m.places + places_of_all modules ≤ 32768 = omega (arith, room) in
    let size : length (map (linked_word base entries m.externs) m.places) ≡ length m.places = length-map m.places (linked_word base entries m.externs) in
    spread_append base (laid_at cards base entries) (laid_all (base + length m.places) entries all modules)
    (map (linked_word base entries m.externs) m.places) (linked_from (base + length m.places) entries modules)
    (law cards m base entries small made.0 first)
    (subst (λ (n : ℕ). Spread (base + n) (laid_all (base + length m.places) entries all modules) (linked_from (base + length m.places) entries modules)) (sym size)
    (modules_spread law entries small (base + length m.places) all modules made.1 rest))

-- entries are places
entered_small : (entries : List (ℕ × ℕ)) → All (λ (e : ℕ × ℕ). e.1 < 2 ^ 15) entries → (name : ℕ) → or_zero (value_in entries name) < 2 ^ 15
entered_small [] h name = omega arith
entered_small (e ∷ entries) h name =
    by_test (nat_eq name e.0) refl (entered_small entries (All-tail (λ (e : ℕ × ℕ). e.1 < 2 ^ 15) e entries h) name)
  where
    by_test : (b : Bool) → nat_eq name e.0 ≡ b → or_zero (value_in entries name) < 2 ^ 15 → or_zero (value_in (e ∷ entries) name) < 2 ^ 15
    by_test true t rest = rw t (All-head (λ (e : ℕ × ℕ). e.1 < 2 ^ 15) e entries h)
    by_test false t rest = rw t rest

one_small : (base : ℕ) (entries : List ModuleEntry) → All (λ (e : ℕ × ℕ). e.1 < 2 ^ 15) (entered base entries)
one_small base [] = All-nil (λ (e : ℕ × ℕ). e.1 < 2 ^ 15)
one_small base (e ∷ entries) =
    All-cons (λ (e : ℕ × ℕ). e.1 < 2 ^ 15) (e.name, (base + e.place) % 2 ^ 15) (entered base entries) (omega arith) (one_small base entries)

all_small : (base : ℕ) (modules : List Module) → All (λ (e : ℕ × ℕ). e.1 < 2 ^ 15) (entered_from base modules)
all_small base [] = All-nil (λ (e : ℕ × ℕ). e.1 < 2 ^ 15)
all_small base (m ∷ modules) =
    All-append (λ (e : ℕ × ℕ). e.1 < 2 ^ 15) (entered base m.entries) (entered_from (base + length m.places) modules) (one_small base m.entries)
    (all_small (base + length m.places) modules)

-- and so the law follows from that
pub deck_is_linked_by : ModuleIsSpread → DeckIsLinked
deck_is_linked_by law all modules words made linked =
    let d : IsDeck modules words = linked_so modules words linked in
    let room : 0 + places_of_all modules ≤ 32768 = omega (arith, d.small) in
    record {
      said =
          λ quota. ap (λ (l : List ℕ). program.deck_in quota l) d.words_are ∙ deck_is_read (entered_from 0 modules) all modules made d.small quota;
      core =
          holds modules words (laid_all 0 (entered_from 0 modules) all modules) d
          (modules_spread law (entered_from 0 modules) (entered_small (entered_from 0 modules) (all_small 0 modules)) 0 all modules made room);
    }

pub deck_is_linked : DeckIsLinked
deck_is_linked = deck_is_linked_by module_is_spread
