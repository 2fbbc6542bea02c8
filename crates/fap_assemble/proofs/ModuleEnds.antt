-- A module's END takes no place, and what the passes come to is the definition's module.
use Rattle.std.proofs.Common.{◌≡◌, ℕ, suc, ◌+◌, ◌<◌, ◌≤◌, Bool, true, false, List, [], ◌∷◌, ◌++◌, length, get_or, map, Option, Some, None, is_none, refl, sym, ap, ◌∙◌, arith, nat_lt, if◌then◌else◌, true≢false, codes}
use Rattle.std.proofs.lemmas.Bool.Decides.{nat_tests}
use Rattle.std.specs.Option.{option_map}
use Rattle.fap_read.specs.declared.card.Card.{Card}
use Rattle.fap_model.specs.Cards.{is_comment}
use Rattle.fap_model.specs.declared.types.Operation.{Operation}
use Rattle.fap_model.specs.declared.types.Operation.TheVariants.{Machine as machine, Pze as pze, Org as org, Bss as bss, Equ as equ, Dec as dec, Oct as oct, Bci as bci, End as end}
use Rattle.fap_model.specs.Statements as says
use Rattle.fap_model.specs.Places.{Known, max_place}
use Rattle.fap_model.specs.Decks.{is_end, operation_in, cards_read, cards_before_end, has_end, literals_with, blocks_for, start_in}
use Rattle.link_model.specs.Weights.{with_externs}
use Rattle.link_model.specs.declared.types.Module.{Module}
use Rattle.link_model.specs.declared.types.ModulePlace.{ModulePlace}
use Rattle.link_model.specs.declared.types.ModuleEntry.{ModuleEntry}
use Rattle.link_model.specs.Moves.{Moved, nothing_moved, without_org, module_operation, early_kind, moved_size, moved_with, moved_behind, moved_after}
use Rattle.link_model.specs.ModuleCards.{Relocated, relocated_of, named_by, module_faults_from, module_faults, cells_by, cells_from, cell, entries_of, module_start, module_of_cards, relocatable, faulty, module_made}
use Rattle.fap_assemble.specs.declared.field.Said.{Said}
use Rattle.fap_assemble.specs.Fields.{said, number}
use Rattle.fap_assemble.specs.Steps.{texts}
use Rattle.fap_assemble.specs.Answers.{end_index, missing_end}
use Rattle.fap_assemble.specs.ModuleFollows.{told_by}
use Rattle.fap_assemble.proofs.Reading.{no_both, end_needed, has_none, texts_length, said_start}
use Rattle.fap_assemble.proofs.KindsFew.{externs_few}

-- an END takes no place

abbrev none_either : Bool → Bool → ℕ
none_either a b = if a then (if b then 0 else 0) else 0

no_more : (a b : Bool) → none_either a b ≡ 0
no_more true true = refl
no_more true false = refl
no_more false b = refl

abbrev end_by : ℕ → Bool → ℕ
end_by place b = if nat_lt (place + (if b then 0 else 0)) max_place then (if b then 0 else 0) else 0

end_size_by : (externs : List ℕ) (m : Moved) (o : Option Operation) (card : List ℕ) → is_end o ≡ true → moved_size externs m (without_org o) card ≡ 0
end_size_by externs m None card h = refl
end_size_by externs m (Some (machine o)) card h = absurd (true≢false (sym h))
end_size_by externs m (Some pze) card h = absurd (true≢false (sym h))
end_size_by externs m (Some org) card h = refl
end_size_by externs m (Some bss) card h = absurd (true≢false (sym h))
end_size_by externs m (Some equ) card h = absurd (true≢false (sym h))
end_size_by externs m (Some dec) card h = absurd (true≢false (sym h))
end_size_by externs m (Some oct) card h = absurd (true≢false (sym h))
end_size_by externs m (Some bci) card h = absurd (true≢false (sym h))
end_size_by externs m (Some end) card h = by (is_none (early_kind externs m end card))
  where
    by : (b : Bool) → end_by m.known.place b ≡ 0
    by true = no_more (nat_lt (m.known.place + 0) max_place) true
    by false = no_more (nat_lt (m.known.place + 0) max_place) false

end_cells_by : (r : Relocated) (m : Moved) (o : Option Operation) (card : List ℕ) → is_end o ≡ true → cells_by r m (without_org o) card ≡ []
end_cells_by r m None card h = refl
end_cells_by r m (Some (machine o)) card h = absurd (true≢false (sym h))
end_cells_by r m (Some pze) card h = absurd (true≢false (sym h))
end_cells_by r m (Some org) card h = refl
end_cells_by r m (Some bss) card h = absurd (true≢false (sym h))
end_cells_by r m (Some equ) card h = absurd (true≢false (sym h))
end_cells_by r m (Some dec) card h = absurd (true≢false (sym h))
end_cells_by r m (Some oct) card h = absurd (true≢false (sym h))
end_cells_by r m (Some bci) card h = absurd (true≢false (sym h))
end_cells_by r m (Some end) card h = refl

place_at : (externs : List ℕ) (m : Moved) (card : List ℕ) → moved_size externs m (module_operation card) card ≡ 0 → (moved_behind externs m card).known.place ≡ m.known.place
place_at externs m card h = by (is_comment card)
  where
    by : (b : Bool) → (if b then m else moved_with externs m (module_operation card) card).known.place ≡ m.known.place
    by true = refl
    by false = omega (arith, h)

place_case : (externs : List ℕ) (m : Moved) (card : List ℕ) (cards : List (List ℕ)) (b : Bool) → is_end (operation_in card) ≡ b
    → (moved_after externs (moved_behind externs m card) (cards_read cards)).known.place ≡ (moved_after externs (moved_behind externs m card) (cards_before_end cards)).known.place
    → (moved_after externs m (if b then card ∷ [] else card ∷ cards_read cards)).known.place ≡ (moved_after externs m (if b then [] else card ∷ cards_before_end cards)).known.place
place_case externs m card cards true e ih = place_at externs m card (end_size_by externs m (operation_in card) card e)
place_case externs m card cards false e ih = ih

place_same : (externs : List ℕ) (m : Moved) (cards : List (List ℕ)) → (moved_after externs m (cards_read cards)).known.place ≡ (moved_after externs m (cards_before_end cards)).known.place
place_same externs m [] = refl
place_same externs m (card ∷ cards) = place_case externs m card cards (is_end (operation_in card)) refl (place_same externs (moved_behind externs m card) cards)

cells_case : (r : Relocated) (m : Moved) (card : List ℕ) (cards : List (List ℕ)) (b : Bool) → is_end (operation_in card) ≡ b
    → cells_from r (moved_behind r.externs m card) (cards_read cards) ≡ cells_from r (moved_behind r.externs m card) (cards_before_end cards)
    → cells_from r m (if b then card ∷ [] else card ∷ cards_read cards) ≡ cells_from r m (if b then [] else card ∷ cards_before_end cards)
cells_case r m card cards true e ih = ap (λ (ps : List ModulePlace). ps ++ []) (end_cells_by r m (operation_in card) card e)
cells_case r m card cards false e ih = ap (λ (ps : List ModulePlace). cells_by r m (module_operation card) card ++ ps) ih

cells_before : (r : Relocated) (m : Moved) (cards : List (List ℕ)) → cells_from r m (cards_read cards) ≡ cells_from r m (cards_before_end cards)
cells_before r m [] = refl
cells_before r m (card ∷ cards) = cells_case r m card cards (is_end (operation_in card)) refl (cells_before r (moved_behind r.externs m card) cards)

-- what all cards tell

abbrev told_at : List (List ℕ) → ℕ → Relocated
told_at read place =
    let externs = named_by (codes "EXTERN") read in
    let all = moved_after externs nothing_moved read in
    let literals = literals_with [] read in
    record {
      whole = record { names = with_externs externs all.known.symbols; literals = literals; end_place = place; blocks = blocks_for (place + length literals) };
      weights = with_externs externs all.weights;
      equs = all.equs;
      externs = externs;
    }

pub told_is : (r : Relocated) (cards read : List (List ℕ)) → r ≡ told_by read → read ≡ cards_read cards → r ≡ relocated_of cards
told_is r cards read h e =
    h ∙ ap told_by e ∙ ap (told_at (cards_read cards)) (place_same (named_by (codes "EXTERN") (cards_read cards)) nothing_moved cards)

-- the faults of all cards

pub all_faults : (cards : List Card) (r : Relocated) (read : List (List ℕ)) (fs gs : List (ℕ × ℕ)) → r ≡ relocated_of (texts cards) → read ≡ cards_read (texts cards)
    → fs ≡ module_faults_from r 1 nothing_moved [] read → gs ≡ fs ++ missing_end cards → gs ≡ module_faults (texts cards)
all_faults cards r read fs gs w e f g =
    let long : length (texts cards) ≡ length cards = texts_length cards in
    rw (g, f, w, e, long) refl

pub sound_end : (cards : List Card) → module_faults (texts cards) ≡ [] → end_index cards < length cards
sound_end cards h =
    let there : has_end (texts cards) ≡ true
    = end_needed (length (texts cards) + 1) (has_end (texts cards))
    (no_both (module_faults_from (relocated_of (texts cards)) 1 nothing_moved [] (cards_read (texts cards))) (if has_end (texts cards) then [] else (length (texts cards) + 1, 6) ∷ []) h).1 in
    by (nat_lt (end_index cards) (length cards)) refl there
  where
    by : (b : Bool) → nat_lt (end_index cards) (length cards) ≡ b → has_end (texts cards) ≡ true → end_index cards < length cards
    by true e t = grind (arith, nat_tests)
    by false e t = absurd (true≢false (sym t ∙ has_none cards (grind (arith, nat_tests))))

pub sound_cards : (cards read : List (List ℕ)) (r : Relocated) → r ≡ relocated_of cards → read ≡ cards_read cards → module_faults cards ≡ [] → module_faults_from r 1 nothing_moved [] read ≡ []
sound_cards cards read r w e h =
    rw (w, e) (no_both (module_faults_from (relocated_of cards) 1 nothing_moved [] (cards_read cards)) (if has_end cards then [] else (length cards + 1, 6) ∷ []) h).0

pub few_externs : (cards read : List (List ℕ)) (r : Relocated) → r ≡ relocated_of cards → read ≡ cards_read cards → module_faults cards ≡ [] → length r.externs ≤ 32768
few_externs cards read r w e h =
    let few : length (named_by (codes "EXTERN") (cards_read cards)) ≤ 32766
    = externs_few (relocated_of cards) nothing_moved (cards_read cards)
    (no_both (module_faults_from (relocated_of cards) 1 nothing_moved [] (cards_read cards)) (if has_end cards then [] else (length cards + 1, 6) ∷ []) h).0 in
    rw w (omega (arith, few))

-- the start

start_case : (r : Relocated) (m : Moved) (d c : Card) (cards : List Card) (b : Bool) → is_end (operation_in d.text) ≡ b
    → (c ≡ get_or cards (end_index cards) c → end_index cards < length cards
    → module_start r (moved_behind r.externs m d.text) (texts cards)
    ≡ start_in r.whole (moved_after r.externs (moved_behind r.externs m d.text) (cards_before_end (texts cards))).known (says.field_for end c.text))
    → c ≡ get_or (d ∷ cards) (end_index (d ∷ cards)) c → end_index (d ∷ cards) < length (d ∷ cards)
    → module_start r m (texts (d ∷ cards)) ≡ start_in r.whole (moved_after r.externs m (cards_before_end (texts (d ∷ cards)))).known (says.field_for end c.text)
start_case r m d c cards true e ih = rw e (λ i h. ap (λ (x : Card). start_in r.whole m.known (says.field_for end x.text)) (sym i))
start_case r m d c cards false e ih =
    rw e (λ i h. let more : 1 + end_index cards ≡ suc (end_index cards) = omega arith in ih (i ∙ ap (λ (n : ℕ). get_or (d ∷ cards) n c) more) (omega arith))

start_at : (r : Relocated) (m : Moved) (c : Card) (cards : List Card) → c ≡ get_or cards (end_index cards) c → end_index cards < length cards
    → module_start r m (texts cards) ≡ start_in r.whole (moved_after r.externs m (cards_before_end (texts cards))).known (says.field_for end c.text)
start_at r m c [] i h = absurd (omega arith)
start_at r m c (d ∷ cards) i h = start_case r m d c cards (is_end (operation_in d.text)) refl (start_at r (moved_behind r.externs m d.text) c cards) i h

pub start_read : (r : Relocated) (cards : List Card) (index : ℕ) (c : Card) (text : List ℕ) (s : Option Said) → r ≡ relocated_of (texts cards) → index ≡ end_index cards → index < length cards
    → c ≡ get_or cards index c → text ≡ c.text → s ≡ option_map (said r.whole.names r.whole.end_place) (says.field_for end text)
    → number s ≡ module_start r nothing_moved (texts cards)
start_read r cards index c text s e x h i t q =
    let k : Known = (moved_after r.externs nothing_moved (cards_before_end (texts cards))).known in
    let place : r.whole.end_place ≡ (moved_after r.externs nothing_moved (cards_before_end (texts cards))).known.place
    = ap (λ (y : Relocated). y.whole.end_place) e ∙ sym (ap (λ (y : Relocated). (moved_after y.externs nothing_moved (cards_before_end (texts cards))).known.place) e) in
    let read : number s ≡ start_in r.whole (moved_after r.externs nothing_moved (cards_before_end (texts cards))).known (says.field_for end c.text)
    = rw (q, t, place) (said_start r.whole (moved_after r.externs nothing_moved (cards_before_end (texts cards))).known (says.field_for end c.text)) in
    read ∙ sym (start_at r nothing_moved c cards (i ∙ ap (λ (n : ℕ). get_or cards n c) x) (omega (arith, x, h)))

-- the module, and the answers

pub module_is : (r : Relocated) (cards read : List (List ℕ)) (start : ℕ) (entries : List ModuleEntry) (externs : List ℕ) (places : List ModulePlace) → r ≡ relocated_of cards
    → read ≡ cards_read cards → start ≡ module_start r nothing_moved cards → entries ≡ entries_of r read → externs ≡ r.externs
    → places ≡ cells_from r nothing_moved read ++ map (cell 0) r.whole.literals
    → record { start = start; entries = entries; externs = externs; places = places } ≡ module_of_cards cards
module_is r cards read start entries externs places w e a b d p =
    rw (a, b, d, p, e, cells_before r nothing_moved cards, w) refl

pub module_said : (cards : List (List ℕ)) (fs : List (ℕ × ℕ)) (m : Module) → fs ≡ module_faults cards → length fs ≡ 0 → m ≡ module_of_cards cards → module_made cards ≡ relocatable m
unfolding module_made
module_said cards [] m f h w = rw (sym f, w) refl
module_said cards (x ∷ fs) m f h w = absurd (omega arith)

pub no_faults : (fs : List (ℕ × ℕ)) (cards : List (List ℕ)) → fs ≡ module_faults cards → length fs ≡ 0 → module_faults cards ≡ []
no_faults [] cards f h = sym f
no_faults (x ∷ fs) cards f h = absurd (omega arith)

pub faulty_said : (cards : List (List ℕ)) (fs : List (ℕ × ℕ)) → fs ≡ module_faults cards → 0 < length fs → module_made cards ≡ faulty fs
unfolding module_made
faulty_said cards [] f h = absurd (omega arith)
faulty_said cards (x ∷ fs) f h = rw (sym f) refl
