-- The module of cards, linked, is those cards where they come to lie.
use Rattle.std.proofs.Common.{◌≡◌, ℕ, ◌+◌, ◌-◌, ◌<◌, ◌≤◌, Bool, true, false, if◌then◌else◌, List, [], ◌∷◌, ◌++◌, length, map, refl, sym, ap, ◌∙◌, subst, arith, append-nil, length-append}
use Rattle.std.proofs.lemmas.List.{length-map, map-append}
use Rattle.fap_model.specs.Places.{Known, known_behind, known_after}
use Rattle.fap_model.specs.Decks.{Whole, operation_in, is_end, cards_read, cards_before_end, has_end}
use Rattle.link_model.specs.declared.types.Module.{Module}
use Rattle.link_model.specs.declared.types.ModulePlace.{ModulePlace}
use Rattle.link_model.specs.Links.{linked_word}
use Rattle.link_model.specs.Moves.{Moved, nothing_moved, moved_behind, moved_after}
use Rattle.link_model.specs.ModuleCards.{Relocated, relocated_of, cell, cells_from, module_faults_from, module_faults, module_of_cards, ModuleMade, relocatable, faulty, module_by, module_made}
use Rattle.link_model.specs.Laid.{known_at_base, with_values, whole_at, laid_from, laid_at}
use Rattle.rule_laws.proofs.EndCards.{Ended, ended}
use Rattle.rule_laws.proofs.PlaceLaws.{known_append}
use Rattle.rule_laws.proofs.Spreads.{Spread, spread_append, spread_here}
use Rattle.rule_laws.proofs.Values.{Setting}
use Rattle.rule_laws.proofs.Places.{Behind}
use Rattle.rule_laws.proofs.Moves.{AreSmall}
use Rattle.rule_laws.proofs.CardWords.{Final, zero_cells}
use Rattle.rule_laws.proofs.Wholes.{AllCases, before_end, all_cases, all_behind, both_none}
use Rattle.rule_laws.proofs.Laid.{LaidCards, laid_cards, EndCase, end_case, EndFits, end_fits, end_step}

-- cards without a fault
pub record ModuleGood (cards : List (List ℕ)) : Type 0 where
  pub last : List ℕ
  pub last_is : is_end (operation_in last) ≡ true
  pub read : cards_read cards ≡ cards_before_end cards ++ last ∷ []
  pub cases : AllCases (relocated_of cards) nothing_moved [] (cards_before_end cards)
  pub end :
      EndCase (relocated_of cards) (moved_after (relocated_of cards).externs nothing_moved (cards_before_end cards)) ([] ++ cards_before_end cards) last

end_there : (b : Bool) (x : ℕ × ℕ) → (if b then [] else x ∷ []) ≡ [] → b ≡ true
end_there true x h = refl
end_there false x h = cc

pub module_good : (cards : List (List ℕ)) → module_faults cards ≡ [] → ModuleGood cards
module_good cards none =
    let r : Relocated = relocated_of cards in
    let two = both_none (module_faults_from r 1 nothing_moved [] (cards_read cards)) (if has_end cards then [] else (length cards + 1, 6) ∷ []) none in
    let e : Ended cards = ended cards (end_there (has_end cards) (length cards + 1, 6) two.1) in
    let faults : module_faults_from r 1 nothing_moved [] (cards_before_end cards ++ e.last ∷ []) ≡ [] =
    ap (λ (l : List (List ℕ)). module_faults_from r 1 nothing_moved [] l) (sym e.read) ∙ two.0 in
    let all = all_cases r 1 nothing_moved [] (cards_before_end cards) e.last (before_end cards) faults in
    record {
      last = e.last;
      last_is = e.last_is;
      read = e.read;
      cases = all.0;
      end = end_case r (moved_after r.externs nothing_moved (cards_before_end cards)) ([] ++ cards_before_end cards) e.last e.last_is all.1;
    }

-- where they come to lie

pub moved_append : (xs : List ℕ) (m : Moved) (a b : List (List ℕ)) → moved_after xs m (a ++ b) ≡ moved_after xs (moved_after xs m a) b
moved_append xs m [] b = refl
moved_append xs m (card ∷ a) b = moved_append xs (moved_behind xs m card) a b

start_behind : (base : ℕ) → Behind base nothing_moved (known_at_base base)
start_behind base = record { place = here base; symbols = refl; aligned = tt }
  where
    here : (b : ℕ) → b ≡ b + 0
    here b = omega arith

abbrev all_moved : List (List ℕ) → Moved
all_moved cards = moved_after (relocated_of cards).externs nothing_moved (cards_read cards)

abbrev pub setting_of : List (List ℕ) → ℕ → List (ℕ × ℕ) → Setting
setting_of cards base entries =
    record {
      base = base;
      entries = entries;
      externs = (relocated_of cards).externs;
      symbols = (all_moved cards).known.symbols;
      weights = (all_moved cards).weights;
    }

pub record LaidModule (cards : List (List ℕ)) (base : ℕ) (entries : List (ℕ × ℕ)) : Type 0 where
  pub ends : (whole_at cards base entries).end_place ≡ base + (relocated_of cards).whole.end_place
  pub laid :
      LaidCards (setting_of cards base entries) (relocated_of cards) nothing_moved (whole_at cards base entries) (known_at_base base) (cards_before_end cards)

pub laid_module : (cards : List (List ℕ)) (base : ℕ) (entries : List (ℕ × ℕ)) → AreSmall entries → ModuleGood cards
    → base + (relocated_of cards).whole.end_place ≤ 32768 → LaidModule cards base entries
laid_module cards base entries small g bound =
    let r : Relocated = relocated_of cards in
    let before : List (List ℕ) = cards_before_end cards in
    let m : Moved = moved_after (relocated_of cards).externs nothing_moved (cards_before_end cards) in
    let k : Known = known_after (known_at_base base) (cards_before_end cards) in
    let behind : Behind base m k = all_behind base entries r nothing_moved [] before (known_at_base base) small (start_behind base) g.cases bound in
    let last : Behind base (moved_behind r.externs m g.last) (known_behind k g.last) = end_step base r m ([] ++ before) g.last k behind g.end in
    let moved : all_moved cards ≡ moved_behind r.externs m g.last =
    ap (λ (l : List (List ℕ)). moved_after r.externs nothing_moved l) g.read ∙ moved_append r.externs nothing_moved before (g.last ∷ []) in
    let known : known_after (known_at_base base) (cards_read cards) ≡ known_behind k g.last =
    ap (λ (l : List (List ℕ)). known_after (known_at_base base) l) g.read ∙ known_append (known_at_base base) before (g.last ∷ []) in
    let all : Behind base (all_moved cards) (known_after (known_at_base base) (cards_read cards)) =
    subst (λ (n : Known). Behind base (all_moved cards) n) (sym known) (subst (λ (n : Moved). Behind base n (known_behind k g.last)) (sym moved) last) in
    let f : Final (setting_of cards base entries) r (whole_at cards base entries) =
    record {
      sound = record { aligned = all.aligned; small = small };
      externs = refl;
      weights = refl;
      twice =
          record {
            names = refl;
            names_too = ap (λ (l : List (ℕ × ℕ)). with_values entries r.externs l) all.symbols;
            literals = refl;
            ends = behind.place;
          };
    } in
    record {
      ends = behind.place;
      laid = laid_cards entries (setting_of cards base entries) r nothing_moved [] before (whole_at cards base entries) (known_at_base base) f small (start_behind base) g.cases bound;
    }

-- how many places a module has

no_entries : AreSmall []
no_entries name = omega arith

from_nothing : (n t : ℕ) → n ≡ t - 0 → n ≡ t
from_nothing n t h = omega (arith, h)

below_all : (p n : ℕ) → p + n < 32768 → 0 + p ≤ 32768
below_all p n h = omega (arith, h)

pub cells_size : (cards : List (List ℕ)) → ModuleGood cards
    → length (cells_from (relocated_of cards) nothing_moved (cards_before_end cards)) ≡ (relocated_of cards).whole.end_place
cells_size cards g =
    let r : Relocated = relocated_of cards in
    let m : Moved = moved_after (relocated_of cards).externs nothing_moved (cards_before_end cards) in
    let fits : EndFits r m = end_fits r m ([] ++ cards_before_end cards) g.last g.end in
    let l = laid_module cards 0 [] no_entries g (below_all r.whole.end_place (length r.whole.literals) fits.room) in
    from_nothing (length (cells_from r nothing_moved (cards_before_end cards))) r.whole.end_place (l.laid).size

-- the module

abbrev made_module : Module → ModuleMade → Module
made_module other (relocatable m) = m
made_module other (faulty faults) = other

pub without_faults : (faults : List (ℕ × ℕ)) (cards : List (List ℕ)) (m : Module) → module_by faults cards ≡ relocatable m → (faults ≡ []) × (module_of_cards cards ≡ m)
without_faults [] cards m h = (refl, ap (made_module m) h)
without_faults (f ∷ fs) cards m h = cc

room_before : (b c n h : ℕ) → h ≡ c + n → b + h ≤ 32768 → b + c ≤ 32768
room_before b c n h e k = omega (arith, e, k)

spread_module : (cards : List (List ℕ)) (base : ℕ) (entries : List (ℕ × ℕ)) → AreSmall entries → ModuleGood cards
    → base + length (module_of_cards cards).places ≤ 32768
    → Spread base (laid_at cards base entries) (map (linked_word base entries (module_of_cards cards).externs) (module_of_cards cards).places)
spread_module cards base entries small g room =
    let r : Relocated = relocated_of cards in
    let cells : List ModulePlace = cells_from r nothing_moved (cards_before_end cards) in
    let literals : List ModulePlace = map (cell 0) r.whole.literals in
    let whole : Whole = whole_at cards base entries in
    let count : length (cells ++ literals) ≡ r.whole.end_place + length r.whole.literals =
    length-append cells literals ∙ ap (λ (n : ℕ). n + length literals) (cells_size cards g) ∙ ap (λ (n : ℕ). r.whole.end_place + n) (length-map r.whole.literals (cell 0)) in
    let l : LaidModule cards base entries = laid_module cards base entries small g (room_before base r.whole.end_place (length r.whole.literals) (length (cells ++ literals)) count room) in
    let two : map (linked_word base entries r.externs) (cells ++ literals) ≡ map (linked_word base entries r.externs) cells ++ r.whole.literals =
    map-append (linked_word base entries r.externs) cells literals
    ∙ ap (λ (x : List ℕ). map (linked_word base entries r.externs) cells ++ x) (zero_cells base entries r.externs 0 r.whole.literals refl) in
    let size : length (map (linked_word base entries r.externs) cells) ≡ r.whole.end_place = length-map cells (linked_word base entries r.externs) ∙ cells_size cards g in
    let place : whole.end_place ≡ base + length (map (linked_word base entries r.externs) cells) = l.ends ∙ ap (λ (n : ℕ). base + n) (sym size) in
    let last : Spread (base + length (map (linked_word base entries r.externs) cells)) (record { first = whole.end_place; words = whole.literals } ∷ []) r.whole.literals =
    subst (λ (x : List ℕ). Spread (base + length (map (linked_word base entries r.externs) cells)) (record { first = whole.end_place; words = whole.literals } ∷ []) x) (append-nil r.whole.literals)
    (spread_here (base + length (map (linked_word base entries r.externs) cells)) (record { first = whole.end_place; words = whole.literals }) [] [] place (0, refl)) in
    subst (λ (x : List ℕ). Spread base (laid_at cards base entries) x) (sym two)
    (spread_append base (laid_from whole (known_at_base base) (cards_before_end cards)) (record { first = whole.end_place; words = whole.literals } ∷ [])
    (map (linked_word base entries r.externs) cells) r.whole.literals (l.laid).spread last)

pub module_is_spread : (cards : List (List ℕ)) (m : Module) (base : ℕ) (entries : List (ℕ × ℕ)) → AreSmall entries → module_made cards ≡ relocatable m
    → base + length m.places ≤ 32768 → Spread base (laid_at cards base entries) (map (linked_word base entries m.externs) m.places)
unfolding module_made
module_is_spread cards m base entries small made room =
    let two = without_faults (module_faults cards) cards m made in
    let g : ModuleGood cards = module_good cards two.0 in
    let here : base + length (module_of_cards cards).places ≤ 32768 = subst (λ (x : Module). base + length x.places ≤ 32768) (sym two.1) room in
    subst (λ (x : Module). Spread base (laid_at cards base entries) (map (linked_word base entries x.externs) x.places)) two.1 (spread_module cards base entries small g here)
