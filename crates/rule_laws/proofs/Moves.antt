-- A card without a fault moves what is known here and there alike.
use Rattle.std.proofs.Common.{◌≡◌, ℕ, ◌+◌, ◌^◌, ◌<◌, ◌≤◌, Bool, false, not, if◌then◌else◌, List, [], Option, Some, None, is_none, refl, ap, ◌∙◌, subst, arith, codes}
use Rattle.std.specs.Option.{option_map}
use Rattle.fap_model.specs.Cards.{symbol_of, field_of}
use Rattle.fap_model.specs.declared.types.Operation.{Operation}
use Rattle.fap_model.specs.declared.types.Operation.TheVariants.{Machine as machine, Pze as pze, Org as org, Bss as bss, Equ as equ, Dec as dec, Oct as oct, Bci as bci, End as end}
use Rattle.fap_model.specs.Terms.{decimal_word, octal_number, items_of, all_words}
use Rattle.fap_model.specs.Statements.{words, text_words, field_for}
use Rattle.fap_model.specs.Places.{Known, max_place, value_in, or_zero, size_of, symbol_is_known, known_with, known_behind}
use Rattle.fap_model.specs.Decks.{is_end}
use Rattle.link_model.specs.Weights.{with_externs, kind_of}
use Rattle.link_model.specs.Moves.{Moved, without_org, moved_size, moved_with, moved_behind}
use Rattle.link_model.specs.ModuleCards.{Relocated, symbols_seen, named_by}
use Rattle.rule_laws.proofs.Values.{IsSound}
use Rattle.rule_laws.proofs.Fields.{value_small}
use Rattle.rule_laws.proofs.Places.{Behind, none_of}
use Rattle.rule_laws.proofs.Steps.{IsGood, so_far, Counted, counted_decimals, counted_octals, counted_characters, bss_value, equ_value, counted_bss, early_words, sized, place_worth, below_top, one_most, equ_worth, fresh_here, Stepped, step_with, is_org}
use Rattle.rule_laws.proofs.Cases.{CardCase, case_comment, case_silent, case_plain}

-- entries that are places
abbrev pub AreSmall : List (ℕ × ℕ) → Type 0
AreSmall entries = (name : ℕ) → or_zero (value_in entries name) < 2 ^ 15

sound_so_far : (b : ℕ) (entries : List (ℕ × ℕ)) (xs : List ℕ) (m : Moved) (k : Known) → AreSmall entries → Behind b m k → IsSound (so_far b entries xs m)
sound_so_far b entries xs m k small h = record { aligned = h.aligned; small = small }

fresh_there : (b : ℕ) (m : Moved) (k : Known) (symbol : Option ℕ) → Behind b m k → symbol_is_known m.known symbol ≡ false → symbol_is_known k symbol ≡ false
fresh_there b m k None h e = refl
fresh_there b m k (Some name) h e = by_value (value_in m.known.symbols name) refl e
  where
    by_value : (o : Option ℕ) → value_in m.known.symbols name ≡ o → not (is_none o) ≡ false → symbol_is_known k (Some name) ≡ false
    by_value (Some v) is wrong = absurd cc
    by_value None is new =
        let none : value_in k.symbols name ≡ None = ap (λ (l : List (ℕ × ℕ)). value_in l name) h.symbols ∙ (none_of b name m h.aligned is).there in
        ap (λ (o : Option ℕ). not (is_none o)) none

zero_small : 0 < 2 ^ 15
zero_small = omega arith

lower : (b p s q : ℕ) → q ≡ b + p → b + (p + s) ≤ 32768 → q ≤ max_place
lower b p s q e h = omega (arith, e, h)

-- a card that takes words as its field gives them
data_step : (b : ℕ) (r : Relocated) (m : Moved) (before : List (List ℕ)) (card : List ℕ) (k : Known) (o : Operation) (ws : Option (List ℕ)) → Behind b m k
    → IsGood r m before card o → field_for o card ≡ option_map (λ us. words us) ws
    → ((us : List ℕ) → kind_of o r.externs (with_externs r.externs m.weights) (Some (words us)) ≡ Some 0)
    → Counted o m.known (symbols_seen m before) k (field_for o card)
    → b + (m.known.place + moved_size r.externs m (Some o) card) ≤ 32768 → size_of o k (field_for o card) ≡ moved_size r.externs m (Some o) card
data_step b r m before card k o ws h g form none c bound =
    sized b r.externs m k (symbols_seen m before) o card 0 h c
    (early_words r.externs (with_externs r.externs m.weights) o (field_for o card) ws (g.sound).field none form (g.sound).field_is) refl (g.sound).room bound

pub stepped : (b : ℕ) (entries : List (ℕ × ℕ)) (r : Relocated) (m : Moved) (before : List (List ℕ)) (card : List ℕ) (k : Known) (o : Operation) → AreSmall entries
    → Behind b m k → is_org o ≡ false → is_end (Some o) ≡ false → IsGood r m before card o
    → b + (m.known.place + moved_size r.externs m (Some o) card) ≤ 32768 → Stepped b r.externs m k card o
stepped b entries r m before card k org small h other last g bound = absurd cc
stepped b entries r m before card k end small h other last g bound = absurd cc
stepped b entries r m before card k (machine o) small h other last g bound =
    record { size = refl; worth = record { small = below_top m.known.place; light = one_most; there = place_worth b m.known.place k.place h.place } }
stepped b entries r m before card k pze small h other last g bound =
    record { size = refl; worth = record { small = below_top m.known.place; light = one_most; there = place_worth b m.known.place k.place h.place } }
stepped b entries r m before card k dec small h other last g bound =
    record {
      size = data_step b r m before card k dec (all_words decimal_word (items_of (field_of card))) h g refl (λ us. refl)
          (counted_decimals m.known (symbols_seen m before) k (field_for dec card)) bound;
      worth = record { small = below_top m.known.place; light = one_most; there = place_worth b m.known.place k.place h.place };
    }
stepped b entries r m before card k oct small h other last g bound =
    record {
      size = data_step b r m before card k oct (all_words (octal_number 12) (items_of (field_of card))) h g refl (λ us. refl)
          (counted_octals m.known (symbols_seen m before) k (field_for oct card)) bound;
      worth = record { small = below_top m.known.place; light = one_most; there = place_worth b m.known.place k.place h.place };
    }
stepped b entries r m before card k bci small h other last g bound =
    record {
      size = data_step b r m before card k bci (text_words card) h g refl (λ us. refl)
          (counted_characters m.known (symbols_seen m before) k (field_for bci card)) bound;
      worth = record { small = below_top m.known.place; light = one_most; there = place_worth b m.known.place k.place h.place };
    }
stepped b entries r m before card k bss small h other last g bound =
    let one = bss_value b entries r m before card (sound_so_far b entries r.externs m k small h) g in
    let below : one.result < 2 ^ 15 = value_small m.known.symbols m.known.place one.terms 0 one.result zero_small (one.light).here in
    record {
      size =
          sized b r.externs m k (symbols_seen m before) bss card g.kind h (counted_bss b entries r.externs m before card k h one below) g.kind_is refl (g.sound).room bound;
      worth = record { small = below_top m.known.place; light = one_most; there = place_worth b m.known.place k.place h.place };
    }
stepped b entries r m before card k equ small h other last g bound =
    let one = equ_value b entries r m before card (sound_so_far b entries r.externs m k small h) g in
    let below : one.result < 2 ^ 15 = value_small m.known.symbols m.known.place one.terms 0 one.result zero_small (one.light).here in
    let fresh : symbol_is_known m.known (symbol_of card) ≡ false =
    fresh_here m (with_externs (named_by (codes "EXTERN") before) []) (symbol_of card) (g.sound).fresh in
    record {
      size =
          sized b r.externs m k (symbols_seen m before) equ card g.kind h (record { as_seen = refl; as_there = refl }) g.kind_is refl (g.sound).room bound;
      worth =
          equ_worth b entries r m before card k h g one below (fresh_there b m k (symbol_of card) h fresh)
          (lower b m.known.place (moved_size r.externs m (Some equ) card) k.place h.place bound);
    }

-- whatever a card is

pub without : (o : Operation) → is_org o ≡ false → without_org (Some o) ≡ Some o
without org h = absurd cc
without o h = refl

same_place : (q b p : ℕ) → q ≡ b + p → q ≡ b + (p + 0)
same_place q b p e = omega (arith, e)

abbrev next_known : Bool → Option Operation → Known → List ℕ → Known
next_known c o k card = if c then k else known_with k o card

abbrev next_moved : Bool → Option Operation → List ℕ → Moved → List ℕ → Moved
next_moved c o xs m card = if c then m else moved_with xs m (without_org (if c then None else o)) card

silent_step : (b : ℕ) (xs : List ℕ) (m : Moved) (k : Known) (card : List ℕ) → Behind b m k → symbol_of card ≡ None
    → Behind b (moved_with xs m None card) (known_with k None card)
silent_step b xs m k card h none =
    record {
      place = same_place k.place b m.known.place h.place;
      symbols = rw none h.symbols;
      aligned = rw none h.aligned;
    }

pub case_step : (b : ℕ) (entries : List (ℕ × ℕ)) (r : Relocated) (m : Moved) (before : List (List ℕ)) (card : List ℕ) (k : Known) → AreSmall entries → Behind b m k
    → CardCase r m before card → b + (moved_behind r.externs m card).known.place ≤ 32768 → Behind b (moved_behind r.externs m card) (known_behind k card)
case_step b entries r m before card k small h (case_comment c) bound = rw c h
case_step b entries r m before card k small h (case_silent c named none) bound = rw (c, named) (silent_step b r.externs m k card h none)
case_step b entries r m before card k small h (case_plain o c named other last g) bound =
    let with_org : without_org (Some o) ≡ Some o = without o other in
    let is : moved_behind r.externs m card ≡ moved_with r.externs m (Some o) card = rw (c, named, with_org) refl in
    let too : known_behind k card ≡ known_with k (Some o) card = rw (c, named) refl in
    let room : b + (m.known.place + moved_size r.externs m (Some o) card) ≤ 32768 =
    subst (λ (n : Moved). b + n.known.place ≤ 32768) is bound in
    let fresh : symbol_is_known m.known (symbol_of card) ≡ false =
    fresh_here m (with_externs (named_by (codes "EXTERN") before) []) (symbol_of card) (g.sound).fresh in
    rw (is, too) (step_with b r.externs m k card o h other fresh (stepped b entries r m before card k o small h other last g room))
