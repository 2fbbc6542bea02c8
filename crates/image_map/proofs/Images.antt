-- The three moves of a load: out to the drum, in from the drum, and in fresh.
use Rattle.std.specs.Prelude.{Option, None, Some, slice_set, map}
use Rattle.std.proofs.Common.{◌≡◌, ◌≢◌, inl, inr, ℕ, ◌+◌, ◌<◌, ◌≤◌, List, length, refl, sym, ◌∙◌, ap, arith, get_or-set_same, get_or-set_other, length-set}
use Rattle.std.proofs.Math.ListN.{get_or-map}
use Rattle.std.proofs.lemmas.List.{length-map, set-get_or}
use Rattle.drum_slots.specs.Keys.{quota_of, key}
use Rattle.drum_slots.specs.Slots.{slot_of}
use Rattle.drum_slots.specs.Kept.{copies, with_copy, words_of, HasCopy}
use Rattle.drum_slots.proofs.Copies.{copies_drop}
use Rattle.image_map.specs.Images.{size_of, or_blank, copy_of, view, image_over, IsImage}
use Rattle.image_map.proofs.Moves.{Moves}
use Rattle.onion_swap.specs.Places.{owner_of, base_of}
use Rattle.core_bank.specs.Bank.{blank}
use Rattle.image_map.proofs.Moves.{eq_yes, eq_no, first_same, view_moves, MovesWords}

pub core_moves : (owners owners' : List ℕ) (slots slots' : List (Option ℕ)) (blocks blocks' : ℕ → List ℕ) (quotas bases sizes : List ℕ) (cs cs' : Option (List (Option (List ℕ)))) (x b : ℕ) (copy : Option (List ℕ))
    → cs' ≡ with_copy cs (key quotas x b) copy → IsImage bases owners slots quotas sizes → Moves owners owners' slots slots' quotas bases x b
    → ((q : ℕ) → q ≢ base_of bases x + b → blocks' q ≡ blocks q) → b < size_of sizes x
    → ((all : List (Option (List ℕ))) → cs ≡ Some all → view blocks' bases owners' (slice_set all (key quotas x b) copy) quotas x b ≡ view blocks bases owners all quotas x b)
    → (u : ℕ) → 1 ≤ u → image_over blocks' bases owners' cs' quotas (size_of sizes u) u ≡ image_over blocks bases owners cs quotas (size_of sizes u) u
core_moves owners owners' slots slots' blocks blocks' quotas bases sizes None cs' x b copy e i m stay inside here u some =
    ap (λ (o : Option (List (Option (List ℕ)))). image_over blocks' bases owners' o quotas (size_of sizes u) u) e
core_moves owners owners' slots slots' blocks blocks' quotas bases sizes (Some all) cs' x b copy e i m stay inside here u some =
    let fits : b < quota_of quotas x = omega (arith, i.fits x) in
    let w : MovesWords blocks blocks' all (slice_set all (key quotas x b) copy) quotas bases x b = record {
      block = stay;
      copy = λ k other. get_or-set_other all (key quotas x b) k copy None other;
    } in
    let same = view_moves owners owners' slots slots' blocks blocks' all (slice_set all (key quotas x b) copy) quotas bases x b m w fits (here all refl) in
    ap (λ (o : Option (List (Option (List ℕ)))). image_over blocks' bases owners' o quotas (size_of sizes u) u) e
    ∙ ap (λ (l : List (List ℕ)). Some l) (first_same (size_of sizes u) _ _ (λ c below. same u c some (omega (arith, i.fits u))))

copies_length : (contents : Option (List (List ℕ))) (slots : List (Option ℕ)) (all : List (Option (List ℕ))) → copies contents slots ≡ Some all → length all ≡ length slots
copies_length None slots all is = cc
copies_length (Some contents) slots all is = let e : map (words_of contents) slots ≡ all = cc in ap (λ (l : List (Option (List ℕ))). length l) (sym e) ∙ length-map slots (words_of contents)

copy_none : (contents : Option (List (List ℕ))) (slots : List (Option ℕ)) (all : List (Option (List ℕ))) (k : ℕ) → copies contents slots ≡ Some all → slot_of slots k ≡ None → copy_of all k ≡ None
copy_none None slots all k is none = cc
copy_none (Some contents) slots all k is none =
    let e : map (words_of contents) slots ≡ all = cc in
    ap (λ (l : List (Option (List ℕ))). copy_of l k) (sym e) ∙ get_or-map (words_of contents) slots k None ∙ ap (words_of contents) none

-- out to the drum
pub moves_dump : (owners : List ℕ) (slots : List (Option ℕ)) (quotas bases : List ℕ) (v b q r : ℕ) → base_of bases v + b ≡ q → 1 ≤ v → q < length owners → owner_of owners q ≡ v
    → Moves owners (slice_set owners q 0) slots (slice_set slots (key quotas v b) (Some r)) quotas bases v b
moves_dump owners slots quotas bases v b q r at some inside is =
    let now : owner_of (slice_set owners q 0) q ≡ 0 = get_or-set_same owners q 0 0 inside in
    let gone : owner_of (slice_set owners q 0) (base_of bases v + b) ≡ 0 = ap (λ (n : ℕ). owner_of (slice_set owners q 0) n) at ∙ now in
    record {
      len = length-set owners q 0;
      owner = λ c other. get_or-set_other owners q c 0 0 (λ same. other (same ∙ sym at));
      slot = λ k other. get_or-set_other slots (key quotas v b) k (Some r) None other;
      before = inr (ap (λ (n : ℕ). owner_of owners n) at ∙ is);
      after = inl gone;
      own = λ e. absurd (omega arith);
    }

pub dump_view : (contents : Option (List (List ℕ))) (owners : List ℕ) (slots : List (Option ℕ)) (blocks : ℕ → List ℕ) (quotas bases : List ℕ) (v b q : ℕ) (ws : List ℕ)
    → base_of bases v + b ≡ q → 1 ≤ v → q < length owners → owner_of owners q ≡ v → key quotas v b < length slots → ws ≡ blocks q
    → (all : List (Option (List ℕ))) → copies contents slots ≡ Some all
    → view blocks bases (slice_set owners q 0) (slice_set all (key quotas v b) (Some ws)) quotas v b ≡ view blocks bases owners all quotas v b
dump_view contents owners slots blocks quotas bases v b q ws at some here is inside words all told =
    let now : owner_of (slice_set owners q 0) q ≡ 0 = get_or-set_same owners q 0 0 here in
    let gone : owner_of (slice_set owners q 0) (base_of bases v + b) ≡ 0 = ap (λ (n : ℕ). owner_of (slice_set owners q 0) n) at ∙ now in
    let other : owner_of (slice_set owners q 0) (base_of bases v + b) ≢ v = λ e. absurd (omega arith) in
    let mine : owner_of owners (base_of bases v + b) ≡ v = ap (λ (n : ℕ). owner_of owners n) at ∙ is in
    let len = copies_length contents slots all told in
    let place : key quotas v b < length all = omega arith in
    let copy = get_or-set_same all (key quotas v b) (Some ws) None place in
    rw (eq_no _ _ other, eq_yes _ _ mine) (ap or_blank copy ∙ words ∙ ap blocks (sym at))

-- in from the drum
pub moves_take : (owners : List ℕ) (slots slots' : List (Option ℕ)) (quotas bases : List ℕ) (u b : ℕ) → base_of bases u + b < length owners → owner_of owners (base_of bases u + b) ≡ 0
    → ((k : ℕ) → k ≢ key quotas u b → slot_of slots' k ≡ slot_of slots k) → slot_of slots' (key quotas u b) ≡ None
    → Moves owners (slice_set owners (base_of bases u + b) u) slots slots' quotas bases u b
moves_take owners slots slots' quotas bases u b inside is others none = record {
  len = length-set owners (base_of bases u + b) u;
  owner = λ c other. get_or-set_other owners (base_of bases u + b) c u 0 other;
  slot = others;
  before = inl is;
  after = inr (get_or-set_same owners (base_of bases u + b) u 0 inside);
  own = λ e. none;
}

pub take_view : (owners : List ℕ) (blocks blocks' : ℕ → List ℕ) (quotas bases : List ℕ) (u b : ℕ) (cs : Option (List (Option (List ℕ)))) (copy : Option (List ℕ))
    → 1 ≤ u → base_of bases u + b < length owners → owner_of owners (base_of bases u + b) ≡ 0
    → ((all : List (Option (List ℕ))) → cs ≡ Some all → blocks' (base_of bases u + b) ≡ or_blank (copy_of all (key quotas u b)))
    → (all : List (Option (List ℕ))) → cs ≡ Some all
    → view blocks' bases (slice_set owners (base_of bases u + b) u) (slice_set all (key quotas u b) copy) quotas u b ≡ view blocks bases owners all quotas u b
take_view owners blocks blocks' quotas bases u b cs copy some inside is words all told =
    let now : owner_of (slice_set owners (base_of bases u + b) u) (base_of bases u + b) ≡ u = get_or-set_same owners (base_of bases u + b) u 0 inside in
    let other : owner_of owners (base_of bases u + b) ≢ u = λ e. absurd (omega arith) in
    rw (eq_yes _ _ now, eq_no _ _ other) (words all told)

-- what a read gave is the copy
pub read_words : (cs : Option (List (Option (List ℕ)))) (k : ℕ) (ws : List ℕ) → HasCopy cs k ws
    → (all : List (Option (List ℕ))) → cs ≡ Some all → ws ≡ or_blank (copy_of all k)
read_words None k ws has all told = cc
read_words (Some one) k ws has all told =
    let e : one ≡ all = cc in
    sym (ap (λ (l : List (Option (List ℕ))). or_blank (copy_of l k)) (sym e) ∙ ap or_blank has)

-- a block of which no copy is kept is blank
pub fresh_words : (contents : Option (List (List ℕ))) (slots : List (Option ℕ)) (k : ℕ) (ws : List ℕ) → slot_of slots k ≡ None → ws ≡ blank
    → (all : List (Option (List ℕ))) → copies contents slots ≡ Some all → ws ≡ or_blank (copy_of all k)
fresh_words contents slots k ws none is all told = is ∙ sym (ap or_blank (copy_none contents slots all k told none))

pub set_none : (slots : List (Option ℕ)) (k : ℕ) → slot_of slots k ≡ None → slice_set slots k None ≡ slots
set_none slots k none = ap (λ (o : Option ℕ). slice_set slots k o) (sym none) ∙ set-get_or slots k None

pub fresh_copies : (contents : Option (List (List ℕ))) (slots : List (Option ℕ)) (k : ℕ) → slot_of slots k ≡ None → copies contents slots ≡ with_copy (copies contents slots) k None
fresh_copies contents slots k none = sym (ap (copies contents) (set_none slots k none)) ∙ copies_drop contents slots k
