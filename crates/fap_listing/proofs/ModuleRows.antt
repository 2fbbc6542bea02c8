-- The texts of a module's listing, one after another, and what is left of them.
use Rattle.std.proofs.Common.{◌≡◌, ℕ, suc, ◌+◌, ◌<◌, ◌≤◌, false, nat_eq, List, [], ◌∷◌, ◌++◌, length, drop, get_or, map, replicate, codes, refl, sym, ap, ◌∙◌, arith, drop-cons, length-append}
use Rattle.std.proofs.lemmas.List.{drop_all, length-map, length-replicate}
use Rattle.std.specs.List.{flat_map}
use Rattle.std.specs.Fmt.{decimal}
use Rattle.text_model.specs.Parts.{line}
use Rattle.link_model.specs.declared.types.ModuleEntry.{ModuleEntry}
use Rattle.link_model.specs.declared.types.ModulePlace.{ModulePlace}
use Rattle.link_model.specs.declared.types.ModuleRow.{ModuleRow}
use Rattle.link_model.specs.ModuleCards.{cell}
use Rattle.link_model.specs.Listed.{row_places}
use Rattle.fap_listing.specs.Words.{blanks}
use Rattle.fap_listing.specs.Listing.{first_card}
use Rattle.fap_listing.specs.ModuleListing.{module_wanted, module_fault_lines, module_row_text, module_rows_text, entry_line, entries_text, extern_line, externs_text, place_count}

one_less : {X : Type 0} (xs : List X) (i : ℕ) (x : X) → i < length xs → x ≡ get_or xs i x → drop i xs ≡ x ∷ drop (i + 1) xs
one_less xs i x within is =
    let next : suc i ≡ i + 1 = omega arith in
    drop-cons xs i x within ∙ ap (λ (k : ℕ). get_or xs i x ∷ drop k xs) next ∙ ap (λ (y : _). y ∷ drop (i + 1) xs) (sym is)

pub rows_next : (n m : ℕ) (rows : List ModuleRow) (cards later : List (List ℕ)) (i : ℕ) (row : ModuleRow) → i < length rows → row ≡ get_or rows i row → m ≡ n + 1 → later ≡ drop 1 cards
    → module_rows_text n (drop i rows) cards ≡ module_row_text n row (first_card cards) ++ module_rows_text m (drop (i + 1) rows) later
rows_next n m rows cards later i row within is next behind = rw (one_less rows i row within is, next, behind) refl

pub rows_none : (n : ℕ) (rows : List ModuleRow) (cards : List (List ℕ)) (i : ℕ) → length rows ≤ i → module_rows_text n (drop i rows) cards ≡ []
rows_none n rows cards i past = rw (drop_all i rows past) refl

pub fault_of : (fault : ℕ) → nat_eq fault 0 ≡ false
    → line (blanks 30 ++ (codes "FAULT " ++ (decimal fault ++ (codes ": " ++ module_wanted fault)))) ≡ module_fault_lines fault
fault_of fault is = rw is refl

pub entries_of : (es : List ModuleEntry) → 1 ≤ length es → line [] ++ (line (codes "ENTRY   PLACE") ++ flat_map entry_line es) ≡ entries_text es
entries_of [] some = absurd (omega (arith, some))
entries_of (e ∷ es) some = refl

pub externs_of : (xs : List ℕ) → 1 ≤ length xs → line [] ++ (line (codes "EXTERN") ++ flat_map extern_line xs) ≡ externs_text xs
externs_of [] some = absurd (omega (arith, some))
externs_of (x ∷ xs) some = refl

-- what a card reserves, and its words

row_length : (row : ModuleRow) → length (row_places row) ≡ row.reserved + length row.words
row_length row =
    let kept : ModulePlace = cell 0 0 in
    length-append (replicate row.reserved (cell 0 0)) (map (cell row.kind) row.words)
    ∙ ap (λ (n : ℕ). n + length (map (cell row.kind) row.words)) (length-replicate row.reserved (cell 0 0))
    ∙ ap (λ (n : ℕ). row.reserved + n) (length-map row.words (cell row.kind))

pub count_next : (rows : List ModuleRow) (i : ℕ) (row : ModuleRow) (done now all n : ℕ) → i < length rows → row ≡ get_or rows i row → n ≡ length row.words
    → done + place_count (drop i rows) ≡ all → now ≡ done + (row.reserved + n) → now + place_count (drop (i + 1) rows) ≡ all
count_next rows i row done now all n within is many was more =
    let first : place_count (drop i rows) ≡ length (row_places row) + place_count (drop (i + 1) rows) = ap place_count (one_less rows i row within is) in
    omega (arith, first, row_length row, many, was, more)
