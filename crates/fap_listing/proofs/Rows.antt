-- Texts one after another, and what is left of them.
use Rattle.std.proofs.Common.{◌≡◌, ℕ, suc, ◌+◌, ◌/◌, ◌^◌, ◌<◌, ◌≤◌, Bool, false, nat_eq, List, [], ◌∷◌, ◌++◌, length, drop, get_or, Option, Some, codes, refl, sym, ap, ◌∙◌, arith, append_assoc, append-nil, drop-cons}
use Rattle.std.proofs.lemmas.List.{drop_all}
use Rattle.std.specs.List.{flat_map}
use Rattle.std.specs.Fmt.{decimal}
use Rattle.text_model.specs.Parts.{line}
use Rattle.fap_model.specs.declared.types.Operation.{Operation}
use Rattle.fap_model.specs.declared.types.FaultCause.{FaultCause}
use Rattle.fap_model.specs.declared.types.CardRow.{CardRow}
use Rattle.fap_model.specs.Causes.{number_of}
use Rattle.fap_listing.specs.declared.word.Split.{Split}
use Rattle.word36.specs.Octal.{octal_digits}
use Rattle.fap_model.specs.declared.types.Mention.{Mention}
use Rattle.fap_model.specs.declared.types.SymbolValue.{SymbolValue}
use Rattle.fap_model.specs.Cards.{is_comment}
use Rattle.fap_listing.specs.declared.word.Split.TheVariants.{Prefixed, Addressed, Data}
use Rattle.fap_listing.specs.Words.{blanks, next_place, split_of, word_text, word_gap, first_word, word_line, word_lines}
use Rattle.fap_listing.specs.Faults.{mark, at_column, wanted, fault_lines, part, dark_column, early_column, late_column, look_lines, looks}
use Rattle.fap_listing.specs.Listing.{shown_byte, shown_text, row_text, row_words, rows_text, first_card, end_text, literals_text, symbol_line, symbols_text}
use Rattle.fap_listing.specs.Rows.{shown_bytes}

pub shown_is : (text : List ℕ) → flat_map shown_bytes text ≡ shown_text text
shown_is [] = refl
shown_is (b ∷ text) = ap (λ (l : List ℕ). shown_byte b ∷ l) (shown_is text)

-- one more text, where the texts that are left begin with it
pub one_more : (done text rest left all : List ℕ) → left ≡ text ++ rest → done ++ left ≡ all → (done ++ text) ++ rest ≡ all
one_more done text rest left all is was =
    append_assoc done text rest ∙ ap (λ (l : List ℕ). done ++ l) (sym is) ∙ was

-- no text is left
pub none_left : (done left all : List ℕ) → left ≡ [] → done ++ left ≡ all → done ≡ all
none_left done left all is was = sym (append-nil done) ∙ ap (λ (l : List ℕ). done ++ l) (sym is) ∙ was

-- what is left from an element on is that element and what is left behind it
one_less : {X : Type 0} (xs : List X) (i : ℕ) (x : X) → i < length xs → x ≡ get_or xs i x → drop i xs ≡ x ∷ drop (i + 1) xs
one_less xs i x within is =
    let next : suc i ≡ i + 1 = omega arith in
    drop-cons xs i x within ∙ ap (λ (k : ℕ). get_or xs i x ∷ drop k xs) next ∙ ap (λ (y : _). y ∷ drop (i + 1) xs) (sym is)

-- words

pub words_next : (split : Split) (place next : ℕ) (ws : List ℕ) (i w : ℕ) → i < length ws → w ≡ get_or ws i w → next ≡ next_place place
    → word_lines split place (drop i ws) ≡ word_line split place w ++ word_lines split next (drop (i + 1) ws)
words_next split place next ws i w within is n = rw (one_less ws i w within is, n) refl

pub words_none : (split : Split) (place : ℕ) (ws : List ℕ) (i : ℕ) → length ws ≤ i → word_lines split place (drop i ws) ≡ []
words_none split place ws i past = rw (drop_all i ws past) refl

pub count_next : (rows : List CardRow) (i : ℕ) (row : CardRow) (done now all n : ℕ) → i < length rows → row ≡ get_or rows i row → n ≡ length row.words
    → done + row_words (drop i rows) ≡ all → now ≡ done + n → now + row_words (drop (i + 1) rows) ≡ all
count_next rows i row done now all n within is many was more =
    let first : row_words (drop i rows) ≡ length row.words + row_words (drop (i + 1) rows) = ap row_words (one_less rows i row within is) in
    omega (arith, first, many, was, more)

pub count_none : (rows : List CardRow) (i done all : ℕ) → length rows ≤ i → done + row_words (drop i rows) ≡ all → done ≡ all
count_none rows i done all past was =
    let none : row_words (drop i rows) ≡ 0 = ap row_words (drop_all i rows past) in
    omega (arith, none, was)

-- faults and looks

pub fault_of : (o : Option Operation) (cause : Option FaultCause) (c : FaultCause) (column : ℕ) → cause ≡ Some c
    → mark column ++ line (blanks 30 ++ (codes "FAULT " ++ (decimal (number_of c) ++ at_column column (wanted o c)))) ≡ fault_lines o cause column
fault_of o cause c column is = rw is refl

pub look_of : (column : ℕ) (text : List ℕ) → nat_eq column 0 ≡ false
    → mark column ++ line (blanks 30 ++ (codes "LOOK" ++ at_column column text)) ≡ look_lines column text
look_of column text is = rw is refl

-- rows

pub rows_next : (n m : ℕ) (rows : List CardRow) (cards later : List (List ℕ)) (i : ℕ) (row : CardRow) → i < length rows → row ≡ get_or rows i row → m ≡ n + 1 → later ≡ drop 1 cards
    → rows_text n (drop i rows) cards ≡ row_text n row (first_card cards) ++ rows_text m (drop (i + 1) rows) later
rows_next n m rows cards later i row within is next behind = rw (one_less rows i row within is, next, behind) refl

pub rows_none : (n : ℕ) (rows : List CardRow) (cards : List (List ℕ)) (i : ℕ) → length rows ≤ i → rows_text n (drop i rows) cards ≡ []
rows_none n rows cards i past = rw (drop_all i rows past) refl

pub prefixed_is : (split : Split) (w b : ℕ) → split ≡ Prefixed → b ≡ w
    → octal_digits 1 (b / 2 ^ 33) ++ (blanks 1 ++ (octal_digits 5 (b / 2 ^ 18) ++ (blanks 1 ++ (octal_digits 1 (b / 2 ^ 15) ++ (blanks 1 ++ octal_digits 5 b)))))
    ≡ word_text split w
prefixed_is split w b is same = rw (is, same) refl

pub addressed_is : (split : Split) (w b : ℕ) → split ≡ Addressed → b ≡ w
    → octal_digits 5 (b / 2 ^ 21) ++ (blanks 1 ++ (octal_digits 2 (b / 2 ^ 15) ++ (blanks 1 ++ octal_digits 5 b))) ≡ word_text split w
addressed_is split w b is same = rw (is, same) refl

pub first_word_is : (split : Split) (ws : List ℕ) (w : ℕ) → 1 ≤ length ws → w ≡ get_or ws 0 w → word_text split w ++ word_gap split ≡ first_word split ws
first_word_is split [] w some is = absurd (omega (arith, some))
first_word_is split (x ∷ ws) w some is = rw is refl

pub look_same : (n m : ℕ) (text : List ℕ) → n ≡ m → look_lines n text ≡ look_lines m text
look_same n m text is = rw is refl

pub looks_of : (card : List ℕ) → is_comment card ≡ false
    → look_lines (dark_column 7 (part 6 1 card)) (codes "COLUMN 7 ISN'T READ; A SYMBOL ENDS AT COLUMN 6")
    ++ (look_lines (early_column card) (codes "NOTHING IS READ HERE; THE FIELD BEGINS AT COLUMN 16")
    ++ look_lines (late_column card) (codes "NOTHING IS READ BEHIND COLUMN 72")) ≡ looks card
looks_of card is = rw is refl

pub end_of : (has : Bool) (count : ℕ) → has ≡ false
    → line (blanks 30 ++ (codes "CARD " ++ (decimal (count + 1) ++ codes " FAULT 6: THERE IS NO END"))) ≡ end_text has count
end_of has count is = rw is refl

pub literals_of : (place : ℕ) (ws : List ℕ) → 1 ≤ length ws → line (blanks 30 ++ codes "LITERALS") ++ word_lines Data place ws ≡ literals_text place ws
literals_of place [] some = absurd (omega (arith, some))
literals_of place (w ∷ ws) some = refl

pub symbols_of : (ss : List SymbolValue) (definitions uses : List Mention) → 1 ≤ length ss
    → line [] ++ (line (codes "SYMBOL  VALUE") ++ flat_map (symbol_line definitions uses) ss) ≡ symbols_text ss definitions uses
symbols_of [] definitions uses some = absurd (omega (arith, some))
symbols_of (s ∷ ss) definitions uses some = refl

-- by the operation of a card

pub first_same : (split : Split) (op o : Option Operation) (ws us : List ℕ) → split ≡ split_of op → op ≡ o → ws ≡ us → first_word split ws ≡ first_word (split_of o) us
first_same split op o ws us s e w = rw (s, e, w) refl

pub lines_same : (split : Split) (op o : Option Operation) (n place : ℕ) (ws vs us : List ℕ) → split ≡ split_of op → op ≡ o → n ≡ next_place place → ws ≡ drop 1 vs → vs ≡ us
    → word_lines split n ws ≡ word_lines (split_of o) (next_place place) (drop 1 us)
lines_same split op o n place ws vs us s e p w v = rw (s, e, p, w, v) refl

pub symbols_same : (ss rs : List SymbolValue) (ds es us vs : List Mention) → ss ≡ rs → ds ≡ es → us ≡ vs → symbols_text ss ds us ≡ symbols_text rs es vs
symbols_same ss rs ds es us vs s d u = rw (s, d, u) refl
