-- A listing shows the deck and the faults of its cards.
use Rattle.std.proofs.Common.{◌≡◌, ℕ, zero, suc, ◌+◌, Bool, true, false, not, ◌&&◌, ◌||◌, nat_eq, nat_lt, if◌then◌else◌, List, [], ◌∷◌, ◌++◌, length, Option, Some, None, is_none, refl, sym, ap, ◌∙◌, arith, true≢false}
use Rattle.fap_model.specs.Cards.{is_comment, is_bad, has_bad_symbol, flag_of, symbol_text, symbol_of, operation_of}
use Rattle.fap_model.specs.Statements.{Operation, machine, pze, org, bss, equ, dec, oct, bci, end, operation_named, Field, field_for}
use Rattle.fap_model.specs.Places.{Known, nothing_known, takes_flag, is_equ, field_is_wrong, field_is_defined, symbol_is_known, max_place, count_of, fault_with, known_behind}
use Rattle.fap_model.specs.Decks.{Whole, Segment, operation_in, is_end, cards_read, cards_before_end, whole_of, names_for, start_is_outside, fault_by, fault_of, fault_entry, faults_from, words_by, add_words, segments_from}
use Rattle.fap_model.specs.Causes.{FaultCause, NoOperation, Characters, BadSymbol, Flag, NoSymbol, BadForm, HighTag, Start, Undefined, Repeated, PastEnd, fault_number, cause_with, cause_by, cause_of}
use Rattle.fap_model.specs.Listed.{sound_words, rows_from, listed, faults_shown, laid}
use Rattle.fap_model.specs.Listings.{ShowsFaults, ShowsDeck}

-- the number of the first cause is the least fault

abbrev first_cause : (bad symbol flag unnamed none high start undefined repeated past : Bool) → Option FaultCause
first_cause bad symbol flag unnamed none high start undefined repeated past =
    if bad then Some Characters
    else (if symbol then Some BadSymbol
    else (if flag then Some Flag
    else (if unnamed then Some NoSymbol
    else (if none then Some BadForm
    else (if high then Some HighTag
    else (if start then Some Start
    else (if undefined then Some Undefined
    else (if repeated then Some Repeated
    else (if past then Some PastEnd else None)))))))))

abbrev least_fault : (bad symbol flag unnamed high start undefined repeated past : Bool) → ℕ
least_fault bad symbol flag unnamed high start undefined repeated past =
    if bad || (symbol || (flag || unnamed)) then 2
    else (if high || start then 2 else (if undefined then 3 else (if repeated then 4 else (if past then 5 else 0))))

number_case : (a b c d n e w u r p : Bool) → (n ≡ true → e ≡ true) → fault_number (first_cause a b c d n e w u r p) ≡ least_fault a b c d e w u r p
number_case true b c d n e w u r p h = refl
number_case false true c d n e w u r p h = refl
number_case false false true d n e w u r p h = refl
number_case false false false true n e w u r p h = refl
number_case false false false false true e w u r p h = rw (h refl) refl
number_case false false false false false true w u r p h = refl
number_case false false false false false false true u r p h = refl
number_case false false false false false false false true r p h = refl
number_case false false false false false false false false true p h = refl
number_case false false false false false false false false false true h = refl
number_case false false false false false false false false false false h = refl

none_is_wrong : (names : List (ℕ × ℕ)) (k : Known) (f : Option Field) → is_none f ≡ true → field_is_wrong names k f ≡ true
none_is_wrong names k None h = refl
none_is_wrong names k (Some f) h = absurd (true≢false (sym h))

number_with : (names : List (ℕ × ℕ)) (more : ℕ) (wrong : Bool) (k : Known) (o : Operation) (card : List ℕ) (f : Option Field)
    → fault_number (cause_with names more wrong k o card f) ≡ fault_with names more wrong k o card f
number_with names more wrong k o card f =
    number_case (is_bad card) (has_bad_symbol card) (flag_of card && not (takes_flag o)) (is_equ o && nat_eq (length (symbol_text card)) 0) (is_none f)
    (field_is_wrong names k f) wrong (not (field_is_defined names f)) (symbol_is_known k (symbol_of card)) (nat_lt max_place (k.place + count_of o k f + more))
    (none_is_wrong names k f)

number_by : (o : Option Operation) (whole : Whole) (k : Known) (card : List ℕ) → fault_number (cause_by o whole k card) ≡ fault_by o whole k card
number_by None whole k card = refl
number_by (Some end) whole k card =
    number_with whole.names (length whole.literals) (start_is_outside whole k (field_for end card)) k end card (field_for end card)
number_by (Some (machine o)) whole k card = number_with (names_for (machine o) whole k) 0 false k (machine o) card (field_for (machine o) card)
number_by (Some pze) whole k card = number_with (names_for pze whole k) 0 false k pze card (field_for pze card)
number_by (Some org) whole k card = number_with (names_for org whole k) 0 false k org card (field_for org card)
number_by (Some bss) whole k card = number_with (names_for bss whole k) 0 false k bss card (field_for bss card)
number_by (Some equ) whole k card = number_with (names_for equ whole k) 0 false k equ card (field_for equ card)
number_by (Some dec) whole k card = number_with (names_for dec whole k) 0 false k dec card (field_for dec card)
number_by (Some oct) whole k card = number_with (names_for oct whole k) 0 false k oct card (field_for oct card)
number_by (Some bci) whole k card = number_with (names_for bci whole k) 0 false k bci card (field_for bci card)

-- the number of a card's cause is its fault
pub cause_is_fault : (whole : Whole) (k : Known) (card : List ℕ) → fault_number (cause_of whole k card) ≡ fault_of whole k card
cause_is_fault whole k card = comment_case (is_comment card)
  where
    bad_case : (b : Bool) → fault_number (if b then Some Characters else None) ≡ (if b then 2 else 0)
    bad_case true = refl
    bad_case false = refl

    comment_case : (b : Bool)
        → fault_number (if b then (if is_bad card then Some Characters else None) else cause_by (operation_named (operation_of card)) whole k card)
        ≡ (if b then (if is_bad card then 2 else 0) else fault_by (operation_named (operation_of card)) whole k card)
    comment_case true = bad_case (is_bad card)
    comment_case false = number_by (operation_named (operation_of card)) whole k card

rows_show : (whole : Whole) (n : ℕ) (k : Known) (cards : List (List ℕ)) → faults_shown n (rows_from whole k cards) ≡ faults_from whole n k cards
rows_show whole n k [] = refl
rows_show whole n k (card ∷ cards) = rw (cause_is_fault whole k card, rows_show whole (suc n) (known_behind k card) cards) refl

pub shows_faults : ShowsFaults
unfolding listed
shows_faults cards = rw (rows_show (whole_of cards) 1 nothing_known (cards_read cards)) refl

-- words

no_fault : (n f : ℕ) (more : List (ℕ × ℕ)) → fault_entry n f ++ more ≡ [] → (f ≡ 0) × (more ≡ [])
no_fault n zero more h = (refl, h)
no_fault n (suc f) more h = absurd (not_empty h)
  where
    not_empty : ((n, suc f) ∷ more) ≡ [] → ⊥
    not_empty h = cc

no_number : (cause : Option FaultCause) → fault_number cause ≡ 0 → cause ≡ None
no_number None h = refl
no_number (Some NoOperation) h = absurd (omega (arith, h))
no_number (Some Characters) h = absurd (omega (arith, h))
no_number (Some BadSymbol) h = absurd (omega (arith, h))
no_number (Some Flag) h = absurd (omega (arith, h))
no_number (Some NoSymbol) h = absurd (omega (arith, h))
no_number (Some BadForm) h = absurd (omega (arith, h))
no_number (Some HighTag) h = absurd (omega (arith, h))
no_number (Some Start) h = absurd (omega (arith, h))
no_number (Some Undefined) h = absurd (omega (arith, h))
no_number (Some Repeated) h = absurd (omega (arith, h))
no_number (Some PastEnd) h = absurd (omega (arith, h))

-- a card without a fault has no cause of one
pub sound_cause : (whole : Whole) (k : Known) (card : List ℕ) → fault_of whole k card ≡ 0 → cause_of whole k card ≡ None
sound_cause whole k card h = no_number (cause_of whole k card) (cause_is_fault whole k card ∙ h)

end_words : (whole : Whole) (k : Known) (card : List ℕ) (o : Option Operation) (cause : Option FaultCause) → is_end o ≡ true → sound_words cause (words_by whole k o card) ≡ []
end_words whole k card (Some end) None h = refl
end_words whole k card (Some end) (Some cause) h = refl
end_words whole k card None cause h = absurd (true≢false (sym h))
end_words whole k card (Some (machine o)) cause h = absurd (true≢false (sym h))
end_words whole k card (Some pze) cause h = absurd (true≢false (sym h))
end_words whole k card (Some org) cause h = absurd (true≢false (sym h))
end_words whole k card (Some bss) cause h = absurd (true≢false (sym h))
end_words whole k card (Some equ) cause h = absurd (true≢false (sym h))
end_words whole k card (Some dec) cause h = absurd (true≢false (sym h))
end_words whole k card (Some oct) cause h = absurd (true≢false (sym h))
end_words whole k card (Some bci) cause h = absurd (true≢false (sym h))

end_case : (whole : Whole) (n : ℕ) (ss : List Segment) (k : Known) (card : List ℕ) (cards : List (List ℕ)) (b : Bool) → is_end (operation_in card) ≡ b
    → (faults_from whole (suc n) (known_behind k card) (cards_read cards) ≡ []
    → laid (add_words ss k.place (words_by whole k (operation_in card) card)) (rows_from whole (known_behind k card) (cards_read cards))
    ≡ segments_from whole (add_words ss k.place (words_by whole k (operation_in card) card)) (known_behind k card) (cards_before_end cards))
    → faults_from whole n k (if b then card ∷ [] else card ∷ cards_read cards) ≡ []
    → laid ss (rows_from whole k (if b then card ∷ [] else card ∷ cards_read cards)) ≡ segments_from whole ss k (if b then [] else card ∷ cards_before_end cards)
end_case whole n ss k card cards true e more h =
    ap (λ (ws : List ℕ). add_words ss k.place ws) (end_words whole k card (operation_in card) (cause_of whole k card) e)
end_case whole n ss k card cards false e more h =
    let sound = no_fault n (fault_of whole k card) (faults_from whole (suc n) (known_behind k card) (cards_read cards)) h in
    rw (sound_cause whole k card sound.0) (more sound.1)

rows_laid : (whole : Whole) (n : ℕ) (ss : List Segment) (k : Known) (cards : List (List ℕ)) → faults_from whole n k (cards_read cards) ≡ []
    → laid ss (rows_from whole k (cards_read cards)) ≡ segments_from whole ss k (cards_before_end cards)
rows_laid whole n ss k [] h = refl
rows_laid whole n ss k (card ∷ cards) h =
    end_case whole n ss k card cards (is_end (operation_in card)) refl
    (rows_laid whole (suc n) (add_words ss k.place (words_by whole k (operation_in card) card)) (known_behind k card) cards) h

front_empty : {A : Type 0} (xs ys : List A) → xs ++ ys ≡ [] → xs ≡ []
front_empty [] ys h = refl
front_empty (x ∷ xs) ys h = absurd (not_empty h)
  where
    not_empty : (x ∷ (xs ++ ys)) ≡ [] → ⊥
    not_empty h = cc

pub shows_deck : ShowsDeck
unfolding listed
shows_deck cards h =
    ap (λ (ss : List Segment). add_words ss (whole_of cards).end_place (whole_of cards).literals)
    (rows_laid (whole_of cards) 1 [] nothing_known cards (front_empty (faults_from (whole_of cards) 1 nothing_known (cards_read cards)) _ h))
