-- The cards that are read: those before the first END, and the END, which takes no words.
use Rattle.std.proofs.Common.{◌≡◌, ℕ, suc, ◌+◌, ◌*◌, ◌^◌, ◌<◌, ◌≤◌, Bool, true, false, List, [], ◌∷◌, ◌++◌, length, get_or, take, Option, Some, None, refl, sym, ap, ◌∙◌, arith, nat_lt, nat_le, if◌then◌else◌, true≢false, take_all}
use Rattle.std.proofs.lemmas.List.{append-nil}
use Rattle.std.proofs.lemmas.Bool.Decides.{nat_tests}
use Rattle.std.specs.Option.{option_map}
use Rattle.fap_read.specs.declared.card.Card.{Card}
use Rattle.fap_model.specs.declared.types.Operation.{Operation}
use Rattle.fap_model.specs.declared.types.Operation.TheVariants.{Machine as machine, Pze as pze, Org as org, Bss as bss, Equ as equ, Dec as dec, Oct as oct, Bci as bci, End as end}
use Rattle.fap_model.specs.Statements as says
use Rattle.fap_model.specs.Places.{Known, max_place, known_behind, known_after, nothing_known}
use Rattle.fap_model.specs.Decks.{Whole, Segment, deck, faulty, is_end, operation_in, cards_read, cards_before_end, has_end, size_by, reach_of, reach_from, words_by, segments_from, add_words, blocks_for, whole_of, faults_from, faults_of, start_in, start_from, deck_words, assembled}
use Rattle.fap_assemble.specs.declared.tables.Tables.{Tables}
use Rattle.fap_assemble.specs.declared.field.Said.{Said}
use Rattle.fap_assemble.specs.Fields.{said, number}
use Rattle.bss_loader.specs.Runs.{words_in, closed}
use Rattle.fap_assemble.specs.Runs.{cards_in}
use Rattle.fap_assemble.specs.Steps.{place_by, texts}
use Rattle.fap_assemble.specs.Passes.{HasAll}
use Rattle.fap_assemble.specs.Wholes.{whole_of_tables}
use Rattle.fap_assemble.specs.declared.fault.CardFault.{CardFault}
use Rattle.fap_assemble.specs.Follows.{numbered}
use Rattle.fap_assemble.specs.Answers.{end_index, missing_end}
use Rattle.fap_assemble.proofs.Passes.{parts_behind}
use Rattle.fap_assemble.proofs.Runs.{all_words_are}

-- an END takes no words

abbrev none_either : Bool → ℕ
none_either b = if b then 0 else 0

no_more : (b : Bool) → none_either b ≡ 0
no_more true = refl
no_more false = refl

end_place_by : (o : Option Operation) (k : Known) (card : List ℕ) → is_end o ≡ true → place_by o k card ≡ k.place
end_place_by None k card h = absurd (true≢false (sym h))
end_place_by (Some (machine o)) k card h = absurd (true≢false (sym h))
end_place_by (Some pze) k card h = absurd (true≢false (sym h))
end_place_by (Some org) k card h = absurd (true≢false (sym h))
end_place_by (Some bss) k card h = absurd (true≢false (sym h))
end_place_by (Some equ) k card h = absurd (true≢false (sym h))
end_place_by (Some dec) k card h = absurd (true≢false (sym h))
end_place_by (Some oct) k card h = absurd (true≢false (sym h))
end_place_by (Some bci) k card h = absurd (true≢false (sym h))
end_place_by (Some end) k card h = omega (arith, no_more (nat_le (k.place + 0) max_place))

end_size_by : (o : Option Operation) (k : Known) (card : List ℕ) → is_end o ≡ true → size_by o k card ≡ 0
end_size_by None k card h = refl
end_size_by (Some (machine o)) k card h = absurd (true≢false (sym h))
end_size_by (Some pze) k card h = absurd (true≢false (sym h))
end_size_by (Some org) k card h = no_more (nat_le (k.place + 0) max_place)
end_size_by (Some bss) k card h = absurd (true≢false (sym h))
end_size_by (Some equ) k card h = no_more (nat_le (k.place + 0) max_place)
end_size_by (Some dec) k card h = absurd (true≢false (sym h))
end_size_by (Some oct) k card h = absurd (true≢false (sym h))
end_size_by (Some bci) k card h = absurd (true≢false (sym h))
end_size_by (Some end) k card h = no_more (nat_le (k.place + 0) max_place)

end_words_by : (o : Option Operation) (w : Whole) (k : Known) (card : List ℕ) → is_end o ≡ true → words_by w k o card ≡ []
end_words_by None w k card h = refl
end_words_by (Some (machine o)) w k card h = absurd (true≢false (sym h))
end_words_by (Some pze) w k card h = absurd (true≢false (sym h))
end_words_by (Some org) w k card h = refl
end_words_by (Some bss) w k card h = refl
end_words_by (Some equ) w k card h = refl
end_words_by (Some dec) w k card h = absurd (true≢false (sym h))
end_words_by (Some oct) w k card h = absurd (true≢false (sym h))
end_words_by (Some bci) w k card h = absurd (true≢false (sym h))
end_words_by (Some end) w k card h = refl

-- so those that are read come to the place, the reach and the segments of those before END

place_case : (k : Known) (card : List ℕ) (cards : List (List ℕ)) (b : Bool) → is_end (operation_in card) ≡ b
    → (known_after (known_behind k card) (cards_read cards)).place ≡ (known_after (known_behind k card) (cards_before_end cards)).place
    → (known_after k (if b then card ∷ [] else card ∷ cards_read cards)).place ≡ (known_after k (if b then [] else card ∷ cards_before_end cards)).place
place_case k card cards true e ih = ap (λ (n : Known). n.place) (parts_behind k card) ∙ end_place_by (operation_in card) k card e
place_case k card cards false e ih = ih

place_same : (k : Known) (cards : List (List ℕ)) → (known_after k (cards_read cards)).place ≡ (known_after k (cards_before_end cards)).place
place_same k [] = refl
place_same k (card ∷ cards) = place_case k card cards (is_end (operation_in card)) refl (place_same (known_behind k card) cards)

reach_case : (r : ℕ) (k : Known) (card : List ℕ) (cards : List (List ℕ)) (b : Bool) → is_end (operation_in card) ≡ b
    → reach_from (reach_of r k.place (size_by (operation_in card) k card)) (known_behind k card) (cards_read cards)
    ≡ reach_from (reach_of r k.place (size_by (operation_in card) k card)) (known_behind k card) (cards_before_end cards)
    → reach_from r k (if b then card ∷ [] else card ∷ cards_read cards) ≡ reach_from r k (if b then [] else card ∷ cards_before_end cards)
reach_case r k card cards true e ih = ap (λ (n : ℕ). reach_of r k.place n) (end_size_by (operation_in card) k card e)
reach_case r k card cards false e ih = ih

reach_same : (r : ℕ) (k : Known) (cards : List (List ℕ)) → reach_from r k (cards_read cards) ≡ reach_from r k (cards_before_end cards)
reach_same r k [] = refl
reach_same r k (card ∷ cards) =
    reach_case r k card cards (is_end (operation_in card)) refl (reach_same (reach_of r k.place (size_by (operation_in card) k card)) (known_behind k card) cards)

segments_case : (w : Whole) (ss : List Segment) (k : Known) (card : List ℕ) (cards : List (List ℕ)) (b : Bool) → is_end (operation_in card) ≡ b
    → segments_from w (add_words ss k.place (words_by w k (operation_in card) card)) (known_behind k card) (cards_read cards)
    ≡ segments_from w (add_words ss k.place (words_by w k (operation_in card) card)) (known_behind k card) (cards_before_end cards)
    → segments_from w ss k (if b then card ∷ [] else card ∷ cards_read cards) ≡ segments_from w ss k (if b then [] else card ∷ cards_before_end cards)
segments_case w ss k card cards true e ih = ap (λ (ws : List ℕ). add_words ss k.place ws) (end_words_by (operation_in card) w k card e)
segments_case w ss k card cards false e ih = ih

segments_same : (w : Whole) (ss : List Segment) (k : Known) (cards : List (List ℕ)) → segments_from w ss k (cards_read cards) ≡ segments_from w ss k (cards_before_end cards)
segments_same w ss k [] = refl
segments_same w ss k (card ∷ cards) =
    segments_case w ss k card cards (is_end (operation_in card)) refl
    (segments_same w (add_words ss k.place (words_by w k (operation_in card) card)) (known_behind k card) cards)

abbrev whole_from : List (ℕ × ℕ) → List ℕ → ℕ → ℕ → Whole
whole_from names ls p r = record { names = names; literals = ls; end_place = p; blocks = blocks_for (reach_of r p (length ls)) }

whole_by : (names names2 : List (ℕ × ℕ)) (ls ls2 : List ℕ) (p p2 r r2 : ℕ) → names ≡ names2 → ls ≡ ls2 → p ≡ p2 → r ≡ r2
    → whole_from names ls p r ≡ whole_from names2 ls2 p2 r2
whole_by names names2 ls ls2 p p2 r r2 a b c d = rw (a, b, c, d) refl

pub whole_is : (t : Tables) (cards : List (List ℕ)) → HasAll t (cards_read cards) → whole_of_tables t ≡ whole_of cards
whole_is t cards h =
    whole_by _ _ _ _ _ _ _ _ (ap (λ (n : Known). n.symbols) h.known) h.literals_are (ap (λ (n : Known). n.place) h.known ∙ place_same nothing_known cards)
    (h.reach_is ∙ reach_same 0 nothing_known cards)

-- the cards up to a number

read_case : (c : Card) (cards : List Card) (b : Bool) → is_end (operation_in c.text) ≡ b
    → (end_index cards < length cards → texts (take (end_index cards + 1) cards) ≡ cards_read (texts cards))
    → end_index (c ∷ cards) < length (c ∷ cards) → texts (take (end_index (c ∷ cards) + 1) (c ∷ cards)) ≡ cards_read (texts (c ∷ cards))
read_case c cards true e ih = rw e (λ h. refl)
read_case c cards false e ih =
    rw e (λ h. let more : 1 + end_index cards + 1 ≡ suc (end_index cards + 1) = omega arith in rw more (ap (λ (r : List (List ℕ)). c.text ∷ r) (ih (omega arith))))

pub read_to_end : (cards : List Card) → end_index cards < length cards → texts (take (end_index cards + 1) cards) ≡ cards_read (texts cards)
read_to_end [] h = absurd (omega arith)
read_to_end (c ∷ cards) h = read_case c cards (is_end (operation_in c.text)) refl (read_to_end cards) h

all_case : (c : Card) (cards : List Card) (b : Bool) → is_end (operation_in c.text) ≡ b → (length cards ≤ end_index cards → texts cards ≡ cards_read (texts cards))
    → length (c ∷ cards) ≤ end_index (c ∷ cards) → texts (c ∷ cards) ≡ cards_read (texts (c ∷ cards))
all_case c cards true e ih = rw e (λ h. absurd (omega arith))
all_case c cards false e ih = rw e (λ h. ap (λ (r : List (List ℕ)). c.text ∷ r) (ih (omega arith)))

pub read_all : (cards : List Card) → length cards ≤ end_index cards → texts cards ≡ cards_read (texts cards)
read_all [] h = refl
read_all (c ∷ cards) h = all_case c cards (is_end (operation_in c.text)) refl (read_all cards) h

here_case : (c : Card) (cards : List Card) (b : Bool) → is_end (operation_in c.text) ≡ b → (end_index cards < length cards → has_end (texts cards) ≡ true)
    → end_index (c ∷ cards) < length (c ∷ cards) → has_end (texts (c ∷ cards)) ≡ true
here_case c cards true e ih = rw e (λ h. refl)
here_case c cards false e ih = rw e (λ h. ih (omega arith))

pub has_here : (cards : List Card) → end_index cards < length cards → has_end (texts cards) ≡ true
has_here [] h = absurd (omega arith)
has_here (c ∷ cards) h = here_case c cards (is_end (operation_in c.text)) refl (has_here cards) h

none_case : (c : Card) (cards : List Card) (b : Bool) → is_end (operation_in c.text) ≡ b → (length cards ≤ end_index cards → has_end (texts cards) ≡ false)
    → length (c ∷ cards) ≤ end_index (c ∷ cards) → has_end (texts (c ∷ cards)) ≡ false
none_case c cards true e ih = rw e (λ h. absurd (omega arith))
none_case c cards false e ih = rw e (λ h. ih (omega arith))

pub has_none : (cards : List Card) → length cards ≤ end_index cards → has_end (texts cards) ≡ false
has_none [] h = refl
has_none (c ∷ cards) h = none_case c cards (is_end (operation_in c.text)) refl (has_none cards) h

-- the faults of all cards

missing_none : (cards : List Card) → end_index cards < length cards → missing_end cards ≡ []
missing_none cards h = rw (has_here cards h) refl

missing_one : (cards : List Card) → length cards ≤ end_index cards → missing_end cards ≡ (length cards + 1, 6) ∷ []
missing_one cards h = rw (has_none cards h) refl

numbered_push : (faults : List CardFault) (f : CardFault) → numbered (faults ++ f ∷ []) ≡ numbered faults ++ (f.card, f.number) ∷ []
numbered_push [] f = refl
numbered_push (x ∷ faults) f = ap (λ (l : List (ℕ × ℕ)). (x.card, x.number) ∷ l) (numbered_push faults f)

pub numbered_length : (faults : List CardFault) → length (numbered faults) ≡ length faults
numbered_length [] = refl
numbered_length (x ∷ faults) = ap (λ (n : ℕ). suc n) (numbered_length faults)

pub kept : (cards : List Card) (index : ℕ) (fs : List (ℕ × ℕ)) → index ≡ end_index cards → index < length cards → fs ≡ fs ++ missing_end cards
kept cards index fs e h = rw (missing_none cards (omega (arith, e, h))) (sym (append-nil fs))

pub noted : (cards : List Card) (index n : ℕ) (old new : List CardFault) → index ≡ end_index cards → length cards ≤ index → n ≡ length cards + 1
    → new ≡ old ++ record { card = n; number = 6 } ∷ [] → numbered new ≡ numbered old ++ missing_end cards
noted cards index n old new e h m s = rw (s, missing_one cards (omega (arith, e, h)), m) (numbered_push old (record { card = length cards + 1; number = 6 }))

pub texts_length : (cards : List Card) → length (texts cards) ≡ length cards
texts_length [] = refl
texts_length (c ∷ cards) = ap (λ (n : ℕ). suc n) (texts_length cards)

pub all_faults : (cards : List Card) (whole : Whole) (read : List (List ℕ)) (fs gs : List (ℕ × ℕ)) → whole ≡ whole_of (texts cards) → read ≡ cards_read (texts cards)
    → fs ≡ faults_from whole 1 nothing_known read → gs ≡ fs ++ missing_end cards → gs ≡ faults_of (texts cards)
all_faults cards whole read fs gs w r f g =
    let long : length (texts cards) ≡ length cards = texts_length cards in
    rw (g, f, w, r, long) refl

pub no_both : (xs ys : List (ℕ × ℕ)) → xs ++ ys ≡ [] → (xs ≡ []) × (ys ≡ [])
no_both [] ys h = (refl, h)
no_both (x ∷ xs) ys h = absurd (some_none h)
  where
    some_none : (x ∷ (xs ++ ys)) ≡ [] → ⊥
    some_none h = cc

abbrev pub one_unless : Bool → ℕ → List (ℕ × ℕ)
one_unless b n = if b then [] else (n, 6) ∷ []

pub end_needed : (n : ℕ) (b : Bool) → one_unless b n ≡ [] → b ≡ true
end_needed n true h = refl
end_needed n false h = absurd (some_none h)
  where
    some_none : one_unless false n ≡ [] → ⊥
    some_none h = cc

pub sound_end : (cards : List Card) → faults_of (texts cards) ≡ [] → end_index cards < length cards
sound_end cards h =
    let there : has_end (texts cards) ≡ true
    = end_needed (length (texts cards) + 1) (has_end (texts cards))
    (no_both (faults_from (whole_of (texts cards)) 1 nothing_known (cards_read (texts cards))) (if has_end (texts cards) then [] else (length (texts cards) + 1, 6) ∷ []) h).1 in
    by (nat_lt (end_index cards) (length cards)) refl there
  where
    by : (b : Bool) → nat_lt (end_index cards) (length cards) ≡ b → has_end (texts cards) ≡ true → end_index cards < length cards
    by true e t = grind (arith, nat_tests)
    by false e t = absurd (true≢false (sym t ∙ has_none cards (grind (arith, nat_tests))))

-- the start

pub said_start : (w : Whole) (k : Known) (f : Option says.Field) → number (option_map (said w.names k.place) f) ≡ start_in w k f
said_start w k None = refl
said_start w k (Some (says.placed a tag decrement)) = refl
said_start w k (Some (says.half n)) = refl
said_start w k (Some says.nothing) = refl
said_start w k (Some (says.value ts)) = refl
said_start w k (Some (says.words ws)) = refl

start_case : (w : Whole) (k : Known) (d c : Card) (cards : List Card) (b : Bool) → is_end (operation_in d.text) ≡ b
    → (c ≡ get_or cards (end_index cards) c → end_index cards < length cards
    → start_from w (known_behind k d.text) (texts cards) ≡ start_in w (known_after (known_behind k d.text) (cards_before_end (texts cards))) (says.field_for end c.text))
    → c ≡ get_or (d ∷ cards) (end_index (d ∷ cards)) c → end_index (d ∷ cards) < length (d ∷ cards)
    → start_from w k (texts (d ∷ cards)) ≡ start_in w (known_after k (cards_before_end (texts (d ∷ cards)))) (says.field_for end c.text)
start_case w k d c cards true e ih = rw e (λ i h. ap (λ (x : Card). start_in w k (says.field_for end x.text)) (sym i))
start_case w k d c cards false e ih =
    rw e (λ i h. let more : 1 + end_index cards ≡ suc (end_index cards) = omega arith in ih (i ∙ ap (λ (n : ℕ). get_or (d ∷ cards) n c) more) (omega arith))

start_at : (w : Whole) (k : Known) (c : Card) (cards : List Card) → c ≡ get_or cards (end_index cards) c → end_index cards < length cards
    → start_from w k (texts cards) ≡ start_in w (known_after k (cards_before_end (texts cards))) (says.field_for end c.text)
start_at w k c [] i h = absurd (omega arith)
start_at w k c (d ∷ cards) i h = start_case w k d c cards (is_end (operation_in d.text)) refl (start_at w (known_behind k d.text) c cards) i h

pub start_is : (w : Whole) (cards : List Card) (c : Card) (text : List ℕ) (s : Option Said) (n : ℕ) → w ≡ whole_of (texts cards) → c ≡ get_or cards (end_index cards) c → text ≡ c.text
    → end_index cards < length cards → n ≡ length w.names → s ≡ option_map (said (take n w.names) w.end_place) (says.field_for end text)
    → number s ≡ start_from w nothing_known (texts cards)
start_is w cards c text s n e i t h m r =
    let k : Known = known_after nothing_known (cards_before_end (texts cards)) in
    let place : w.end_place ≡ k.place = ap (λ (x : Whole). x.end_place) e in
    let all : take n w.names ≡ w.names = take_all n w.names (omega (arith, m)) in
    let read : number s ≡ start_in w k (says.field_for end c.text) = rw (r, t, all, place) (said_start w k (says.field_for end c.text)) in
    read ∙ sym (start_at w nothing_known c cards i h)

pub start_read : (w : Whole) (cards : List Card) (index : ℕ) (c : Card) (text : List ℕ) (s : Option Said) (n : ℕ) → w ≡ whole_of (texts cards) → index ≡ end_index cards → index < length cards
    → c ≡ get_or cards index c → text ≡ c.text → n ≡ length w.names → s ≡ option_map (said (take n w.names) w.end_place) (says.field_for end text)
    → number s ≡ start_from w nothing_known (texts cards)
start_read w cards index c text s n e x h i t m r = start_is w cards c text s n e (i ∙ ap (λ (k : ℕ). get_or cards k c) x) t (omega (arith, x, h)) m r

-- the deck

pub deck_is : (w : Whole) (cards : List (List ℕ)) (read : List (List ℕ)) (head start : ℕ) → w ≡ whole_of cards → read ≡ cards_read cards → start ≡ start_from w nothing_known cards
    → head ≡ start * 2 ^ 18 + w.blocks
    → closed (words_in (cards_in w (record { done = head ∷ []; first = 0; run = [] }) nothing_known read) w.end_place w.literals) ≡ deck_words cards
deck_is w cards read head start e r s h =
    all_words_are w nothing_known read w.end_place head w.literals ∙ rw (r, segments_same w [] nothing_known cards, h, s, e) refl

pub names_are : (w : Whole) (cards read : List (List ℕ)) → w ≡ whole_of cards → read ≡ cards_read cards → (known_after nothing_known read).symbols ≡ w.names
names_are w cards read e r = rw (r, e) refl

-- the answers

pub deck_said : (cards : List (List ℕ)) (fs : List (ℕ × ℕ)) (ws : List ℕ) → fs ≡ faults_of cards → length fs ≡ 0 → ws ≡ deck_words cards → assembled cards ≡ deck ws
unfolding assembled
deck_said cards [] ws f h w = rw (sym f, w) refl
deck_said cards (x ∷ fs) ws f h w = absurd (omega arith)

pub no_faults : (fs : List (ℕ × ℕ)) (cards : List (List ℕ)) → fs ≡ faults_of cards → length fs ≡ 0 → faults_of cards ≡ []
no_faults [] cards f h = sym f
no_faults (x ∷ fs) cards f h = absurd (omega arith)

pub faulty_said : (cards : List (List ℕ)) (fs : List (ℕ × ℕ)) → fs ≡ faults_of cards → 0 < length fs → assembled cards ≡ faulty fs
unfolding assembled
faulty_said cards [] f h = absurd (omega arith)
faulty_said cards (x ∷ fs) f h = rw (sym f) refl

-- without an END no start is said

no_start_from : (whole : Whole) (k : Known) (cards : List Card) → has_end (texts cards) ≡ false → start_from whole k (texts cards) ≡ 0
no_start_from whole k [] h = refl
no_start_from whole k (c ∷ cards) h = start_case whole k c cards (is_end (operation_in c.text)) refl h (no_start_from whole (known_behind k c.text) cards)
  where
    start_case : (whole : Whole) (k : Known) (c : Card) (cards : List Card) (b : Bool) → is_end (operation_in c.text) ≡ b → has_end (texts (c ∷ cards)) ≡ false
        → (has_end (texts cards) ≡ false → start_from whole (known_behind k c.text) (texts cards) ≡ 0) → start_from whole k (texts (c ∷ cards)) ≡ 0
    start_case whole k c cards true e h ih = absurd (true≢false (rw e at h))
    start_case whole k c cards false e h ih = rw e (ih (rw e at h))

pub no_start : (whole : Whole) (cards : List Card) (index : ℕ) → index ≡ end_index cards → length cards ≤ index → 0 ≡ start_from whole nothing_known (texts cards)
no_start whole cards index e h = sym (no_start_from whole nothing_known cards (has_none cards (omega (arith, e, h))))
