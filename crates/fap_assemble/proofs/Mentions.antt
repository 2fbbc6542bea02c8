-- The symbols of a field and of cards, one after another.
use Rattle.std.proofs.Common.{◌≡◌, ℕ, suc, ◌+◌, ◌<◌, true, false, List, [], ◌∷◌, ◌++◌, length, get_or, drop, sym, ap, ◌∙◌, arith, append_assoc, append-nil}
use Rattle.std.specs.List.{flat_map}
use Rattle.fap_read.specs.declared.card.Card.{Card}
use Rattle.fap_read.specs.Peeled.{parts_from}
use Rattle.fap_model.specs.declared.types.Mention.{Mention}
use Rattle.fap_model.specs.Terms.{items_of, begins_literal}
use Rattle.fap_model.specs.Listed.{mentioned, mentions_from, used_in}
use Rattle.fap_assemble.specs.Steps.{texts}
use Rattle.fap_assemble.specs.Mentions.{named_term, mentions_of}
use Rattle.fap_assemble.proofs.Passes.{texts_at}

-- a term more
pub term_noted : (n sign : ℕ) (rest first : List ℕ) (behind : List (ℕ × List ℕ)) (ms ns all : List Mention) → parts_from sign rest ≡ (sign, first) ∷ behind
    → ms ++ mentions_of n (parts_from sign rest) ≡ all → ns ≡ ms ++ mentioned n (named_term first) → ns ++ mentions_of n behind ≡ all
term_noted n sign rest first behind ms ns all is was more =
    ap (λ (l : List Mention). l ++ mentions_of n behind) more
    ∙ append_assoc ms (mentioned n (named_term first)) (mentions_of n behind)
    ∙ ap (λ (ps : List (ℕ × List ℕ)). ms ++ mentions_of n ps) (sym is)
    ∙ was

-- all terms of an item
pub terms_noted : (n : ℕ) (item : List ℕ) (ms old : List Mention) → begins_literal item ≡ false → ms ++ [] ≡ old ++ mentions_of n (parts_from 43 item)
    → ms ≡ old ++ used_in n item
terms_noted n item ms old plain was = rw plain (sym (append-nil ms) ∙ was)

pub literal_noted : (n : ℕ) (item : List ℕ) (old : List Mention) → begins_literal item ≡ true → old ≡ old ++ used_in n item
literal_noted n item old is = rw is (sym (append-nil old))

-- an item more
pub item_noted : (n : ℕ) (rest item : List ℕ) (behind : List (List ℕ)) (ms ns all : List Mention) → items_of rest ≡ item ∷ behind
    → ms ++ flat_map (used_in n) (items_of rest) ≡ all → ns ≡ ms ++ used_in n item → ns ++ flat_map (used_in n) behind ≡ all
item_noted n rest item behind ms ns all is was more =
    ap (λ (l : List Mention). l ++ flat_map (used_in n) behind) more
    ∙ append_assoc ms (used_in n item) (flat_map (used_in n) behind)
    ∙ ap (λ (items : List (List ℕ)). ms ++ flat_map (used_in n) items) (sym is)
    ∙ was

-- a card more
pub card_noted : (f : ℕ → List ℕ → List Mention) (cards : List Card) (i : ℕ) (c : Card) (text : List ℕ) (n m : ℕ) (ms ns all : List Mention) → i < length cards
    → c ≡ get_or cards i c → text ≡ c.text → ms ++ mentions_from f n (texts (drop i cards)) ≡ all → ns ≡ ms ++ f n text → m ≡ n + 1
    → ns ++ mentions_from f m (texts (drop (i + 1) cards)) ≡ all
card_noted f cards i c text n m ms ns all lt is e was more number =
    let first : texts (drop i cards) ≡ text ∷ texts (drop (i + 1) cards) = texts_at cards i c lt is ∙ ap (λ (x : List ℕ). x ∷ texts (drop (i + 1) cards)) (sym e) in
    let one : m ≡ suc n = omega (arith, number) in
    rw (more, one)
    (append_assoc ms (f n text) (mentions_from f (suc n) (texts (drop (i + 1) cards)))
    ∙ ap (λ (cs : List (List ℕ)). ms ++ mentions_from f n cs) (sym first) ∙ was)
