-- The walk through the words of a deck finds its segments, and passes where they are laid.
use Rattle.std.proofs.Common.{◌≡◌, ℕ, zero, suc, ◌+◌, ◌≤◌, true, ◌&&◌, nat_le, List, [], ◌∷◌, ◌++◌, length, All, refl, sym, ap, ◌∙◌, arith, eqb-true, leb-true, le-leb}
use Rattle.std.proofs.lemmas.Bool.{and_parts, and_from}
use Rattle.std.proofs.lemmas.List.Elements.{All-nil, All-cons, All-head, All-tail}
use Rattle.word36.specs.Bits.{address_of, decrement_of}
use Rattle.program_model.specs.Decks.{are_segments}
use Rattle.fap_model.specs.Decks.{Segment}
use Rattle.rule_laws.specs.Decks.{AreLaid, IsInside}

-- words so many of which are still of a segment: those, and segments laid behind them
pub record Found (size left : ℕ) (words : List ℕ) : Type 0 where
  pub front : List ℕ
  pub rest : List ℕ
  pub segments : List Segment
  pub front_is : length front ≡ left
  pub words_are : words ≡ front ++ rest
  pub laid : AreLaid segments rest
  pub inside : All (IsInside size) segments

-- a head before words whose front is its segment
with_head : (size head : ℕ) (ws : List ℕ) → nat_le 1 (decrement_of head) ≡ true
    → nat_le (address_of head + decrement_of head) size ≡ true → Found size (decrement_of head) ws
    → Found size 0 (head ∷ ws)
with_head size head ws some inside f =
    let s : Segment = record { first = address_of head; words = f.front } in
    let one : 1 ≤ decrement_of head = leb-true 1 (decrement_of head) some in
    let end : address_of head + decrement_of head ≤ size = leb-true (address_of head + decrement_of head) size inside in
    let within : IsInside size s =
    record { some = omega (arith, one, f.front_is); inside = omega (arith, end, f.front_is) } in
    record {
      front = [];
      rest = head ∷ ws;
      segments = s ∷ f.segments;
      front_is = refl;
      words_are = refl;
      laid = (head, f.rest, ap (λ (l : List ℕ). head ∷ l) f.words_are, refl, sym f.front_is, f.laid);
      inside = All-cons (IsInside size) s f.segments within f.inside;
    }

-- one word more before the front
with_word : (size left w : ℕ) (ws : List ℕ) → Found size left ws → Found size (suc left) (w ∷ ws)
with_word size left w ws f =
    record {
      front = w ∷ f.front;
      rest = f.rest;
      segments = f.segments;
      front_is = ap suc f.front_is;
      words_are = ap (λ (l : List ℕ). w ∷ l) f.words_are;
      laid = f.laid;
      inside = f.inside;
    }

pub found : (size left : ℕ) (words : List ℕ) → are_segments size left words ≡ true → Found size left words
found size left [] h =
    record {
      front = [];
      rest = [];
      segments = [];
      front_is = sym (eqb-true left 0 h);
      words_are = refl;
      laid = refl;
      inside = All-nil (IsInside size);
    }
found size zero (w ∷ ws) h =
    let all = and_parts (nat_le 1 (decrement_of w) && nat_le (address_of w + decrement_of w) size)
    (are_segments size (decrement_of w) ws) h in
    let head = and_parts (nat_le 1 (decrement_of w)) (nat_le (address_of w + decrement_of w) size) all.0 in
    with_head size w ws head.0 head.1 (found size (decrement_of w) ws all.1)
found size (suc left) (w ∷ ws) h = with_word size left w ws (found size left ws h)

-- the words of a segment are passed
passed : (size : ℕ) (front rest : List ℕ) → are_segments size (length front) (front ++ rest) ≡ are_segments size 0 rest
passed size [] rest = refl
passed size (w ∷ front) rest = passed size front rest

-- a segment is passed
one_passed : (size head : ℕ) (s : Segment) (rest : List ℕ) → address_of head ≡ s.first
    → decrement_of head ≡ length s.words → IsInside size s → are_segments size 0 rest ≡ true
    → are_segments size 0 (head ∷ (s.words ++ rest)) ≡ true
one_passed size head s rest place count inside behind =
    let some : 1 ≤ decrement_of head = omega (arith, count, inside.some) in
    let end : address_of head + decrement_of head ≤ size = omega (arith, place, count, inside.inside) in
    and_from (nat_le 1 (decrement_of head) && nat_le (address_of head + decrement_of head) size)
    (are_segments size (decrement_of head) (s.words ++ rest))
    (and_from (nat_le 1 (decrement_of head)) (nat_le (address_of head + decrement_of head) size)
    (le-leb 1 (decrement_of head) some) (le-leb (address_of head + decrement_of head) size end))
    (ap (λ (n : ℕ). are_segments size n (s.words ++ rest)) count ∙ passed size s.words rest ∙ behind)

pub all_passed : (size : ℕ) (segments : List Segment) (words : List ℕ) → AreLaid segments words
    → All (IsInside size) segments → are_segments size 0 words ≡ true
all_passed size [] words laid inside = ap (λ (l : List ℕ). are_segments size 0 l) laid
all_passed size (s ∷ segments) words laid inside =
    ap (λ (l : List ℕ). are_segments size 0 l) laid.2
    ∙ one_passed size laid.0 s laid.1 laid.3 laid.4 (All-head (IsInside size) s segments inside)
    (all_passed size segments laid.1 laid.5 (All-tail (IsInside size) s segments inside))
