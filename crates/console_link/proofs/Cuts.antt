-- Cuts lie within the bytes, and one behind each byte.
use Rattle.std.specs.Prelude.{Bool, true, false, nat_lt, if◌then◌else◌}
use Rattle.std.specs.List.{flat_map}
use Rattle.std.proofs.Common.{◌≡◌, ℕ, ◌+◌, ◌<◌, ◌≤◌, List, [], ◌∷◌, ◌++◌, length, map, take, get_or, Vec, Global, sym, ◌∙◌, ap, subst, arith, inl, inr, length-append}
use Rattle.std.proofs.lemmas.List.{append_assoc, append-nil, map_more, take_all}
use Rattle.std.proofs.lemmas.Bool.{cases_Bool}
use Rattle.std.proofs.lemmas.Bool.Decides.{nat_tests}
use Rattle.console_link.specs.Memory.{cut_of, cuts_of}
use Rattle.console_link.specs.Fields.{AreWithin}

pub cut_within : (n at : ℕ) (cuts : List ℕ) → at ≤ n → AreWithin n cuts → cut_of at cuts ≤ n
cut_within n at [] le h = le
cut_within n at (c ∷ cuts) le h = elim (nat_lt at c) as (λ b. (if b then c else cut_of at cuts) ≤ n) [ true ↦ h.0 | false ↦ cut_within n at cuts le h.1 ]

abbrev pub flat : List (List ℕ) → List ℕ
flat pieces = flat_map (λ (piece : List ℕ). piece) pieces

longer : (piece : List ℕ) (pieces : List (List ℕ)) → length (flat (piece ∷ pieces)) ≡ length piece + length (flat pieces)
longer piece pieces = length-append piece (flat_map (λ (p : List ℕ). p) pieces)

pub cuts_within : (n at : ℕ) (pieces : List (List ℕ)) → at + length (flat pieces) ≤ n → AreWithin n (cuts_of at pieces)
cuts_within n at [] h = tt
cuts_within n at (piece ∷ pieces) h = (omega (arith, longer piece pieces), cuts_within n (at + length piece) pieces (omega (arith, longer piece pieces)))

pub cut_behind : (from at : ℕ) (pieces : List (List ℕ)) → from ≤ at → at < from + length (flat pieces) → at < cut_of at (cuts_of from pieces)
cut_behind from at [] le lt = absurd (omega arith)
cut_behind from at (piece ∷ pieces) le lt = elim (cases_Bool (nat_lt at (from + length piece))) [
  | inl q ↦
      let here : at < from + length piece = grind (arith, nat_tests) in
      subst (λ (b : Bool). at < (if b then from + length piece else cut_of at (cuts_of (from + length piece) pieces))) (sym q) here
  | inr q ↦
      let past : from + length piece ≤ at = grind (arith, nat_tests) in
      subst (λ (b : Bool). at < (if b then from + length piece else cut_of at (cuts_of (from + length piece) pieces))) (sym q)
      (cut_behind (from + length piece) at pieces past (omega (arith, longer piece pieces)))
]

pub cuts_more : (from : ℕ) (pieces : List (List ℕ)) (piece : List ℕ) → cuts_of from (pieces ++ piece ∷ []) ≡ cuts_of from pieces ++ (from + length (flat (pieces ++ piece ∷ []))) ∷ []
cuts_more from [] piece = let is : from + length piece ≡ from + length (flat (piece ∷ [])) = omega (arith, longer piece []) in ap (λ (n : ℕ). n ∷ []) is
cuts_more from (p ∷ pieces) piece =
    let is : (from + length p) + length (flat (pieces ++ piece ∷ [])) ≡ from + length (flat (p ∷ pieces ++ piece ∷ [])) = omega (arith, longer p (pieces ++ piece ∷ [])) in
    ap (λ (l : List ℕ). (from + length p) ∷ l) (cuts_more (from + length p) pieces piece ∙ ap (λ (n : ℕ). cuts_of (from + length p) pieces ++ n ∷ []) is)

flat_push : (pieces : List (List ℕ)) (piece : List ℕ) → flat (pieces ++ piece ∷ []) ≡ flat pieces ++ piece
flat_push [] piece = append-nil piece
flat_push (p ∷ pieces) piece = ap (λ (l : List ℕ). p ++ l) (flat_push pieces piece) ∙ sym (append_assoc p (flat pieces) piece)

abbrev items : Vec ℕ Global → List ℕ
items piece = piece.items

front : (pieces : List (Vec ℕ Global)) (i : ℕ) (piece : Vec ℕ Global) → i < length pieces → piece ≡ get_or pieces i piece → map items (take (i + 1) pieces) ≡ map items (take i pieces) ++ piece.items ∷ []
front pieces i piece lt is = map_more items pieces i piece lt ∙ ap (λ (x : Vec ℕ Global). map items (take i pieces) ++ x.items ∷ []) (sym is)

-- one piece more
pub bytes_more : (pieces : List (Vec ℕ Global)) (i : ℕ) (piece : Vec ℕ Global) (bytes now : List ℕ) → i < length pieces → piece ≡ get_or pieces i piece →
    bytes ≡ flat (map items (take i pieces)) → now ≡ bytes ++ piece.items → now ≡ flat (map items (take (i + 1) pieces))
bytes_more pieces i piece bytes now lt here was is =
    is ∙ ap (λ (l : List ℕ). l ++ piece.items) was ∙ sym (flat_push (map items (take i pieces)) piece.items) ∙ ap flat (sym (front pieces i piece lt here))

pub cuts_next : (pieces : List (Vec ℕ Global)) (i : ℕ) (piece : Vec ℕ Global) (cuts now bytes : List ℕ) → i < length pieces → piece ≡ get_or pieces i piece →
    cuts ≡ cuts_of 0 (map items (take i pieces)) → bytes ≡ flat (map items (take (i + 1) pieces)) → now ≡ cuts ++ length bytes ∷ [] → now ≡ cuts_of 0 (map items (take (i + 1) pieces))
cuts_next pieces i piece cuts now bytes lt here was all is =
    let all' : bytes ≡ flat (map items (take i pieces) ++ piece.items ∷ []) = all ∙ ap flat (front pieces i piece lt here) in
    let size : length bytes ≡ 0 + length (flat (map items (take i pieces) ++ piece.items ∷ [])) = omega (arith, ap length all') in
    is ∙ ap (λ (l : List ℕ). l ++ length bytes ∷ []) was ∙ ap (λ (n : ℕ). cuts_of 0 (map items (take i pieces)) ++ n ∷ []) size
    ∙ sym (cuts_more 0 (map items (take i pieces)) piece.items) ∙ ap (cuts_of 0) (sym (front pieces i piece lt here))

pub all_pieces : (pieces : List (Vec ℕ Global)) (i : ℕ) → length pieces ≤ i → map items (take i pieces) ≡ map items pieces
all_pieces pieces i le = ap (map items) (take_all i pieces le)

pub cuts_fit : (bytes cuts : List ℕ) (pieces : List (List ℕ)) → bytes ≡ flat pieces → cuts ≡ cuts_of 0 pieces → AreWithin (length bytes) cuts
cuts_fit bytes cuts pieces all is = subst (AreWithin (length bytes)) (sym is) (cuts_within (length bytes) 0 pieces (omega (arith, ap length all)))

pub cuts_lie : (bytes cuts : List ℕ) (pieces : List (List ℕ)) → bytes ≡ flat pieces → cuts ≡ cuts_of 0 pieces → (at : ℕ) → at < length bytes → at < cut_of at cuts
cuts_lie bytes cuts pieces all is at lt = subst (λ (l : List ℕ). at < cut_of at l) (sym is) (cut_behind 0 at pieces (omega arith) (omega (arith, ap length all)))
