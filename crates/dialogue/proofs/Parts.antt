-- A line with its arguments, part by part.
use Rattle.std.proofs.Common.{◌≡◌, ℕ, Bool, true, false, not, ◌&&◌, ◌+◌, ◌≤◌, zero, suc, List, [], ◌∷◌, ◌++◌, Option, Some, None, length, take, drop, cond, map, refl, ap, sym, subst, ◌∙◌, arith, append_assoc}
use Rattle.std.specs.Prelude.{◌==◌, nat_eq, option_map}
use Rattle.std.specs.List.{list_all, prefix_len, slice_split, onto_first}
use Rattle.std.proofs.lemmas.Bool.Decides.{nat_tests}
use Rattle.std.proofs.lemmas.List.Folds.{list_all-append}
use Rattle.bcd48.specs.Characters.{is_character}
use Rattle.ctss_types.specs.Words.{word_in, behind_word}
use Rattle.program_model.specs.CommandLines.{Line, argument_for, before_all, all_of, joined_all, with_arguments}
use Rattle.dialogue.specs.Made.{IsPart}

abbrev is_blank : ℕ → Bool
is_blank b = b == 32

abbrev is_dark : ℕ → Bool
is_dark b = not (b == 32)

-- the parts behind the first
abbrev pub parts_after : List ℕ → List (List ℕ)
parts_after [] = []
parts_after (y ∷ ys) = slice_split is_blank ys

one_more : (n : ℕ) → 1 + n ≡ suc n
one_more n = omega arith

split_is : (xs : List ℕ) → slice_split is_blank xs ≡ take (prefix_len is_dark xs) xs ∷ parts_after (drop (prefix_len is_dark xs) xs)
split_is [] = refl
split_is (x ∷ xs) = elim (is_blank x) as (λ b. cond b ([] ∷ slice_split is_blank xs) (onto_first x (slice_split is_blank xs))
    ≡ take (cond (not b) (1 + prefix_len is_dark xs) 0) (x ∷ xs) ∷ parts_after (drop (cond (not b) (1 + prefix_len is_dark xs) 0) (x ∷ xs))) [
      | true ↦ refl
      | false ↦ rw (one_more, split_is xs) refl
    ]

-- parts with their arguments
abbrev with_parts : List Line → List Line → Option Line
with_parts arguments parts = joined_all (all_of (map (argument_for arguments) parts))

last_part : (o : Option Line) → joined_all (before_all o (Some [])) ≡ o
last_part None = refl
last_part (Some v) = refl

more_parts : (v : Line) (o : Option Line) (os : Option (List Line)) → joined_all (before_all (Some v) (before_all o os)) ≡ option_map (λ l. v ++ 32 ∷ l) (joined_all (before_all o os))
more_parts v None os = refl
more_parts v (Some w) None = refl
more_parts v (Some w) (Some ws) = refl

-- a line whose first part isn't there
pub no_part : (arguments : List Line) (line : Line) → argument_for arguments (take (prefix_len is_dark line) line) ≡ None → with_arguments arguments line ≡ None
no_part arguments line none =
    ap (with_parts arguments) (split_is line)
    ∙ ap (λ (o : Option Line). joined_all (before_all o (all_of (map (argument_for arguments) (parts_after (drop (prefix_len is_dark line) line)))))) none

-- a line of one part
pub one_part : (arguments : List Line) (line before after value : Line) → drop (prefix_len is_dark line) line ≡ [] → argument_for arguments (take (prefix_len is_dark line) line) ≡ Some value → after ≡ before ++ value →
    IsPart true before after (with_arguments arguments line)
one_part arguments line before after value over is added = (
  value,
  added,
  ap (with_parts arguments) (split_is line)
      ∙ (λ j. joined_all (before_all (argument_for arguments (take (prefix_len is_dark line) line)) (all_of (map (argument_for arguments) (parts_after (over j))))))
      ∙ last_part (argument_for arguments (take (prefix_len is_dark line) line)) ∙ is,
)

-- a line of more parts
whole_part : (arguments : List Line) (line : Line) (x : ℕ) (rest value : Line) → drop (prefix_len is_dark line) line ≡ x ∷ rest → argument_for arguments (take (prefix_len is_dark line) line) ≡ Some value →
    with_arguments arguments line ≡ option_map (λ l. value ++ 32 ∷ l) (with_arguments arguments rest)
whole_part arguments line x rest value behind is =
    ap (with_parts arguments) (split_is line)
    ∙ (λ j. joined_all (before_all (is j) (all_of (map (argument_for arguments) (parts_after (behind j))))))
    ∙ (λ j. joined_all (before_all (Some value) (all_of (map (argument_for arguments) (split_is rest j)))))
    ∙ more_parts value (argument_for arguments (take (prefix_len is_dark rest) rest)) (all_of (map (argument_for arguments) (parts_after (drop (prefix_len is_dark rest) rest))))
    ∙ (λ j. option_map (λ l. value ++ 32 ∷ l) (with_parts arguments (sym (split_is rest) j)))

pub parts_on : (arguments : List Line) (line : Line) (x : ℕ) (rest value : Line) (whole : Bool) (before after : Line) → drop (prefix_len is_dark line) line ≡ x ∷ rest → argument_for arguments (take (prefix_len is_dark line) line) ≡ Some value →
    IsPart whole ((before ++ value) ++ 32 ∷ []) after (with_arguments arguments rest) → IsPart whole before after (with_arguments arguments line)
parts_on arguments line x rest value false before after behind is h =
    whole_part arguments line x rest value behind is ∙ ap (option_map (λ l. value ++ 32 ∷ l)) h
parts_on arguments line x rest value true before after behind is h = (
  value ++ 32 ∷ h.0,
  h.1 ∙ append_assoc (before ++ value) (32 ∷ []) h.0 ∙ append_assoc before value (32 ∷ h.0),
  whole_part arguments line x rest value behind is ∙ ap (option_map (λ l. value ++ 32 ∷ l)) h.2,
)

-- characters

pub both : (a b : Bool) → (a && b) ≡ true → (a ≡ true) × (b ≡ true)
both true true h = (refl, refl)
both true false h = cc
both false _ h = cc

all_take : (n : ℕ) (xs : List ℕ) → list_all is_character xs ≡ true → list_all is_character (take n xs) ≡ true
all_take zero [] h = refl
all_take (suc n) [] h = refl
all_take zero (x ∷ xs) h = refl
all_take (suc n) (x ∷ xs) h = let b = both (is_character x) (list_all is_character xs) h in (λ j. b.0 j && all_take n xs b.1 j)

all_drop : (n : ℕ) (xs : List ℕ) → list_all is_character xs ≡ true → list_all is_character (drop n xs) ≡ true
all_drop zero [] h = refl
all_drop (suc n) [] h = refl
all_drop zero (x ∷ xs) h = h
all_drop (suc n) (x ∷ xs) h = all_drop n xs (both (is_character x) (list_all is_character xs) h).1

pub word_all : (text w : List ℕ) → w ≡ word_in text → list_all is_character text ≡ true → list_all is_character w ≡ true
word_all text w is h =
    let rest : List ℕ = drop (prefix_len is_blank text) text in
    ap (list_all is_character) is ∙ all_take (prefix_len is_dark rest) rest (all_drop (prefix_len is_blank text) text h)

pub behind_all : (text w : List ℕ) → w ≡ behind_word text → list_all is_character text ≡ true → list_all is_character w ≡ true
behind_all text w is h =
    let rest : List ℕ = drop (prefix_len is_blank text) text in
    ap (list_all is_character) is ∙ all_drop (prefix_len is_dark rest) rest (all_drop (prefix_len is_blank text) text h)

pub rest_all : (n : ℕ) (line w : List ℕ) → w ≡ drop n line → list_all is_character line ≡ true → list_all is_character w ≡ true
rest_all n line w is h = ap (list_all is_character) is ∙ all_drop n line h

-- what is left of a line

pub some_left : (xs : List ℕ) → 1 ≤ length xs → (x : ℕ) × (xs ≡ x ∷ drop 1 xs)
some_left [] h = absurd (omega (arith, h))
some_left (x ∷ xs) h = (x, refl)

all_append : (xs ys : List ℕ) → list_all is_character xs ≡ true → list_all is_character ys ≡ true → list_all is_character (xs ++ ys) ≡ true
all_append xs ys one other = list_all-append is_character xs ys ∙ (λ j. one j && other j)

-- a text with a value and a blank behind it
pub grown_all : (text value mid new : List ℕ) → mid ≡ text ++ value → new ≡ mid ++ 32 ∷ [] → list_all is_character text ≡ true → list_all is_character value ≡ true → list_all is_character new ≡ true
grown_all text value mid new a b one other =
    ap (list_all is_character) (b ∙ ap (λ (xs : List ℕ). xs ++ 32 ∷ []) a) ∙ all_append (text ++ value) (32 ∷ []) (all_append text value one other) refl

pub parts_from : (arguments : List Line) (line : Line) (behind rest value : Line) (whole : Bool) (before mid grown after : Line) (n : ℕ) → n ≡ prefix_len is_dark line → behind ≡ drop n line → 1 ≤ length behind → rest ≡ drop 1 behind
    → argument_for arguments (take (prefix_len is_dark line) line) ≡ Some value → mid ≡ before ++ value → grown ≡ mid ++ 32 ∷ []
    → IsPart whole grown after (with_arguments arguments rest) → IsPart whole before after (with_arguments arguments line)
parts_from arguments line behind rest value whole before mid grown after n len back some tail is a b h =
    let first = some_left behind some in
    let split : drop (prefix_len is_dark line) line ≡ first.0 ∷ rest = ap (λ (k : ℕ). drop k line) (sym len) ∙ sym back ∙ first.1 ∙ ap (λ (xs : List ℕ). first.0 ∷ xs) (sym tail) in
    parts_on arguments line first.0 rest value whole before after split is
    (subst (λ (xs : Line). IsPart whole xs after (with_arguments arguments rest)) (b ∙ ap (λ (xs : Line). xs ++ 32 ∷ []) a) h)

pub empty_is : (xs : List ℕ) → nat_eq (length xs) 0 ≡ true → xs ≡ []
empty_is [] h = refl
empty_is (x ∷ xs) h = absurd (grind (arith, nat_tests))

pub some_is : (xs : List ℕ) → nat_eq (length xs) 0 ≡ false → 1 ≤ length xs
some_is [] h = cc
some_is (x ∷ xs) h = omega arith
