-- What words print as, word by word.
use Rattle.std.proofs.Common.{◌≡◌, ◌≤◌, ◌<◌, ◌+◌, ◌-◌, ◌*◌, ℕ, zero, suc, Bool, true, false, ◌&&◌, List, [], ◌∷◌, ◌++◌, length, slice_index, append_assoc, length-append, refl, sym, ap, ◌∙◌, arith}
use Rattle.std.specs.List.{flat_map, list_all}
use Rattle.bcd48.specs.Characters.{is_character}
use Rattle.bcd48.specs.Words.{characters_of}
use Rattle.bcd48.proofs.Table.{all_characters}
use Rattle.ctss_types.specs.Line.{trimmed}
use Rattle.ctss_types.proofs.NameText.{trimmed_length, trimmed_all}
use Rattle.program_model.specs.Lines.{words_at}

words_first : (core : List ℕ) (at n : ℕ) → 0 < n → words_at core at n ≡ slice_index core at ∷ words_at core (suc at) (n - 1)
words_first core at zero h = absurd (omega arith)
words_first core at (suc n) h = let e : n ≡ suc n - 1 = omega arith in ap (λ (k : ℕ). slice_index core at ∷ words_at core (suc at) k) e

-- text, one word, and the words behind it
pub print_more : (text core : List ℕ) (at n : ℕ) → 0 < n →
    (text ++ characters_of (slice_index core at)) ++ flat_map characters_of (words_at core (at + 1) (n - 1)) ≡ text ++ flat_map characters_of (words_at core at n)
print_more text core at n h =
    let e : at + 1 ≡ suc at = omega arith in
    append_assoc text (characters_of (slice_index core at)) (flat_map characters_of (words_at core (at + 1) (n - 1)))
    ∙ ap (λ (k : ℕ). text ++ (characters_of (slice_index core at) ++ flat_map characters_of (words_at core k (n - 1)))) e
    ∙ ap (λ (ws : List ℕ). text ++ flat_map characters_of ws) (sym (words_first core at n h))

pub print_none : (text core : List ℕ) (at : ℕ) → text ≡ text ++ flat_map characters_of (words_at core at 0)
print_none [] core at = refl
print_none (x ∷ xs) core at = ap (λ (ys : List ℕ). x ∷ ys) (print_none xs core at)

all_append : (xs ys : List ℕ) → list_all is_character xs ≡ true → list_all is_character ys ≡ true → list_all is_character (xs ++ ys) ≡ true
all_append [] ys h k = k
all_append (x ∷ xs) ys h k = let p = both (is_character x) (list_all is_character xs) h in rw (p.0, all_append xs ys p.1 k) refl
  where
    both : (a b : Bool) → (a && b) ≡ true → (a ≡ true) × (b ≡ true)
    both true b h = (refl, h)
    both false b h = cc

all_printed : (ws : List ℕ) → list_all is_character (flat_map characters_of ws) ≡ true
all_printed [] = refl
all_printed (w ∷ ws) = all_append (characters_of w) (flat_map characters_of ws) (all_characters w) (all_printed ws)

pub printed_length : (core : List ℕ) (at n : ℕ) → length (flat_map characters_of (words_at core at n)) ≡ 6 * n
printed_length core at zero = refl
printed_length core at (suc n) =
    let e = length-append (characters_of (slice_index core at)) (flat_map characters_of (words_at core (suc at) n)) in
    let h = printed_length core (suc at) n in
    omega (arith, e, h)

-- what words print as is a line, if they are not too many
pub printed_characters : (core : List ℕ) (at n : ℕ) → list_all is_character (trimmed (flat_map characters_of (words_at core at n))) ≡ true
printed_characters core at n = trimmed_all is_character (flat_map characters_of (words_at core at n)) (all_printed (words_at core at n))

pub printed_short : (core : List ℕ) (at n : ℕ) → n ≤ 14 → length (trimmed (flat_map characters_of (words_at core at n))) ≤ 84
printed_short core at n h =
    let a = trimmed_length (flat_map characters_of (words_at core at n)) in
    let b = printed_length core at n in
    omega (arith, a, b, h)

pub ruleset prints = (print_more, print_none)

pub ruleset printed = (printed_characters, printed_short)
