-- What words print as, word by word, is a line.
use Rattle.std.proofs.Common.{◌≡◌, ◌≤◌, ◌<◌, ◌+◌, ◌*◌, ℕ, true, List, [], ◌∷◌, ◌++◌, length, take, get_or, length-append, length-take, refl, sym, ap, ◌∙◌, arith, add-one}
use Rattle.std.specs.List.{flat_map, list_all}
use Rattle.std.proofs.Math.Seq.{take-suc}
use Rattle.std.proofs.lemmas.Grind.{flat_map-append}
use Rattle.bcd48.specs.Characters.{is_character}
use Rattle.bcd48.specs.Words.{characters_of}
use Rattle.bcd48.proofs.Table.{all_characters}
use Rattle.ctss_types.specs.Line.{trimmed}
use Rattle.ctss_types.proofs.NameText.{trimmed_length, trimmed_all}
use Rattle.ctss_types.proofs.Trim.{all_of_both}

-- one word more
pub print_more : (words text part new : List ℕ) (i w : ℕ) → i < length words → w ≡ get_or words i w → text ≡ flat_map characters_of (take i words)
    → part ≡ characters_of w → new ≡ text ++ part → new ≡ flat_map characters_of (take (i + 1) words)
print_more words text part new i w h is before shown added =
    let one : take (i + 1) words ≡ take i words ++ get_or words i w ∷ [] = rw add-one (take-suc words i w h) in
    added ∙ ap (λ (t : List ℕ). t ++ part) before ∙ ap (λ (p : List ℕ). flat_map characters_of (take i words) ++ p) (shown ∙ ap characters_of is)
    ∙ sym (ap (λ (ws : List ℕ). flat_map characters_of ws) one ∙ flat_map-append characters_of (take i words) (get_or words i w ∷ []))

-- what words print as is of the 48 characters
pub all_printed : (words : List ℕ) → list_all is_character (flat_map characters_of words) ≡ true
all_printed [] = refl
all_printed (w ∷ words) = all_of_both (characters_of w) (flat_map characters_of words) (all_characters w) (all_printed words)

-- six characters for each word
printed_length : (words : List ℕ) → length (flat_map characters_of words) ≡ 6 * length words
printed_length [] = refl
printed_length (w ∷ words) =
    let e = length-append (characters_of w) (flat_map characters_of words) in
    let h = printed_length words in
    omega (arith, e, h)

-- there is room for one word more
pub printed_room : (words : List ℕ) (i : ℕ) → i < length words → length words ≤ 14 → length (flat_map characters_of (take i words)) + 6 ≤ 84
printed_room words i h few = omega (arith, printed_length (take i words), length-take i words)

-- what words print as is a line, if they are not too many
pub printed_characters : (words : List ℕ) → list_all is_character (trimmed (flat_map characters_of words)) ≡ true
printed_characters words = trimmed_all is_character (flat_map characters_of words) (all_printed words)

pub printed_short : (words : List ℕ) (i : ℕ) → length words ≤ 14 → length (trimmed (flat_map characters_of (take i words))) ≤ 84
printed_short words i few = omega (arith, trimmed_length (flat_map characters_of (take i words)), printed_length (take i words), length-take i words)

pub ruleset prints = (print_more, printed_room, all_printed, all_characters, printed_characters, printed_short)
