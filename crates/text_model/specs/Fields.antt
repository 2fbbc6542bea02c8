-- claim: the fields of a card: what stands between blanks.
use Rattle.std.specs.Prelude.{ℕ, Bool, ◌&&◌, nat_eq, nat_le, List, [], ◌∷◌, length, Option, Some, None, if◌then◌else◌}
use Rattle.std.specs.Option.{option_map}
use Rattle.std.specs.List.{list_all}
use Rattle.std.specs.Str.Parse.{digits_value}
use Rattle.bcd48.specs.Characters.{is_character}
use Rattle.ctss_types.specs.Line.{trimmed}
use Rattle.ctss_types.specs.Words.{name_of, word_in, behind_word}
use Rattle.text_model.specs.declared.card.CardText.{CardText}
use Rattle.text_model.specs.declared.card.CardText.TheVariants.{Fits, TooLong}

abbrev pub is_decimal : ℕ → Bool
is_decimal b = nat_le 48 b && nat_le b 57

abbrev pub is_octal : ℕ → Bool
is_octal b = nat_le 48 b && nat_le b 55

abbrev pub is_within : ℕ → ℕ → ℕ → Bool
is_within low high n = nat_le low n && nat_le n high

-- a number is 1 to 9 decimal digits
abbrev pub number_in : List ℕ → Option ℕ
number_in field =
    if is_within 1 9 (length field) && list_all is_decimal field then Some (digits_value 10 field) else None

-- a name is 1 to 6 of the 48 characters
abbrev pub name_in : List ℕ → Option ℕ
name_in field = if is_within 1 6 (length field) && list_all is_character field then Some (name_of field) else None

-- a word is 1 to 12 octal digits
abbrev pub octal_in : List ℕ → Option ℕ
octal_in field = if is_within 1 12 (length field) && list_all is_octal field then Some (digits_value 8 field) else None

-- the first field of a text as a number, and what stands behind it
abbrev pub first_number : List ℕ → Option (ℕ × List ℕ)
first_number text = option_map (λ n. (n, behind_word text)) (number_in (word_in text))

-- the first field as a name, and what stands behind it
abbrev pub first_name : List ℕ → Option (ℕ × List ℕ)
first_name text = option_map (λ n. (n, behind_word text)) (name_in (word_in text))

-- whether no field is left
abbrev pub is_over : List ℕ → Bool
is_over text = nat_eq (length (word_in text)) 0

-- a text of at most 84 characters
abbrev pub fitted : List ℕ → CardText
fitted text = if nat_le (length text) 84 then Fits text else TooLong

-- a text of the 48 characters, without the blanks behind it
abbrev pub text_in : List ℕ → Option CardText
text_in text = if list_all is_character (trimmed text) then Some (fitted (trimmed text)) else None

-- the text behind a word and just one blank, empty where nothing stands there
abbrev pub text_behind : List ℕ → Option CardText
text_behind [] = Some (Fits [])
text_behind (b ∷ text) = text_in text
