-- claim: expressions, numbers and literals.
use Rattle.std.specs.Prelude.{ℕ, ◌^◌, Bool, false, ◌&&◌, ◌||◌, ◌==◌, nat_eq, nat_lt, nat_le, if◌then◌else◌, List, [], ◌∷◌, length, filter, Option, Some, None, bytes_eq, codes}
use Rattle.std.specs.Option.{option_map, option_and_then}
use Rattle.std.specs.List.{list_all, slice_split, zip}
use Rattle.std.specs.Str.Parse.{digits_value}
use Rattle.word36.specs.Bits.{word_of}
use Rattle.ctss_types.specs.Words.{name_of}
use Rattle.fap_model.specs.Cards.{is_digit, is_symbol}
use Rattle.fap_model.specs.declared.types.Term.{Term}
use Rattle.fap_model.specs.declared.types.Term.TheVariants.{Named, Number, Here}

abbrev pub term_of : List ℕ → Option Term
term_of text =
    if bytes_eq text (codes "*") then Some Here
    else (if bytes_eq text (codes "**") then Some (Number 0)
    else (if nat_lt 0 (length text) && list_all is_digit text then (if nat_le (digits_value 10 text) 32767 then Some (Number (digits_value 10 text)) else None)
    else (if is_symbol text then Some (Named (name_of text)) else None)))

abbrev pub is_sign : ℕ → Bool
is_sign b = nat_eq b 43 || nat_eq b 45

-- a term with its sign, true where it is minus
abbrev pub Signed : Type 0
Signed = Bool × Term

abbrev pub signed_all : List (ℕ × List ℕ) → Option (List Signed)
signed_all [] = Some []
signed_all (p ∷ ps) = option_and_then (λ t. option_map (λ ts. (nat_eq p.0 45, t) ∷ ts) (signed_all ps)) (term_of p.1)

-- terms joined by plus and minus, or nothing
abbrev pub expression : List ℕ → Option (List Signed)
expression [] = Some []
expression (b ∷ text) = signed_all (zip (43 ∷ filter is_sign (b ∷ text)) (slice_split is_sign (b ∷ text)))

-- a sign, if there is one, and decimal digits for at most 2^35 - 1
abbrev pub digits_word : Bool → List ℕ → Option ℕ
digits_word negative text =
    if nat_lt 0 (length text) && list_all is_digit text && nat_lt (digits_value 10 text) (2 ^ 35) then Some (word_of negative (digits_value 10 text)) else None

abbrev pub decimal_word : List ℕ → Option ℕ
decimal_word [] = None
decimal_word (b ∷ text) = if is_sign b then digits_word (nat_eq b 45) text else digits_word false (b ∷ text)

abbrev pub is_octal : ℕ → Bool
is_octal b = nat_le 48 b && nat_le b 55

-- at most so many octal digits; none are zero
abbrev pub octal_number : ℕ → List ℕ → Option ℕ
octal_number most text = if nat_le (length text) most && list_all is_octal text then Some (digits_value 8 text) else None

-- what stands behind the = of a literal: O and octal digits, H and up to six characters, or a decimal number
abbrev pub literal_word : List ℕ → Option ℕ
literal_word [] = None
literal_word (b ∷ text) =
    if nat_eq b 79 then (if nat_lt 0 (length text) then octal_number 12 text else None)
    else (if nat_eq b 72 then (if nat_le (length text) 6 then Some (name_of text) else None)
    else decimal_word (b ∷ text))

-- what stands between commas
abbrev pub items_of : List ℕ → List (List ℕ)
items_of field = slice_split (λ b. b == 44) field

abbrev pub all_words : (List ℕ → Option ℕ) → List (List ℕ) → Option (List ℕ)
all_words f [] = Some []
all_words f (x ∷ xs) = option_and_then (λ w. option_map (λ ws. w ∷ ws) (all_words f xs)) (f x)

-- whether a text begins as a literal does
abbrev pub begins_literal : List ℕ → Bool
begins_literal [] = false
begins_literal (b ∷ text) = nat_eq b 61

-- the texts between signs, each with the sign before it; the first has a plus
abbrev pub signed_texts : List ℕ → List (ℕ × List ℕ)
signed_texts text = zip (43 ∷ filter is_sign text) (slice_split is_sign text)
