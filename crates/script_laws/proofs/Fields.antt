-- Numbers, names and words as they are written, read back.
use Rattle.std.proofs.Common.{◌≡◌, ℕ, zero, suc, ◌+◌, ◌-◌, ◌/◌, ◌%◌, ◌^◌, ◌<◌, ◌≤◌, Bool, true, false, not, nat_eq, List, [], ◌∷◌, ◌++◌, length, get_or, map, take, drop, replicate, Option, Some, None, refl, sym, ap, ap₂, subst, ◌∙◌, arith, length-append}
use Rattle.std.specs.Prelude.{◌==◌}
use Rattle.std.specs.Option.{option_map, unwrap_or}
use Rattle.std.specs.List.{All, list_all, prefix_len}
use Rattle.std.specs.Char.{digit_value}
use Rattle.std.specs.Fmt.{decimal}
use Rattle.std.specs.Str.Parse.{AllDigits, digits_value}
use Rattle.std.proofs.Math.Nat.{pow-suc}
use Rattle.std.proofs.Math.Seq.{take-append_seam, drop-append_seam}
use Rattle.std.proofs.lemmas.Bool.{and_parts, and_from, not-true}
use Rattle.std.proofs.lemmas.Bool.Decides.{nat_tests}
use Rattle.std.proofs.lemmas.Fmt.{decimal_is_IsNumeral, length-decimal-le}
use Rattle.std.proofs.lemmas.Int.Digits.{digits_value_push}
use Rattle.std.proofs.lemmas.List.{append-nil, length-map, length-replicate}
use Rattle.std.proofs.lemmas.List.Elements.{All-map}
use Rattle.std.proofs.lemmas.List.Folds.{list_all-append}
use Rattle.std.proofs.lemmas.Str.Parse.{digit_from_value}
use Rattle.word36.specs.Octal.{octal_digits, octal_text}
use Rattle.bcd48.specs.Characters.{is_character, code_of, char_of}
use Rattle.bcd48.proofs.Packing.{codes_in-packed}
use Rattle.bcd48.proofs.Table.{char_of-code_of}
use Rattle.ctss_types.specs.Line.{trimmed, before_rest}
use Rattle.ctss_types.specs.Words.{name_of, text_of_name, code_for, word_in, behind_word}
use Rattle.text_model.specs.Parts.{number, name}
use Rattle.text_model.specs.Canonical.{octal}
use Rattle.text_model.specs.Fields.{is_decimal, is_octal, is_within, number_in, name_in, octal_in, first_number, first_name}
use Rattle.text_model.specs.Lawful.{is_name_character, IsName}
use Rattle.text_model.proofs.FieldLaws.{code_below}
use Rattle.script_laws.proofs.Lines.{is_shown, is_clean}

-- a field behind a blank

-- the blank
abbrev is_blank : ℕ → Bool
is_blank b = b == 32

-- any other byte
abbrev is_dark : ℕ → Bool
is_dark b = not (b == 32)

-- a text that is empty or begins with a blank
abbrev pub starts_blank : List ℕ → Bool
starts_blank [] = true
starts_blank (b ∷ bs) = is_blank b

-- a field is not empty and has no blanks
pub record IsField (field : List ℕ) : Type 0 where
  pub some : 1 ≤ length field
  pub dark : list_all is_dark field ≡ true

-- one more at the front
one_more : (n : ℕ) → 1 + n ≡ suc n
one_more n = omega arith

-- a field ends where a blank or nothing stands
stops : (rest : List ℕ) → starts_blank rest ≡ true → prefix_len is_dark rest ≡ 0
stops [] h = refl
stops (b ∷ bs) h = rw h refl

-- a field is as long as what is taken
dark_length : (field rest : List ℕ) → list_all is_dark field ≡ true → starts_blank rest ≡ true → prefix_len is_dark (field ++ rest) ≡ length field
dark_length [] rest dark h = stops rest h
dark_length (b ∷ bs) rest dark h =
    let parts = and_parts (is_dark b) (list_all is_dark bs) dark in
    rw (parts.0, one_more) (ap suc (dark_length bs rest parts.1 h))

-- a dark byte is no blank
no_blank : (b : ℕ) → is_dark b ≡ true → is_blank b ≡ false
no_blank b h = not-true (is_blank b) h

-- no blanks stand before a field
no_blanks : (field rest : List ℕ) → IsField field → prefix_len is_blank (field ++ rest) ≡ 0
no_blanks [] rest f = absurd (omega (arith, f.some))
no_blanks (b ∷ bs) rest f = rw (no_blank b (and_parts (is_dark b) (list_all is_dark bs) f.dark).0) refl

-- the blank before a field is skipped
one_blank : (field rest : List ℕ) → IsField field → drop (prefix_len is_blank (32 ∷ (field ++ rest))) (32 ∷ (field ++ rest)) ≡ field ++ rest
one_blank field rest f = ap (λ (n : ℕ). drop (1 + n) (32 ∷ (field ++ rest))) (no_blanks field rest f)

-- the first word of a field behind a blank is that field
pub word_read : (field rest : List ℕ) → IsField field → starts_blank rest ≡ true → word_in (32 ∷ (field ++ rest)) ≡ field
word_read field rest f h =
    ap (λ (t : List ℕ). take (prefix_len is_dark t) t) (one_blank field rest f)
    ∙ ap (λ (n : ℕ). take n (field ++ rest)) (dark_length field rest f.dark h)
    ∙ take-append_seam field rest

-- and the rest stands behind it
pub behind_read : (field rest : List ℕ) → IsField field → starts_blank rest ≡ true → behind_word (32 ∷ (field ++ rest)) ≡ rest
behind_read field rest f h =
    ap (λ (t : List ℕ). drop (prefix_len is_dark t) t) (one_blank field rest f)
    ∙ ap (λ (n : ℕ). drop n (field ++ rest)) (dark_length field rest f.dark h)
    ∙ drop-append_seam field rest

-- numbers

-- a digit by its value
digit_is : (c : ℕ) → digit_value c < 10 → is_decimal c ≡ true
digit_is c h = let r = digit_from_value c h in grind (arith, nat_tests)

-- digits by their values
digits_are : (ds : List ℕ) → AllDigits 10 ds → list_all is_decimal ds ≡ true
digits_are [] h = refl
digits_are (d ∷ ds) h = and_from (is_decimal d) (list_all is_decimal ds) (digit_is d h.0) (digits_are ds h.1)

-- a test that follows from another follows for lists
pub all_weaker : (p q : ℕ → Bool) → ((b : ℕ) → p b ≡ true → q b ≡ true) → (xs : List ℕ) → list_all p xs ≡ true → list_all q xs ≡ true
all_weaker p q weaker [] h = refl
all_weaker p q weaker (x ∷ xs) h =
    let parts = and_parts (p x) (list_all p xs) h in
    and_from (q x) (list_all q xs) (weaker x parts.0) (all_weaker p q weaker xs parts.1)

-- a digit is no blank
decimal_dark : (b : ℕ) → is_decimal b ≡ true → is_dark b ≡ true
decimal_dark b h = grind (arith, nat_tests)

-- a digit is shown
decimal_shown : (b : ℕ) → is_decimal b ≡ true → is_shown b ≡ true
decimal_shown b h = grind (arith, nat_tests)

-- a number of up to nine digits
abbrev pub IsNumber : ℕ → Type 0
IsNumber n = n < 10 ^ 9

-- a number is written in 1 to 9 digits
decimal_field : (n : ℕ) → IsNumber n → (1 ≤ length (decimal n)) × (length (decimal n) ≤ 9) × (list_all is_decimal (decimal n) ≡ true)
decimal_field n h =
    let numeral = (decimal_is_IsNumeral n (omega arith)).0 in
    (omega (arith, numeral.0), length-decimal-le 9 n (omega arith) h (omega arith), digits_are (decimal n) numeral.1)

-- a number is a field
pub number_field : (n : ℕ) → IsNumber n → IsField (decimal n)
number_field n h = let d = decimal_field n h in record { some = d.0; dark = all_weaker is_decimal is_dark decimal_dark (decimal n) d.2 }

-- a test of two limits that passes
within_from : (low high n : ℕ) → low ≤ n → n ≤ high → is_within low high n ≡ true
within_from low high n h k = grind (arith, nat_tests)

-- a number as it is written reads as itself
pub number_read : (n : ℕ) → IsNumber n → number_in (decimal n) ≡ Some n
number_read n h =
    let d = decimal_field n h in
    rw (within_from 1 9 (length (decimal n)) d.0 d.1, d.2) (ap Some (decimal_is_IsNumeral n (omega arith)).1)

-- a number as the first field
pub first_number_read : (n : ℕ) (rest : List ℕ) → IsNumber n → starts_blank rest ≡ true → first_number (number n ++ rest) ≡ Some (n, rest)
first_number_read n rest h k =
    ap₂ (λ (w b : List ℕ). option_map (λ (m : ℕ). (m, b)) (number_in w)) (word_read (decimal n) rest (number_field n h) k) (behind_read (decimal n) rest (number_field n h) k)
    ∙ ap (option_map (λ (m : ℕ). (m, rest))) (number_read n h)

-- a number as the last field
pub last_number_read : (n : ℕ) → IsNumber n → first_number (number n) ≡ Some (n, [])
last_number_read n h = ap first_number (sym (append-nil (number n))) ∙ first_number_read n [] h refl

-- a number is clean
pub number_clean : (n : ℕ) → IsNumber n → is_clean (number n) ≡ true
number_clean n h = all_weaker is_decimal is_shown decimal_shown (decimal n) (decimal_field n h).2

-- names

-- a character of a name is dark and shown
name_dark : (b : ℕ) → is_name_character b ≡ true → is_dark b ≡ true
name_dark b h = (and_parts (is_character b) (not (nat_eq b 32)) h).1

-- a name's character is one of the 48
name_character : (b : ℕ) → is_name_character b ≡ true → is_character b ≡ true
name_character b h = (and_parts (is_character b) (not (nat_eq b 32)) h).0

-- the 48 characters are shown
pub character_shown : (b : ℕ) → is_character b ≡ true → is_shown b ≡ true
character_shown b h = grind (arith, nat_tests)

-- a code that is there
just_is : (o : Option ℕ) (b : ℕ) → option_map char_of o ≡ Some b → char_of (unwrap_or o 48) ≡ b
just_is None b h = cc
just_is (Some c) b h = cc

-- a character's code prints as it
printed_again : (text : List ℕ) → list_all is_character text ≡ true → map char_of (map code_for text) ≡ text
printed_again [] h = refl
printed_again (b ∷ bs) h =
    let parts = and_parts (is_character b) (list_all is_character bs) h in
    ap₂ (λ (x : ℕ) (l : List ℕ). x ∷ l) (just_is (code_of b) b (char_of-code_of b parts.0)) (printed_again bs parts.1)

-- blanks are of the 48 characters
blanks_are : (n : ℕ) → list_all is_character (replicate n 32) ≡ true
blanks_are zero = refl
blanks_are (suc n) = blanks_are n

-- blanks alone are trimmed
only_blanks : (n : ℕ) → trimmed (replicate n 32) ≡ []
only_blanks zero = refl
only_blanks (suc n) = ap (before_rest 32) (only_blanks n)

-- a dark byte stays
dark_before : (b : ℕ) (bs : List ℕ) → is_dark b ≡ true → before_rest b bs ≡ b ∷ bs
dark_before b [] h = rw (no_blank b h) refl
dark_before b (c ∷ cs) h = refl

-- blanks behind a dark text are trimmed
blanks_trimmed : (text : List ℕ) (n : ℕ) → list_all is_dark text ≡ true → trimmed (text ++ replicate n 32) ≡ text
blanks_trimmed [] n h = only_blanks n
blanks_trimmed (b ∷ bs) n h =
    let parts = and_parts (is_dark b) (list_all is_dark bs) h in
    ap (before_rest b) (blanks_trimmed bs n parts.1) ∙ dark_before b bs parts.0

-- the codes of a text have 6 bits
codes_below : (text : List ℕ) → All (λ c. c < 64) (map code_for text)
codes_below text = All-map (λ c. c < 64) code_for text (λ k d h. code_below (get_or text k d))

-- a name's word prints as the name
name_printed : (text : List ℕ) → length text ≤ 6 → list_all is_name_character text ≡ true → text_of_name (name_of text) ≡ text
unfolding name_of text_of_name
name_printed text few all =
    let padded : List ℕ = text ++ replicate (6 - length text) 32 in
    let blanks : length {A = ℕ} (replicate (6 - length text) 32) ≡ 6 - length text = length-replicate (6 - length text) 32 in
    let size : length (map code_for padded) ≡ 6 = length-map padded code_for ∙ length-append text (replicate (6 - length text) 32) ∙ omega (arith, blanks) in
    let characters : list_all is_character padded ≡ true =
    list_all-append is_character text (replicate (6 - length text) 32)
    ∙ and_from (list_all is_character text) (list_all is_character (replicate (6 - length text) 32)) (all_weaker is_name_character is_character name_character text all) (blanks_are (6 - length text)) in
    ap (λ (cs : List ℕ). trimmed (map char_of cs)) (codes_in-packed (map code_for padded) size (codes_below padded))
    ∙ ap trimmed (printed_again padded characters)
    ∙ blanks_trimmed text (6 - length text) (all_weaker is_name_character is_dark name_dark text all)

-- a name reads as its word
text_in_field : (text : List ℕ) → 1 ≤ length text → length text ≤ 6 → list_all is_name_character text ≡ true → name_in text ≡ Some (name_of text)
text_in_field text some few all =
    rw (within_from 1 6 (length text) some few, all_weaker is_name_character is_character name_character text all) refl

-- a name as it is written is a field
pub name_field : (w : ℕ) → IsName w → IsField (text_of_name w)
name_field w n =
    subst (λ (v : ℕ). IsField (text_of_name v)) (sym n.word_is)
    (subst IsField (sym (name_printed n.text n.few n.characters)) (record { some = n.some; dark = all_weaker is_name_character is_dark name_dark n.text n.characters }))

-- a name as it is written reads as its word
pub name_read : (w : ℕ) → IsName w → name_in (text_of_name w) ≡ Some w
name_read w n =
    subst (λ (v : ℕ). name_in (text_of_name v) ≡ Some v) (sym n.word_is)
    (ap name_in (name_printed n.text n.few n.characters) ∙ text_in_field n.text n.some n.few n.characters)

-- a name as the first field
pub first_name_read : (w : ℕ) (rest : List ℕ) → IsName w → starts_blank rest ≡ true → first_name (name w ++ rest) ≡ Some (w, rest)
first_name_read w rest n k =
    ap₂ (λ (v b : List ℕ). option_map (λ (m : ℕ). (m, b)) (name_in v)) (word_read (text_of_name w) rest (name_field w n) k) (behind_read (text_of_name w) rest (name_field w n) k)
    ∙ ap (option_map (λ (m : ℕ). (m, rest))) (name_read w n)

-- a name's character is shown
name_shown : (b : ℕ) → is_name_character b ≡ true → is_shown b ≡ true
name_shown b h = character_shown b (name_character b h)

-- a name is clean
pub name_clean : (w : ℕ) → IsName w → is_clean (name w) ≡ true
name_clean w n =
    subst (λ (v : ℕ). is_clean (name v) ≡ true) (sym n.word_is)
    (ap is_clean (name_printed n.text n.few n.characters) ∙ all_weaker is_name_character is_shown name_shown n.text n.characters)

-- words in octal

-- the value of an octal digit
octal_digit : (n : ℕ) → n < 8 → digit_value (48 + n) ≡ n
octal_digit n h = grind (arith, nat_tests)

-- an octal digit is one
octal_test : (n : ℕ) → n < 8 → is_octal (48 + n) ≡ true
octal_test n h = grind (arith, nat_tests)

-- octal digits have the value of their number
octal_value : (k n : ℕ) → n < 8 ^ k → digits_value 8 (octal_digits k n) ≡ n
unfolding octal_digits
octal_value zero n h = omega arith
octal_value (suc k) n h =
    let rest = octal_value k (n / 8) (omega (arith, pow-suc 8 k)) in
    digits_value_push 8 (octal_digits k (n / 8)) (48 + n % 8) ∙ rw (rest, octal_digit (n % 8) (omega arith)) (omega arith)

-- there are so many of them
octal_size : (k n : ℕ) → length (octal_digits k n) ≡ k
unfolding octal_digits
octal_size zero n = refl
octal_size (suc k) n = length-append (octal_digits k (n / 8)) ((48 + n % 8) ∷ []) ∙ omega (arith, octal_size k (n / 8))

-- they are octal digits
octal_all : (k n : ℕ) → list_all is_octal (octal_digits k n) ≡ true
unfolding octal_digits
octal_all zero n = refl
octal_all (suc k) n =
    list_all-append is_octal (octal_digits k (n / 8)) ((48 + n % 8) ∷ [])
    ∙ and_from (list_all is_octal (octal_digits k (n / 8))) (list_all is_octal ((48 + n % 8) ∷ [])) (octal_all k (n / 8)) (and_from (is_octal (48 + n % 8)) true (octal_test (n % 8) (omega arith)) refl)

-- a word has 36 bits
abbrev pub IsWord : ℕ → Type 0
IsWord w = w < 2 ^ 36

-- an octal digit is no blank
octal_dark : (b : ℕ) → is_octal b ≡ true → is_dark b ≡ true
octal_dark b h = grind (arith, nat_tests)

-- an octal digit is shown
octal_shown : (b : ℕ) → is_octal b ≡ true → is_shown b ≡ true
octal_shown b h = grind (arith, nat_tests)

-- a word in octal is a field
pub octal_field : (w : ℕ) → IsField (octal_text w)
octal_field w = record { some = omega (arith, octal_size 12 w); dark = all_weaker is_octal is_dark octal_dark (octal_text w) (octal_all 12 w) }

-- a word in octal reads as itself
pub octal_read : (w : ℕ) → IsWord w → octal_in (octal_text w) ≡ Some w
octal_read w h =
    let size = octal_size 12 w in
    rw (within_from 1 12 (length (octal_text w)) (omega (arith, size)) (omega (arith, size)), octal_all 12 w) (ap Some (octal_value 12 w h))

-- a word in octal is clean
pub octal_clean : (w : ℕ) → is_clean (octal w) ≡ true
octal_clean w = all_weaker is_octal is_shown octal_shown (octal_text w) (octal_all 12 w)
