-- What a field that is read is: a name, a word of 36 bits, a line.
use Rattle.std.proofs.Common.{◌≡◌, ℕ, zero, suc, ◌+◌, ◌-◌, ◌^◌, ◌<◌, ◌≤◌, Bool, true, false, not, cond, ◌&&◌, nat_eq, nat_le, List, [], ◌∷◌, ◌++◌, length, get_or, map, take, drop, replicate, Option, Some, None, refl, sym, ap, subst, ◌∙◌, arith, length-append, length-take}
use Rattle.std.specs.Prelude.{◌==◌}
use Rattle.std.specs.Option.{option_map, unwrap_or}
use Rattle.std.specs.List.{All, list_all, prefix_len, position}
use Rattle.std.specs.Str.Parse.{AllDigits, digits_value}
use Rattle.std.specs.Char.{digit_value}
use Rattle.std.proofs.Math.Nat.{pow-suc, pow-le-pow_right, mul-le-mul_right}
use Rattle.std.proofs.lemmas.Bool.{and_parts, and_from}
use Rattle.std.proofs.lemmas.Bool.Decides.{nat_tests}
use Rattle.std.proofs.lemmas.Int.Digits.{digits_value-lt}
use Rattle.std.proofs.lemmas.List.{length-map, length-replicate}
use Rattle.std.proofs.lemmas.List.Elements.{All-nil, All-cons, All-head, All-tail, All-map}
use Rattle.std.proofs.lemmas.List.Quantifiers.{position-Some}
use Rattle.std.proofs.lemmas.Option.{option_and_then_some}
use Rattle.bcd48.specs.Characters.{printed, is_character}
use Rattle.bcd48.specs.Words.{packed}
use Rattle.ctss_types.specs.Line.{trimmed, before_rest}
use Rattle.ctss_types.specs.Words.{name_of, code_for, word_in, behind_word}
use Rattle.program_model.specs.Lines.{words_of_line}
use Rattle.text_model.specs.declared.card.CardText.{CardText}
use Rattle.text_model.specs.declared.card.CardText.TheVariants.{Fits, TooLong}
use Rattle.text_model.specs.Fields.{is_octal, is_within, name_in, octal_in, first_name, is_over, fitted, text_in, text_behind}
use Rattle.text_model.specs.Cards.{fields_in, words_card_in}
use Rattle.text_model.specs.Lawful.{IsName, IsTyped}
use Rattle.text_model.proofs.Drafted.{at_most}

-- answers

-- a test that gave an answer was true, and the answer is the one behind it
pub answered : {A : Type 0} (b : Bool) (x y : A) → cond b (Some x) None ≡ Some y → (b ≡ true) × (x ≡ y)
answered true x y h = (refl, cc)
answered false x y h = cc

-- what a map gave comes from an answer
pub mapped : {A B : Type 0} (f : A → B) (o : Option A) (y : B) → option_map f o ≡ Some y → (x : A) × (o ≡ Some x) × (f x ≡ y)
mapped f None y h = cc
mapped f (Some x) y h = (x, refl, cc)

-- the two ways of a test between answers
pub either : {A : Type 0} (P : A → Type 0) (b : Bool) (o q : Option A) (y : A) → cond b o q ≡ Some y → (o ≡ Some y → P y) → (q ≡ Some y → P y) → P y
either P true o q y h first second = first h
either P false o q y h first second = second h

-- one more at the front
one_more : (n : ℕ) → 1 + n ≡ suc n
one_more n = omega arith

-- the step of what follows, by the test
taken_at : (p : ℕ → Bool) (x : ℕ) (xs : List ℕ) (b : Bool) → p x ≡ b → list_all p (take (prefix_len p xs) xs) ≡ true → list_all p (take (prefix_len p (x ∷ xs)) (x ∷ xs)) ≡ true
taken_at p x xs true e ih = rw (e, one_more, e) ih
taken_at p x xs false e ih = rw e refl

-- what is taken while a test passes passes it
taken : (p : ℕ → Bool) (xs : List ℕ) → list_all p (take (prefix_len p xs) xs) ≡ true
taken p [] = refl
taken p (x ∷ xs) = taken_at p x xs (p x) refl (taken p xs)

-- a field has no blanks
pub field_is_dark : (text : List ℕ) → list_all (λ b. not (b == 32)) (word_in text) ≡ true
field_is_dark text = taken (λ b. not (b == 32)) (drop (prefix_len (λ b. b == 32) text) text)

-- names

-- two tests that pass at each element, as one test
both_pass : (p q : ℕ → Bool) (xs : List ℕ) → list_all p xs ≡ true → list_all q xs ≡ true → list_all (λ b. p b && q b) xs ≡ true
both_pass p q [] h k = refl
both_pass p q (x ∷ xs) h k =
    let first = and_parts (p x) (list_all p xs) h in
    let second = and_parts (q x) (list_all q xs) k in
    and_from (p x && q x) (list_all (λ b. p b && q b) xs) (and_from (p x) (q x) first.0 second.0) (both_pass p q xs first.1 second.1)

-- a field that is read as a name is one
name_in_is : (field : List ℕ) (word : ℕ) → list_all (λ b. not (b == 32)) field ≡ true → name_in field ≡ Some word → IsName word
name_in_is field word dark h =
    let t = answered (is_within 1 6 (length field) && list_all is_character field) (name_of field) word h in
    let parts = and_parts (is_within 1 6 (length field)) (list_all is_character field) t.0 in
    let size = and_parts (nat_le 1 (length field)) (nat_le (length field) 6) parts.0 in
    record {
      text = field;
      word_is = sym t.1;
      some = at_most 1 (length field) size.0;
      few = at_most (length field) 6 size.1;
      characters = both_pass is_character (λ b. not (b == 32)) field parts.1 dark;
    }

-- the first field as a name is one
pub first_name_is : (text : List ℕ) (p : ℕ × List ℕ) → first_name text ≡ Some p → IsName p.0
first_name_is text p h =
    let m = mapped (λ (n : ℕ). (n, behind_word text)) (name_in (word_in text)) p h in
    subst (λ (q : ℕ × List ℕ). IsName q.0) m.2 (name_in_is (word_in text) m.0 (field_is_dark text) m.1)

-- words of 36 bits

-- the value of an octal digit
octal_digit : (b : ℕ) → is_octal b ≡ true → digit_value b < 8
octal_digit b h = grind (arith, nat_tests)

-- octal digits by their values
octal_digits_are : (ds : List ℕ) → list_all is_octal ds ≡ true → AllDigits 8 ds
octal_digits_are [] h = tt
octal_digits_are (d ∷ ds) h = let parts = and_parts (is_octal d) (list_all is_octal ds) h in (octal_digit d parts.0, octal_digits_are ds parts.1)

-- a field that is read as a word has 36 bits
pub octal_in_below : (field : List ℕ) (w : ℕ) → octal_in field ≡ Some w → w < 2 ^ 36
octal_in_below field w h =
    let t = answered (is_within 1 12 (length field) && list_all is_octal field) (digits_value 8 field) w h in
    let parts = and_parts (is_within 1 12 (length field)) (list_all is_octal field) t.0 in
    let size = and_parts (nat_le 1 (length field)) (nat_le (length field) 12) parts.0 in
    let few : length field ≤ 12 = at_most (length field) 12 size.1 in
    let most = pow-le-pow_right {n = 8} (omega arith) {i = length field} {j = 12} few in
    let below = digits_value-lt 8 field (octal_digits_are field parts.1) in
    subst (λ (n : ℕ). n < 2 ^ 36) t.1 (omega (arith, most, below))

-- a word has 36 bits
abbrev IsWord : ℕ → Type 0
IsWord w = w < 2 ^ 36

-- no fields
none_are : (P : ℕ → Type 0) (xs : List ℕ) → ◌≡◌ {A = Option (List ℕ)} (Some []) (Some xs) → All P xs
none_are P xs h = let e : [] ≡ xs = cc in subst (All P) e (All-nil P)

-- fields that are read have what each that is read has
fields_in_are : (P : ℕ → Type 0) (read : List ℕ → Option ℕ) → ((field : List ℕ) (x : ℕ) → read field ≡ Some x → P x) → (n : ℕ) (text xs : List ℕ) → fields_in read n text ≡ Some xs → All P xs
fields_in_are P read each zero text xs h = either (All P) (is_over text) (Some []) None xs h (none_are P xs) (λ k. cc)
fields_in_are P read each (suc n) text xs h =
    either (All P) (is_over text) (Some []) _ xs h (none_are P xs) (λ k.
    option_and_then_some _ (read (word_in text)) xs k (λ x ex hx.
    let m = mapped (λ (ys : List ℕ). x ∷ ys) (fields_in read n (behind_word text)) xs hx in
    subst (All P) m.2 (All-cons P x m.0 (each (word_in text) x ex) (fields_in_are P read each n (behind_word text) m.0 m.1))))

-- the words of an O card have 36 bits
pub words_card_in_are : (text ws : List ℕ) → words_card_in text ≡ Some ws → All IsWord ws
words_card_in_are text ws h = either (All IsWord) (is_over text) None (fields_in octal_in 5 text) ws h (λ k. cc) (fields_in_are IsWord octal_in octal_in_below 5 text ws)

-- the word of a name

-- a place in the list of characters
found_below : (b : ℕ) (o : Option ℕ) → position (λ c. c == b) printed ≡ o → unwrap_or o 48 < 64
found_below b None h = omega arith
found_below b (Some i) h = (position-Some (λ c. c == b) printed i 0 h).0

-- a character's code has 6 bits
pub code_below : (b : ℕ) → code_for b < 64
code_below b = elim (b == 32) as (λ t. unwrap_or (cond t (Some 48) (position (λ c. c == b) printed)) 48 < 64) [ true ↦ omega arith | false ↦ found_below b _ refl ]

-- codes of 6 bits in a word
packed_below : (cs : List ℕ) → All (λ c. c < 64) cs → packed cs < 64 ^ length cs
packed_below [] small = omega arith
packed_below (c ∷ cs) small =
    let first : c < 64 = All-head (λ c. c < 64) c cs small in
    let rest = packed_below cs (All-tail (λ c. c < 64) c cs small) in
    let most = mul-le-mul_right {m = c} {n = 63} (64 ^ length cs) (omega arith) in
    omega (arith, pow-suc 64 (length cs), most, rest)

-- the codes of a text
codes_below : (text : List ℕ) → All (λ c. c < 64) (map code_for text)
codes_below text = All-map (λ c. c < 64) code_for text (λ k d h. code_below (get_or text k d))

-- the word of a name has 36 bits
pub name_of_below : (text : List ℕ) → length text ≤ 6 → name_of text < 2 ^ 36
unfolding name_of
name_of_below text few =
    let blanks : length {A = ℕ} (replicate (6 - length text) 32) ≡ 6 - length text = length-replicate (6 - length text) 32 in
    let whole : length (text ++ replicate (6 - length text) 32) ≡ 6 = length-append text (replicate (6 - length text) 32) ∙ omega (arith, blanks) in
    let size : length (map code_for (text ++ replicate (6 - length text) 32)) ≡ 6 = length-map (text ++ replicate (6 - length text) 32) code_for ∙ whole in
    let below = packed_below (map code_for (text ++ replicate (6 - length text) 32)) (codes_below (text ++ replicate (6 - length text) 32)) in
    subst (λ (n : ℕ). packed (map code_for (text ++ replicate (6 - length text) 32)) < 64 ^ n) size below

-- the words of a line have 36 bits
pub words_of_line_are : (n : ℕ) (line : List ℕ) → All IsWord (words_of_line n line)
words_of_line_are zero line = All-nil IsWord
words_of_line_are (suc n) line =
    All-cons IsWord (name_of (take 6 line)) (words_of_line n (drop 6 line)) (name_of_below (take 6 line) (omega (arith, length-take 6 line))) (words_of_line_are n (drop 6 line))

-- lines

-- one character, trimmed again
one_again : (x : ℕ) (b : Bool) → nat_eq x 32 ≡ b → trimmed (cond b [] (x ∷ [])) ≡ cond b [] (x ∷ [])
one_again x true e = refl
one_again x false e = rw e refl

-- one character more, trimmed again
before_again : (x : ℕ) (xs : List ℕ) → trimmed xs ≡ xs → trimmed (before_rest x xs) ≡ before_rest x xs
before_again x [] h = one_again x (nat_eq x 32) refl
before_again x (y ∷ ys) h = ap (before_rest x) h

-- a line without its trailing blanks has none
pub trimmed_again : (xs : List ℕ) → trimmed (trimmed xs) ≡ trimmed xs
trimmed_again [] = refl
trimmed_again (x ∷ xs) = before_again x (trimmed xs) (trimmed_again xs)

-- where a text fits, it is a line
abbrev pub IsTypedIf : CardText → Type 0
IsTypedIf (Fits l) = IsTyped l
IsTypedIf TooLong = Unit {0}

-- a text that fits, by its length
fitted_by : (xs : List ℕ) (b : Bool) → nat_le (length xs) 84 ≡ b → list_all is_character xs ≡ true → trimmed xs ≡ xs → IsTypedIf (cond b (Fits xs) TooLong)
fitted_by xs true e all ends = record { few = at_most (length xs) 84 e; characters = all; ends = ends }
fitted_by xs false e all ends = tt

-- a text that is read is a line, where it fits
text_in_is : (text : List ℕ) (t : CardText) → text_in text ≡ Some t → IsTypedIf t
text_in_is text t h =
    let a = answered (list_all is_character (trimmed text)) (fitted (trimmed text)) t h in
    subst IsTypedIf a.1 (fitted_by (trimmed text) (nat_le (length (trimmed text)) 84) refl a.0 (trimmed_again text))

-- the text of a card is a line, where it fits
pub text_behind_is : (text : List ℕ) (t : CardText) → text_behind text ≡ Some t → IsTypedIf t
text_behind_is [] t h = let e : Fits [] ≡ t = cc in subst IsTypedIf e (record { few = omega arith; characters = refl; ends = refl })
text_behind_is (b ∷ text) t h = text_in_is text t h
