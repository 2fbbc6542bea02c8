-- The fields of a card, one after another.
use Rattle.std.proofs.Common.{◌≡◌, ℕ, zero, suc, ◌-◌, ◌≢◌, ◌≤◌, true, false, List, [], ◌∷◌, ◌++◌, length, Option, Some, None, refl, sym, ap, ◌∙◌, arith, append_assoc}
use Rattle.std.proofs.lemmas.Bool.{eqb-false}
use Rattle.std.proofs.lemmas.List.{append-nil, length_push}
use Rattle.std.specs.Prelude.{◌==◌, if◌then◌else◌, Ok, Err}
use Rattle.std.specs.declared.result.Result.{Result}
use Rattle.std.specs.Option.{option_map}
use Rattle.ctss_types.specs.Words.{word_in, behind_word}
use Rattle.text_model.specs.Fields.{first_number, is_over, number_in, octal_in}
use Rattle.text_model.specs.declared.cause.ScriptCause.{ScriptCause}
use Rattle.text_model.specs.declared.cause.ScriptCause.TheVariants.{NotACard}
use Rattle.text_model.specs.Cards.{fields_in}
use Rattle.text_model.specs.Drafts.{by_form}
use Rattle.text_model.proofs.FieldLaws.{mapped}

-- fields, if there are, behind others
abbrev pub behind : List ℕ → Option (List ℕ) → Option (List ℕ)
behind fields said = option_map (λ xs. fields ++ xs) said

-- a card of at most so many words
abbrev pub card_of : ℕ → List ℕ → Option (List ℕ)
card_of most text = if is_over text then None else fields_in octal_in most text

-- fields behind one more
behind_one : (fields : List ℕ) (x : ℕ) (said : Option (List ℕ)) → behind fields (option_map (λ (xs : List ℕ). x ∷ xs) said) ≡ behind (fields ++ x ∷ []) said
behind_one fields x None = refl
behind_one fields x (Some xs) = ap Some (sym (append_assoc fields (x ∷ []) xs))

-- the first field of a text
pub field_more : (read : List ℕ → Option ℕ) (left : ℕ) (fields text : List ℕ) (x : ℕ) → left ≢ 0 → is_over text ≡ false → read (word_in text) ≡ Some x
    → behind (fields ++ x ∷ []) (fields_in read (left - 1) (behind_word text)) ≡ behind fields (fields_in read left text)
field_more read zero fields text x some over is = absurd (some refl)
field_more read (suc n) fields text x some over is =
    let count : suc n - 1 ≡ n = omega arith in
    rw (count, over, is) (sym (behind_one fields x (fields_in read n (behind_word text))))

-- no field, where none is left
no_more : (read : List ℕ → Option ℕ) (left : ℕ) (text : List ℕ) → is_over text ≡ true → fields_in read left text ≡ Some []
no_more read zero text over = rw over refl
no_more read (suc n) text over = rw over refl

-- fields that have been read are those of the text, where none is left
pub fields_read : (read : List ℕ → Option ℕ) (fields rest : List ℕ) (said : Option (List ℕ)) (left : ℕ) → behind fields (fields_in read left rest) ≡ said → is_over rest ≡ true
    → said ≡ Some fields
fields_read read fields rest said left is over = sym is ∙ ap (behind fields) (no_more read left rest over) ∙ ap Some (append-nil fields)

-- no fields, where the next one is not read
no_field : (read : List ℕ → Option ℕ) (left : ℕ) (text : List ℕ) → is_over text ≡ false → read (word_in text) ≡ None → fields_in read left text ≡ None
no_field read zero text over is = rw over refl
no_field read (suc n) text over is = rw (over, is) refl

-- none, where the next one is not read
pub fields_refused : (read : List ℕ → Option ℕ) (fields rest : List ℕ) (said : Option (List ℕ)) (left : ℕ) → behind fields (fields_in read left rest) ≡ said → is_over rest ≡ false
    → read (word_in rest) ≡ None → said ≡ None
fields_refused read fields rest said left is over none = sym is ∙ ap (behind fields) (no_field read left rest over none)

-- none, where one is left that is too many
pub fields_too_many : (read : List ℕ → Option ℕ) (fields rest : List ℕ) (said : Option (List ℕ)) (left : ℕ) → behind fields (fields_in read left rest) ≡ said → is_over rest ≡ false
    → left ≡ 0 → said ≡ None
fields_too_many read fields rest said left is over none =
    let full : fields_in read 0 rest ≡ None = rw over refl in
    sym is ∙ ap (λ (n : ℕ). behind fields (fields_in read n rest)) none ∙ ap (behind fields) full

-- the words of a card
pub card_is : (start text : List ℕ) (most : ℕ) → is_over text ≡ false → behind start (card_of most text) ≡ behind start (fields_in octal_in most text)
card_is start text most some = rw some refl

-- what a map says of nothing
unmapped : {A B : Type 0} (f : A → B) (o : Option A) → option_map f o ≡ None → o ≡ None
unmapped f None h = refl
unmapped f (Some x) h = cc

-- room for one more
room : (count most : ℕ) → false ≡ (count == most) → count ≤ most → most - count ≢ 0
room count most some few none = eqb-false count most (sym some) (omega arith)

-- the first number of a text, behind others
pub number_more : (most : ℕ) (fields text rest : List ℕ) (n : ℕ) (said : Option (List ℕ)) → Some (n, rest) ≡ first_number text → is_over text ≡ false → false ≡ (length fields == most) → length fields ≤ most
    → behind fields (fields_in number_in (most - length fields) text) ≡ said → behind (fields ++ n ∷ []) (fields_in number_in (most - length (fields ++ n ∷ [])) rest) ≡ said
number_more most fields text rest n said is over some few h =
    let m = mapped (λ (k : ℕ). (k, behind_word text)) (number_in (word_in text)) (n, rest) (sym is) in
    let number : m.0 ≡ n = ap (λ (p : ℕ × List ℕ). p.0) m.2 in
    let others : behind_word text ≡ rest = ap (λ (p : ℕ × List ℕ). p.1) m.2 in
    let left : most - length (fields ++ n ∷ []) ≡ (most - length fields) - 1 = omega (arith, length_push fields n) in
    ap (λ (k : ℕ). behind (fields ++ n ∷ []) (fields_in number_in k rest)) left
    ∙ sym (ap (λ (t : List ℕ). behind (fields ++ n ∷ []) (fields_in number_in ((most - length fields) - 1) t)) others)
    ∙ field_more number_in (most - length fields) fields text n (room (length fields) most some few) over (m.1 ∙ ap Some number)
    ∙ h

-- no number is read, where there is no first one
pub no_number : (text : List ℕ) → None ≡ first_number text → number_in (word_in text) ≡ None
no_number text h = unmapped (λ (n : ℕ). (n, behind_word text)) (number_in (word_in text)) (sym h)

-- words behind others, as the answer to a card
abbrev pub answered : List ℕ → Option (List ℕ) → Result (List ℕ) ScriptCause
answered start said = by_form (λ ws. Ok (start ++ ws)) said

pub answered_some : (start words : List ℕ) (said : Option (List ℕ)) → behind start said ≡ Some words → answered start said ≡ Ok words
answered_some start words None h = cc
answered_some start words (Some ws) h = let same : start ++ ws ≡ words = cc in ap Ok same

pub answered_none : (start : List ℕ) (said : Option (List ℕ)) → behind start said ≡ None → answered start said ≡ Err NotACard
answered_none start None h = refl
answered_none start (Some ws) h = cc
