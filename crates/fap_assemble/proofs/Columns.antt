-- From one item of a field to the next.
use Rattle.std.proofs.Common.{◌≡◌, ℕ, suc, ◌+◌, ◌-◌, ◌<◌, ◌≤◌, Bool, true, List, [], ◌∷◌, length, take, Option, Some, None, sym, ap, ◌∙◌, refl, arith}
use Rattle.std.specs.Prelude.{◌==◌}
use Rattle.std.proofs.lemmas.List.Splits.{length-slice_split}
use Rattle.fap_model.specs.Terms.{items_of}
use Rattle.fap_model.specs.Places.{Known, looks_back}
use Rattle.fap_model.specs.Decks.{Whole}
use Rattle.fap_model.specs.declared.types.Operation.{Operation}
use Rattle.fap_model.specs.declared.types.Form.{Form}
use Rattle.fap_model.specs.declared.types.FaultCause.{FaultCause}
use Rattle.fap_model.specs.declared.types.FaultCause.TheVariants.{BadForm, Undefined}
use Rattle.fap_model.specs.Statements.{form_of}
use Rattle.fap_model.specs.Causes.{column_where, is_of_form, field_column, column_by}
use Rattle.fap_assemble.specs.declared.column.ItemTest.TheVariants.{HasValue}
use Rattle.fap_assemble.specs.Fields.{known_at}
use Rattle.fap_assemble.specs.Columns.{passes, value_column}
use Rattle.fap_assemble.specs.Wholes.{names_seen}
use Rattle.fap_assemble.proofs.Causes.{names_case}

some_items : (text : List ℕ) → 1 ≤ length (items_of text)
some_items text = omega (arith, length-slice_split (λ b. b == 44) text)

pub behind_goes : (test : ℕ → List ℕ → Bool) (i column : ℕ) (items item rest : List ℕ) → items_of items ≡ item ∷ items_of rest
    → length items ≡ length item + (1 + length rest) → test i item ≡ true
    → column_where test i column (items_of items) ≡ column_where test (suc i) (column + (length items - length rest)) (items_of rest)
behind_goes test i column items item rest is long passes =
    let step : length items - length rest ≡ length item + 1 = omega (arith, long) in
    rw (is, step) (by (items_of rest) (some_items rest))
  where
    by : (more : List (List ℕ)) → 1 ≤ length more → column_where test i column (item ∷ more) ≡ column_where test (suc i) (column + (length item + 1)) more
    by [] h = absurd (omega (arith, h))
    by (next ∷ more) h = rw passes refl

-- one item more is behind
pub column_goes : (test : ℕ → List ℕ → Bool) (i next f : ℕ) (text items rest : List ℕ) (all : ℕ) → length items ≤ f → length rest < length items → next ≡ i + 1
    → column_where test i (16 + (f - length items)) (items_of items) ≡ all
    → ((column : ℕ) → column_where test i column (items_of items) ≡ column_where test (suc i) (column + (length items - length rest)) (items_of rest))
    → column_where test next (16 + (f - length rest)) (items_of rest) ≡ all
column_goes test i next f text items rest all within shorter number was goes =
    let at : 16 + (f - length rest) ≡ 16 + (f - length items) + (length items - length rest) = omega (arith, within, shorter) in
    let n : next ≡ suc i = omega (arith, number) in
    rw (at, n) (sym (goes (16 + (f - length items))) ∙ was)

pub value_column_is : (o : Option Operation) (whole : Whole) (visible place : ℕ) (card : List ℕ)
    → value_column o whole.names visible card ≡ column_by o whole (known_at whole.names visible place) card Undefined
value_column_is None whole visible place card = refl
value_column_is (Some o) whole visible place card =
    ap (λ (names : List (ℕ × ℕ)). field_column (passes HasValue names) card) (names_case whole visible (looks_back o))

-- what stands in the code

pub form_column_some : (op : Option Operation) (o : Operation) (whole : Whole) (k : Known) (card : List ℕ) (n : ℕ) (form : Form) → op ≡ Some o → form ≡ form_of o
    → n ≡ field_column (is_of_form form) card → n ≡ column_by op whole k card BadForm
form_column_some op o whole k card n form e f h = rw (h, f, e) refl

pub value_column_some : (op : Option Operation) (o : Operation) (symbols names : List (ℕ × ℕ)) (visible seen : ℕ) (card : List ℕ) (n : ℕ) → op ≡ Some o
    → names ≡ take seen symbols → seen ≡ names_seen o symbols visible → n ≡ field_column (passes HasValue names) card → n ≡ value_column op symbols visible card
value_column_some op o symbols names visible seen card n e f g h = rw (h, f, g, e) refl

pub undefined_column : (o : Option Operation) (whole : Whole) (visible place : ℕ) (card : List ℕ) (cause : FaultCause) (n : ℕ) → cause ≡ Undefined
    → n ≡ value_column o whole.names visible card → n ≡ column_by o whole (known_at whole.names visible place) card cause
undefined_column o whole visible place card cause n e h = rw (h, e) (value_column_is o whole visible place card)
