-- The text of steps, one after another.
use Rattle.std.proofs.Common.{◌≡◌, ℕ, ◌+◌, ◌<◌, ◌≤◌, List, [], ◌∷◌, ◌++◌, length, drop, get_or, codes, sym, ap, ◌∙◌, append_assoc}
use Rattle.std.proofs.lemmas.List.{drop_all}
use Rattle.ctss_types.specs.declared.history.Item.{Item}
use Rattle.ctss_types.specs.declared.history.Item.TheVariants.{In, Out}
use Rattle.text_model.specs.Parts.{line}
use Rattle.fap_model.specs.declared.types.SymbolValue.{SymbolValue}
use Rattle.fap_listing.specs.Words.{blanks}
use Rattle.program_trace.specs.Traces.{TracedStep}
use Rattle.program_trace.specs.Texts.{item_line, step_text, steps_text}
use Rattle.program_trace.proofs.Lines.{one_less}

pub read_is : (item : Item) (l text : List ℕ) → item ≡ In l → text ≡ l → blanks 32 ++ (codes "READ   " ++ line text) ≡ item_line item
read_is item l text is same =
    ap (λ (t : List ℕ). blanks 32 ++ (codes "READ   " ++ line t)) same ∙ sym (append_assoc (blanks 32) (codes "READ   " ++ l) (10 ∷ [])) ∙ sym (ap item_line is)

pub written_is : (item : Item) (l text : List ℕ) → item ≡ Out l → text ≡ l → blanks 32 ++ (codes "WROTE  " ++ line text) ≡ item_line item
written_is item l text is same =
    ap (λ (t : List ℕ). blanks 32 ++ (codes "WROTE  " ++ line t)) same ∙ sym (append_assoc (blanks 32) (codes "WROTE  " ++ l) (10 ∷ [])) ∙ sym (ap item_line is)

pub steps_next : (symbols : List SymbolValue) (n i : ℕ) (s : TracedStep) (steps : List TracedStep) → i < length steps → s ≡ get_or steps i s
    → steps_text symbols n (drop i steps) ≡ step_text symbols n s ++ steps_text symbols (n + 1) (drop (i + 1) steps)
steps_next symbols n i s steps within is = ap (steps_text symbols n) (one_less steps i s within is)

pub steps_none : (symbols : List SymbolValue) (n i : ℕ) (steps : List TracedStep) → length steps ≤ i → steps_text symbols n (drop i steps) ≡ []
steps_none symbols n i steps past = ap (steps_text symbols n) (drop_all i steps past)
