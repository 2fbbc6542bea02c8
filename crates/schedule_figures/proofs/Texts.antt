-- Texts that are added one after another, and those that are left.
use Rattle.std.proofs.Common.{◌≡◌, ℕ, List, [], ◌++◌, sym, ap, ◌∙◌, append_assoc, append-nil}

-- one more text, where the texts that are left begin with it
pub one_more : (done text rest left all : List ℕ) → left ≡ text ++ rest → done ++ left ≡ all → (done ++ text) ++ rest ≡ all
one_more done text rest left all is was =
    append_assoc done text rest ∙ ap (λ (l : List ℕ). done ++ l) (sym is) ∙ was

-- no text is left
pub none_left : (done left all : List ℕ) → left ≡ [] → done ++ left ≡ all → done ≡ all
none_left done left all is was = sym (append-nil done) ∙ ap (λ (l : List ℕ). done ++ l) (sym is) ∙ was
