-- Lines of words and numbers.
use Rattle.std.proofs.Common.{◌≡◌, ℕ, List, [], ◌∷◌, ◌++◌, refl, ap, ◌∙◌, append_assoc, append-nil}
use Rattle.text_model.specs.Canonical.{typed_text}
use Rattle.text_model.specs.Parts.{line, number, blank}
use Rattle.text_model.specs.Report.{labelled}
use Rattle.text_writer.specs.Lines.{spaced}
use Rattle.text_writer.specs.ReportLines.{spaced_then, worded}

pub label_is : (letter : ℕ) (text : List ℕ) → letter ∷ typed_text text ≡ labelled letter text
label_is letter [] = refl
label_is letter (c ∷ cs) = refl

then_is : (ns rest : List ℕ) → spaced ns ++ rest ≡ spaced_then ns rest
then_is [] rest = refl
then_is (n ∷ []) rest = refl
then_is (n ∷ m ∷ ns) rest = append_assoc (number n) (spaced (m ∷ ns)) rest ∙ ap (λ (l : List ℕ). number n ++ l) (then_is (m ∷ ns) rest)

worded_is : (word ns : List ℕ) → blank word ++ spaced ns ≡ worded word ns
worded_is word [] = append-nil (blank word)
worded_is word (n ∷ ns) = refl

pub parted : (word before second behind : List ℕ)
    → line (word ++ (spaced before ++ (blank second ++ spaced behind))) ≡ line (word ++ spaced_then before (worded second behind))
parted word before second behind =
    ap (λ (l : List ℕ). line (word ++ l)) (ap (λ (l : List ℕ). spaced before ++ l) (worded_is second behind) ∙ then_is before (worded second behind))

-- a line whose end was added with its last numbers
pub ended : (word before second behind : List ℕ)
    → word ++ (spaced before ++ (blank second ++ (spaced behind ++ 10 ∷ []))) ≡ line (word ++ (spaced before ++ (blank second ++ spaced behind)))
ended word before second behind = simp append_assoc
