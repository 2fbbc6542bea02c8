-- A number right in 7 places, and the line of a file.
use Rattle.std.proofs.Common.{◌≡◌, ℕ, zero, suc, ◌-◌, min, Bool, true, false, List, [], ◌∷◌, ◌++◌, length, drop, replicate, refl, sym, ap, ◌∙◌, arith, append-nil}
use Rattle.std.specs.Fmt.{decimal}
use Rattle.bcd48.specs.Words.{characters_of}
use Rattle.ctss_types.specs.declared.file.FileBody.{FileBody}
use Rattle.file_model.specs.Texts.{right, file_line}
use Rattle.text_model.specs.Canonical.{word_cards}
use Rattle.text_model.specs.Report.{file_text}
use Rattle.text_model.specs.Parts.{line, blank, number}

abbrev pub blanks_of : ℕ → List ℕ
blanks_of n = replicate n 32

dropped : (k n : ℕ) → drop k (blanks_of n) ≡ blanks_of (n - k)
dropped zero n = let all : n ≡ n - 0 = omega arith in ap blanks_of all
dropped (suc k) zero = let none : 0 ≡ 0 - suc k = omega arith in ap blanks_of none
dropped (suc k) (suc n) = let less : suc n - suc k ≡ n - k = omega arith in dropped k n ∙ ap blanks_of (sym less)

-- behind a blank
pub right_is : (ds blanks digits : List ℕ) (n : ℕ) → n ≡ min (length digits) 7 → blanks ≡ drop n (blanks_of 7) → digits ≡ ds
    → blank blanks ++ digits ≡ blank (right ds)
right_is ds blanks digits n least front is =
    let left : 7 - min (length ds) 7 ≡ 7 - length ds = omega arith in
    let these : blanks ≡ blanks_of (7 - length ds) =
    front ∙ dropped n 7 ∙ ap (λ (m : ℕ). blanks_of (7 - m)) (least ∙ ap (λ (l : List ℕ). min (length l) 7) is) ∙ ap blanks_of left in
    ap (λ (l : List ℕ). blank l ++ digits) these ∙ ap (λ (l : List ℕ). blank (blanks_of (7 - length ds)) ++ l) is

pub file_line_is : (f : FileBody) (first second : List ℕ) (count : ℕ) → first ≡ characters_of f.name.first → second ≡ characters_of f.name.second
    → count ≡ length f.words
    → line (first ++ (blank second ++ (number f.mode ++ blank (right (decimal count))))) ≡ line (file_line f)
file_line_is f first second count p q r = rw (p, q, r) refl

pub file_dumped : (dump : Bool) (f : FileBody) (words : List ℕ) → dump ≡ true → words ≡ f.words → line (file_line f) ++ word_cards words ≡ file_text dump f
file_dumped dump f words is these = rw (is, these) refl

pub file_listed : (dump : Bool) (f : FileBody) → dump ≡ false → line (file_line f) ≡ file_text dump f
file_listed dump f is = rw is (sym (append-nil (line (file_line f))))
