-- Lines with their arguments, one after another.
use Rattle.std.proofs.Common.{◌≡◌, ℕ, Bool, true, false, ◌&&◌, ◌+◌, ◌<◌, zero, suc, List, [], ◌∷◌, ◌++◌, Option, Some, None, length, take, get_or, map, refl, ap, sym, ◌∙◌, arith}
use Rattle.std.specs.Prelude.{nat_le, nat_lt}
use Rattle.std.proofs.lemmas.Bool.Decides.{nat_tests}
use Rattle.std.specs.List.{list_all}
use Rattle.std.proofs.lemmas.List.{map_more, length_push}
use Rattle.std.proofs.lemmas.List.Folds.{list_all-append}
use Rattle.dialogue.proofs.Parts.{both}
use Rattle.program_model.specs.CommandLines.{Line, before_all, all_of}

-- one more behind those that are all there
abbrev pub after_all : {A : Type 0} → Option (List A) → Option A → Option (List A)
after_all None x = None
after_all (Some xs) None = None
after_all (Some xs) (Some x) = Some (xs ++ x ∷ [])

before_after : {A : Type 0} (x : Option A) (xs : Option (List A)) (y : Option A) → before_all x (after_all xs y) ≡ after_all (before_all x xs) y
before_after None xs y = refl
before_after (Some x) None y = refl
before_after (Some x) (Some xs) None = refl
before_after (Some x) (Some xs) (Some y) = refl

all_more : {A : Type 0} (xs : List (Option A)) (y : Option A) → all_of (xs ++ y ∷ []) ≡ after_all (all_of xs) y
all_more [] None = refl
all_more [] (Some y) = refl
all_more (x ∷ xs) y = ap (before_all x) (all_more xs y) ∙ before_after x (all_of xs) y

-- one line more
pub lines_more : (f : Line → Option Line) (lines : List Line) (i : ℕ) (line : Line) → i < length lines → line ≡ get_or lines i line →
    all_of (map f (take (i + 1) lines)) ≡ after_all (all_of (map f (take i lines))) (f line)
lines_more f lines i line within is =
    ap all_of (map_more f lines i line within) ∙ all_more (map f (take i lines)) (f (get_or lines i line)) ∙ ap (λ (l : Line). after_all (all_of (map f (take i lines))) (f l)) (sym is)

before_none : {A : Type 0} (x : Option A) → before_all x None ≡ None
before_none None = refl
before_none (Some x) = refl

-- a line that isn't there, so not all are
pub line_missing : (f : Line → Option Line) (lines : List Line) (i : ℕ) (d : Line) → i < length lines → f (get_or lines i d) ≡ None → all_of (map f lines) ≡ None
line_missing f [] i d within none = absurd (omega (arith, within))
line_missing f (x ∷ xs) zero d within none = ap (λ (o : Option Line). before_all o (all_of (map f xs))) none
line_missing f (x ∷ xs) (suc i) d within none = ap (before_all (f x)) (line_missing f xs i d (omega (arith, within)) none) ∙ before_none (f x)

abbrev pub are_fitting : ℕ → List Line → Bool
are_fitting room lines = list_all (λ l. nat_le (length l) 84) lines && nat_le (length lines) room

-- the lines so far, whether they fit, and where they do, that they are those made
abbrev pub IsMade : Bool → ℕ → List Line → Option (List Line) → Type 0
IsMade fits room made told = (lines : List Line) × (told ≡ Some lines) × (are_fitting room lines ≡ fits) × (fits ≡ true → made ≡ lines)

tests : (a s : Bool) (n room : ℕ) → ((a && (s && true)) && nat_le (n + 1) room) ≡ ((a && nat_le n room) && (s && nat_lt n room))
tests a s n room = grind (arith, nat_tests)

fitting_more : (room : ℕ) (lines : List Line) (t : Line) → are_fitting room (lines ++ t ∷ []) ≡ (are_fitting room lines && (nat_le (length t) 84 && nat_lt (length lines) room))
fitting_more room lines t =
    (λ j. list_all-append (λ (l : Line). nat_le (length l) 84) lines (t ∷ []) j && nat_le (length_push lines t j) room)
    ∙ tests (list_all (λ l. nat_le (length l) 84) lines) (nat_le (length t) 84) (length lines) room

-- whether one line more fits may be told by the lines made
same_room : (fits : Bool) (room : ℕ) (made lines : List Line) (t : Line) → (fits ≡ true → made ≡ lines) →
    (fits && (nat_le (length t) 84 && nat_lt (length lines) room)) ≡ (fits && (nat_le (length t) 84 && nat_lt (length made) room))
same_room false room made lines t same = refl
same_room true room made lines t same = ap (λ (xs : List Line). nat_le (length t) 84 && nat_lt (length xs) room) (sym (same refl))

pub made_more : (fits test : Bool) (room : ℕ) (made grown : List Line) (told : Option (List Line)) (t : Line) → IsMade fits room made told →
    test ≡ (nat_le (length t) 84 && nat_lt (length made) room) → ((fits && test) ≡ true → grown ≡ made ++ t ∷ []) → IsMade (fits && test) room grown (after_all told (Some t))
made_more fits test room made grown told t h is put = (
  h.0 ++ t ∷ [],
  ap (λ (o : Option (List Line)). after_all o (Some t)) h.1,
  fitting_more room h.0 t ∙ ap (λ (b : Bool). b && (nat_le (length t) 84 && nat_lt (length h.0) room)) h.2 ∙ same_room fits room made h.0 t h.3 ∙ ap (λ (b : Bool). fits && b) (sym is),
  λ b. put b ∙ ap (λ (xs : List Line). xs ++ t ∷ []) (h.3 (both fits test b).0),
)
