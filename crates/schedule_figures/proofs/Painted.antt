-- Rows of cells over which marks are painted.
use Rattle.std.proofs.Common.{◌≡◌, ◌<◌, ◌≤◌, ◌+◌, ◌-◌, ◌/◌, ◌&&◌, ℕ, zero, suc, min, max, nat_le, List, [], ◌∷◌, ◌++◌, length, map, take, drop, replicate, slice_index, refl, sym, ap, ◌∙◌, arith, drop-cons}
use Rattle.std.specs.Prelude.{if◌then◌else◌, fold}
use Rattle.std.proofs.lemmas.Bool.Decides.{nat_tests}
use Rattle.std.proofs.lemmas.Grind.{fold-append}
use Rattle.std.proofs.lemmas.List.{map-append, get_or-replicate}
use Rattle.picture_model.specs.Marks.{Mark, mark, character_at, cell, cells}
use Rattle.schedule_figures.specs.declared.chart.row.Row.{Row}
use Rattle.schedule_figures.specs.Painted.{AreSeen, Painted, IsOnTheWay, IsRowOf}

-- A cell under a mark that is seen from column a to column b.
painted_cell : (a b k character old new : ℕ) → k < 110 → 32 ≤ old → (k < min a 110 → new ≡ old)
    → (min a 110 ≤ k → k < min b 109 + 1 → new ≡ max old character) → (min b 109 + 1 ≤ k → new ≡ old)
    → new ≡ max old (if nat_le a k && nat_le k b then character else 32)
painted_cell a b k character old new within seen before inside behind = grind (arith, nat_tests)

raised : (new old character : ℕ) → new ≡ max old character → 32 ≤ old → 32 ≤ new
raised new old character is seen = omega (arith, is, seen)

-- A row under one mark.
pub painted_mark : (at ticks character first last : ℕ) (old new : Row) → new.each ≡ old.each → first ≡ min (at / old.each) 110
    → last ≡ min ((at + (ticks - 1)) / old.each) 109
    → ((k : ℕ) → k < first → slice_index new.cells k ≡ slice_index old.cells k)
    → ((k : ℕ) → first ≤ k → k < last + 1 → slice_index new.cells k ≡ max (slice_index old.cells k) character)
    → ((k : ℕ) → last + 1 ≤ k → slice_index new.cells k ≡ slice_index old.cells k)
    → Painted (mark at ticks character ∷ []) old new
painted_mark at ticks character first last old new same from to before inside behind =
    let one : AreSeen old → (k : ℕ) → k < 110 → slice_index new.cells k ≡ max (slice_index old.cells k) (character_at old.each k (mark at ticks character)) =
    λ seen k below. painted_cell (at / old.each) ((at + (ticks - 1)) / old.each) k character (slice_index old.cells k) (slice_index new.cells k) below (seen k below)
    (λ h. before k (omega (arith, from, h))) (λ h i. inside k (omega (arith, from, h)) (omega (arith, to, i))) (λ h. behind k (omega (arith, to, h))) in
    record {
      same = same;
      seen = λ seen k below. raised _ _ _ (one seen k below) (seen k below);
      cells = one;
    }

-- no mark
pub painted_none : (row : Row) → Painted [] row row
painted_none row = record { same = refl; seen = λ h. h; cells = λ h k below. refl }

-- a cell that some marks come over, and then others
joined : (f : Mark → ℕ) (n : ℕ) (a b : List Mark) → fold max (fold max n (map f a)) (map f b) ≡ fold max n (map f (a ++ b))
joined f n a b = sym (fold-append max n (map f a) (map f b)) ∙ ap (λ (l : List ℕ). fold max n l) (sym (map-append f a b))

-- marks, and then others
pub painted_both : {a b : List Mark} {x y z : Row} → Painted a x y → Painted b y z → Painted (a ++ b) x z
painted_both {a = a} {b = b} {x = x} {y = y} {z = z} first second = record {
  same = second.same ∙ first.same;
  seen = λ h. second.seen (first.seen h);
  cells = λ h k below.
      second.cells (first.seen h) k below
      ∙ ap (λ (e : ℕ). fold max (slice_index y.cells k) (map (character_at e k) b)) first.same
      ∙ ap (λ (n : ℕ). fold max n (map (character_at x.each k) b)) (first.cells h k below)
      ∙ joined (character_at x.each k) (slice_index x.cells k) a b;
}

-- the marks that are left once some of them are painted
pub painted_more : (each : ℕ) (before marks left all : List Mark) (x y : Row) → before ≡ marks ++ left → IsOnTheWay each before all x
    → Painted marks x y → IsOnTheWay each left all y
painted_more each before marks left all x y is was painted = record {
  same = painted.same ∙ was.same;
  seen = painted.seen was.seen;
  cells = λ k below.
      ap (λ (n : ℕ). fold max n (map (character_at each k) left))
      (painted.cells was.seen k below ∙ ap (λ (e : ℕ). fold max (slice_index x.cells k) (map (character_at e k) marks)) was.same)
      ∙ joined (character_at each k) (slice_index x.cells k) marks left
      ∙ ap (λ (ms : List Mark). fold max (slice_index x.cells k) (map (character_at each k) ms)) (sym is)
      ∙ was.cells k below;
}

at_least : (n : ℕ) → n ≡ 32 → 32 ≤ n
at_least n is = omega (arith, is)

-- a row without a mark, to which all are to come
pub painted_start : (each : ℕ) (all : List Mark) (row : Row) → row.each ≡ each → row.cells ≡ replicate 110 32 → IsOnTheWay each all all row
painted_start each all row same blank =
    let here : (k : ℕ) → k < 110 → slice_index row.cells k ≡ 32 =
    λ k below. ap (λ (l : List ℕ). slice_index l k) blank ∙ get_or-replicate 110 k 32 0 below in
    record {
      same = same;
      seen = λ k below. at_least (slice_index row.cells k) (here k below);
      cells = λ k below. ap (λ (n : ℕ). fold max n (map (character_at each k) all)) (here k below);
    }

-- none is left
pub painted_all : (each : ℕ) (left all : List Mark) (row : Row) → left ≡ [] → IsOnTheWay each left all row → IsRowOf each all row
painted_all each left all row none was = record {
  cells = λ k below. ap (λ (ms : List Mark). fold max (slice_index row.cells k) (map (character_at each k) ms)) (sym none) ∙ was.cells k below;
}

-- the cells of a row
cells_from : (each column count : ℕ) (marks : List Mark) (row : List ℕ) → column + count ≤ length row
    → ((k : ℕ) → k < length row → slice_index row k ≡ cell each k marks) → take count (drop column row) ≡ cells each column count marks
cells_from each column zero marks row within is = refl
cells_from each column (suc n) marks row within is =
    ap (λ (l : List ℕ). take (suc n) l) (drop-cons row column 0 (omega (arith, within)))
    ∙ ap (λ (h : ℕ). h ∷ take n (drop (suc column) row)) (is column (omega (arith, within)))
    ∙ ap (λ (t : List ℕ). cell each column marks ∷ t) (cells_from each (suc column) n marks row (omega (arith, within)) is)

pub row_text : (each count : ℕ) (marks : List Mark) (row : Row) → length row.cells ≡ 110 → count ≤ 110 → IsRowOf each marks row
    → take count row.cells ≡ cells each 0 count marks
row_text each count marks row size within is = cells_from each 0 count marks row.cells (omega (arith, size)) (λ k below. is.cells k (omega (arith, size, below)))
