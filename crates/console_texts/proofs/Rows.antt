-- Loops over the rows of all consoles.
use Rattle.std.proofs.Common.{◌≡◌, ℕ, zero, suc, ◌+◌, ◌-◌, ◌<◌, None, List, [], ◌∷◌, ◌++◌, length, map, take, drop, get_or, set, sym, ◌∙◌, ap, arith}
use Rattle.std.specs.Prelude.{OnOk, Ok, Err}
use Rattle.std.specs.declared.result.Result.{Result}
use Rattle.time_sharing.specs.System.{Off}
use Rattle.std.proofs.lemmas.List.{map-set, length-map, drop-set-lt, get_or-drop}
use Rattle.std.proofs.lemmas.List.Edits.{map_over_more}
use Rattle.std.proofs.lemmas.Grind.{drop_more_same}
use Rattle.std.proofs.Math.ListN.{get_or-map}
use Rattle.std.proofs.Math.Seq.{map-set_same}
use Rattle.console_texts.specs.Parts.{Shown, Kept}
use Rattle.console_texts.specs.Following.{fresh}

abbrev pub shown_all : List Kept → List Shown
shown_all rows = map (λ (k : Kept). k.shown) rows

-- one row more is what f makes of it
pub row_more : (f : Shown → Shown) (olds rows : List Kept) (i : ℕ) (was now : Kept) → i < length olds
    → shown_all rows ≡ map f (take i (shown_all olds)) ++ drop i (shown_all olds)
    → was ≡ get_or rows i was → now.shown ≡ f was.shown → shown_all (set rows i now) ≡ map f (take (i + 1) (shown_all olds)) ++ drop (i + 1) (shown_all olds)
row_more f olds rows i was now within inv is next =
    map-set (λ (k : Kept). k.shown) rows i now ∙ ap (set (shown_all rows) i) next
    ∙ map_over_more f (shown_all olds) (shown_all rows) i was.shown (let e = length-map olds (λ (k : Kept). k.shown) in omega (arith, e)) inv
    (ap (λ (k : Kept). k.shown) is ∙ sym (get_or-map (λ (k : Kept). k.shown) rows i was))

-- a row that shows the same
pub row_same : (rows : List Kept) (i : ℕ) (was now : Kept) → was ≡ get_or rows i was → now.shown ≡ was.shown → shown_all (set rows i now) ≡ shown_all rows
row_same rows i was now is same = map-set_same (λ (k : Kept). k.shown) rows i now was (same ∙ ap (λ (k : Kept). k.shown) is)

-- a row that no turn has reached is as it was
pub row_at : (olds rows : List Kept) (i : ℕ) (d : Kept) → drop i rows ≡ drop i olds → get_or rows i d ≡ get_or olds i d
row_at olds rows i d rest =
    let here : i + 0 ≡ i = omega arith in
    ap (λ (k : ℕ). get_or rows k d) (sym here) ∙ sym (get_or-drop i rows 0 d) ∙ ap (λ (ks : List Kept). get_or ks 0 d) rest ∙ get_or-drop i olds 0 d ∙ ap (λ (k : ℕ). get_or olds k d) here

pub rest_more : (olds rows : List Kept) (i : ℕ) (now : Kept) → drop i rows ≡ drop i olds → drop (i + 1) (set rows i now) ≡ drop (i + 1) olds
rest_more olds rows i now rest = drop-set-lt (i + 1) rows i now (omega arith) ∙ drop_more_same rows olds i rest

-- a row more of those that have shown nothing
pub fresh_more : (k n : ℕ) → 0 < n → fresh k n ≡ record { number = k; console = Off; pieces = []; tail = None } ∷ fresh (k + 1) (n - 1)
fresh_more k zero h = absurd (omega arith)
fresh_more k (suc n) h =
    let e : suc n - 1 ≡ n = omega arith in
    let f : k + 1 ≡ suc k = omega arith in
    ap (λ (m : ℕ). record { number = k; console = Off; pieces = []; tail = None } ∷ fresh (suc k) m) (sym e) ∙ ap (λ (m : ℕ). record { number = k; console = Off; pieces = []; tail = None } ∷ fresh m (suc n - 1)) (sym f)

pub ok_map : {T E : Type 0} (r : Result T E) (P Q : Type 0) → (P → Q) → OnOk r P → OnOk r Q
ok_map (Ok x) P Q f h = f h
ok_map (Err x) P Q f h = tt
