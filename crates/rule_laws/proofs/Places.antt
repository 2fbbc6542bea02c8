-- Places and symbols of a module's cards where the module comes to lie.
use Rattle.std.proofs.Common.{◌≡◌, ℕ, ◌+◌, ◌^◌, ◌<◌, ◌≤◌, Bool, true, false, not, if◌then◌else◌, nat_eq, nat_le, List, [], ◌∷◌, ◌++◌, length, map, Option, Some, None, is_none, refl, sym, ap, ◌∙◌, arith, leb-true, le-leb, lt-ltb, eqb-true}
use Rattle.std.specs.Option.{option_and_then}
use Rattle.std.proofs.lemmas.Bool.{and_parts}
use Rattle.fap_model.specs.declared.types.Term.{Term}
use Rattle.fap_model.specs.declared.types.Term.TheVariants.{Named, Number, Here}
use Rattle.fap_model.specs.Terms.{Signed}
use Rattle.fap_model.specs.declared.types.Operation.{Operation}
use Rattle.fap_model.specs.declared.types.Operation.TheVariants.{Machine as machine, Pze as pze}
use Rattle.fap_model.specs.Statements.{Field, field_for}
use Rattle.fap_model.specs.Places.{Known, max_place, value_in, term_value, with_term, value_from, value_of, or_zero, count_of, size_of, symbol_is_known, with_symbol}
use Rattle.link_model.specs.Weights.{names_extern, externs_in, weight_of, is_light}
use Rattle.link_model.specs.Moves.{Moved, early_kind, count_in, moved_size, table_with}
use Rattle.rule_laws.proofs.Sums.{moved_to}
use Rattle.rule_laws.proofs.Tables.{Aligned, raised_table, Found, found_none, found_some, found_in, prefix_value}
use Rattle.rule_laws.proofs.Values.{Setting, IsSound, names_here, weights_here, AreShort, whole_moves, no_externs}

-- one symbol more

pub raised_push : (b : ℕ) (symbols weights : List (ℕ × ℕ)) (name v w : ℕ) → Aligned symbols weights
    → raised_table b (symbols ++ (name, v) ∷ []) (weights ++ (name, w) ∷ []) ≡ raised_table b symbols weights ++ (name, moved_to b v w 0) ∷ []
raised_push b [] [] name v w h = refl
raised_push b [] (x ∷ weights) name v w h = absurd h
raised_push b (s ∷ symbols) [] name v w h = absurd h
raised_push b (s ∷ symbols) (x ∷ weights) name v w h =
    ap (λ (l : List (ℕ × ℕ)). (s.0, moved_to b s.1 x.1 0) ∷ l) (raised_push b symbols weights name v w h.3)

pub aligned_push : (symbols weights : List (ℕ × ℕ)) (name v w : ℕ) → v < 2 ^ 15 → w ≤ 1 → Aligned symbols weights
    → Aligned (symbols ++ (name, v) ∷ []) (weights ++ (name, w) ∷ [])
aligned_push [] [] name v w small light h = (refl, small, light, tt)
aligned_push [] (x ∷ weights) name v w small light h = absurd h
aligned_push (s ∷ symbols) [] name v w small light h = absurd h
aligned_push (s ∷ symbols) (x ∷ weights) name v w small light h = (h.0, h.1, h.2, aligned_push symbols weights name v w small light h.3)

-- what is known where the first place is another
pub record Behind (b : ℕ) (m : Moved) (k : Known) : Type 0 where
  pub place : k.place ≡ b + m.known.place
  pub symbols : k.symbols ≡ raised_table b m.known.symbols m.weights
  pub aligned : Aligned m.known.symbols m.weights

-- no symbol of that name
pub record NoneOf (b name : ℕ) (m : Moved) : Type 0 where
  pub weights : value_in m.weights name ≡ None
  pub there : value_in (raised_table b m.known.symbols m.weights) name ≡ None

pub none_of : (b name : ℕ) (m : Moved) → Aligned m.known.symbols m.weights → value_in m.known.symbols name ≡ None → NoneOf b name m
none_of b name m h e = by_found (found_in b name m.known.symbols m.weights h)
  where
    by_found : Found b (value_in m.known.symbols name) (value_in m.weights name) (value_in (raised_table b m.known.symbols m.weights) name) → NoneOf b name m
    by_found (found_none x y z) = record { weights = y; there = z }
    by_found (found_some v w small light x y z) = let no : Some v ≡ None = sym x ∙ e in absurd cc

pub front_none : (a b : List (ℕ × ℕ)) (name : ℕ) → value_in (a ++ b) name ≡ None → value_in a name ≡ None
front_none [] b name h = refl
front_none (x ∷ a) b name h = by_test (nat_eq name x.0) refl (λ rest. front_none a b name rest)
  where
    by_test : (t : Bool) → nat_eq name x.0 ≡ t → (value_in (a ++ b) name ≡ None → value_in a name ≡ None) → value_in (x ∷ a) name ≡ None
    by_test true e ih = let no : Some x.1 ≡ None = rw e at h in absurd cc
    by_test false e ih = let rest : value_in (a ++ b) name ≡ None = rw e at h in rw e (ih rest)

-- a card's symbol, if it has one that is new
pub record Symbolled (b : ℕ) (m : Moved) (k : Known) (symbol : Option ℕ) (v w u : ℕ) : Type 0 where
  pub symbols : with_symbol k symbol u ≡ raised_table b (with_symbol m.known symbol v) (table_with m.weights symbol w)
  pub aligned : Aligned (with_symbol m.known symbol v) (table_with m.weights symbol w)

pub symbolled : (b : ℕ) (m : Moved) (k : Known) (symbol : Option ℕ) (v w u : ℕ) → Behind b m k → symbol_is_known m.known symbol ≡ false
    → v < 2 ^ 15 → w ≤ 1 → u ≡ moved_to b v w 0 → Symbolled b m k symbol v w u
symbolled b m k None v w u h fresh small light e = record { symbols = h.symbols; aligned = h.aligned }
symbolled b m k (Some name) v w u h fresh small light e = by_value (value_in m.known.symbols name) refl fresh
  where
    by_value : (o : Option ℕ) → value_in m.known.symbols name ≡ o → not (is_none o) ≡ false → Symbolled b m k (Some name) v w u
    by_value (Some x) is wrong = absurd cc
    by_value None is new =
        let n : NoneOf b name m = none_of b name m h.aligned is in
        let there : value_in k.symbols name ≡ None = ap (λ (l : List (ℕ × ℕ)). value_in l name) h.symbols ∙ n.there in
        let weight : value_in m.weights name ≡ None = n.weights in
        record {
          symbols =
              rw (there, is, weight, e)
              (ap (λ (l : List (ℕ × ℕ)). l ++ (name, moved_to b v w 0) ∷ []) h.symbols
              ∙ sym (raised_push b m.known.symbols m.weights name v w h.aligned));
          aligned = rw (is, weight) (aligned_push m.known.symbols m.weights name v w small light h.aligned);
        }

-- externs that aren't named don't matter
pub no_prefix : (f : ℕ → ℕ) (xs : List ℕ) (table : List (ℕ × ℕ)) (p : ℕ) (ts : List Signed) (sum : ℕ) → externs_in xs ts ≡ []
    → value_from (map (λ (n : ℕ). (n, f n)) xs ++ table) p sum ts ≡ value_from table p sum ts
no_prefix f xs table p [] sum h = refl
no_prefix f xs table p (t ∷ ts) sum h = by_test (names_extern xs t.1) refl (λ v rest. no_prefix f xs table p ts (with_term sum t.0 v) rest)
  where
    same_term : (x : Term) → names_extern xs x ≡ false → term_value (map (λ (n : ℕ). (n, f n)) xs ++ table) p x ≡ term_value table p x
    same_term (Named name) e = prefix_value f xs table name ∙ ap (λ (b : Bool). if b then Some (f name) else value_in table name) e
    same_term (Number n) e = refl
    same_term Here e = refl

    same_rest : ((v : ℕ) → externs_in xs ts ≡ [] → value_from (map (λ (n : ℕ). (n, f n)) xs ++ table) p (with_term sum t.0 v) ts
        ≡ value_from table p (with_term sum t.0 v) ts) → externs_in xs ts ≡ [] → (o : Option ℕ)
        → option_and_then (λ v. value_from (map (λ (n : ℕ). (n, f n)) xs ++ table) p (with_term sum t.0 v) ts) o
        ≡ option_and_then (λ v. value_from table p (with_term sum t.0 v) ts) o
    same_rest ih rest None = refl
    same_rest ih rest (Some v) = ih v rest

    by_test : (b : Bool) → names_extern xs t.1 ≡ b
        → ((v : ℕ) → externs_in xs ts ≡ [] → value_from (map (λ (n : ℕ). (n, f n)) xs ++ table) p (with_term sum t.0 v) ts
        ≡ value_from table p (with_term sum t.0 v) ts)
        → value_from (map (λ (n : ℕ). (n, f n)) xs ++ table) p sum (t ∷ ts) ≡ value_from table p sum (t ∷ ts)
    by_test true e ih =
        let some : t ∷ externs_in xs ts ≡ [] = sym (ap (λ (b : Bool). if b then t ∷ externs_in xs ts else externs_in xs ts) e) ∙ h in
        absurd cc
    by_test false e ih =
        let rest : externs_in xs ts ≡ [] = sym (ap (λ (b : Bool). if b then t ∷ externs_in xs ts else externs_in xs ts) e) ∙ h in
        ap (λ (o : Option ℕ). option_and_then (λ v. value_from (map (λ (n : ℕ). (n, f n)) xs ++ table) p (with_term sum t.0 v) ts) o) (same_term t.1 e)
        ∙ same_rest ih rest (term_value table p t.1)

-- sizes

pub size_is : (o : Operation) (k : Known) (f : Option Field) → k.place + count_of o k f ≤ max_place → size_of o k f ≡ count_of o k f
size_is (machine o) k f h = refl
size_is pze k f h = refl
size_is o k f h = ap (λ (b : Bool). if b then count_of o k f else 0) (le-leb (k.place + count_of o k f) max_place h)

pub moved_size_is : (xs : List ℕ) (m : Moved) (o : Operation) (card : List ℕ) → count_of o m.known (field_for o card) ≡ count_in xs m o card
    → m.known.place + count_in xs m o card < max_place → moved_size xs m (Some o) card ≡ count_of o m.known (field_for o card)
moved_size_is xs m (machine o) card e h = refl
moved_size_is xs m pze card e h = refl
moved_size_is xs m o card e h =
    ap (λ (b : Bool). if b then count_in xs m o card else 0) (lt-ltb (m.known.place + count_in xs m o card) max_place h) ∙ sym e

-- where a field weighs what it may its number counts
pub counts : (xs : List ℕ) (m : Moved) (o : Operation) (card : List ℕ) (k : ℕ) → early_kind xs m o card ≡ Some k
    → count_of o m.known (field_for o card) ≡ count_in xs m o card
counts xs m o card k e = rw e refl

-- a light expression without externs, here and there
pub record Light (most : ℕ) (s : Setting) (p : ℕ) (ts : List Signed) (v : ℕ) : Type 0 where
  pub here : value_of s.symbols p ts ≡ Some v
  pub there : value_of (raised_table s.base s.symbols s.weights) (s.base + p) ts ≡ Some (moved_to s.base v (weight_of (weights_here s) ts) 0)
  pub weight : weight_of (weights_here s) ts ≤ most
  pub none : externs_in s.externs ts ≡ []
  pub light : is_light most s.externs (weights_here s) ts ≡ true

nothing_left : (ts : List Signed) → length ts ≡ 0 → ts ≡ []
nothing_left [] h = refl
nothing_left (t ∷ ts) h = absurd (omega (arith, h))

zero_small : 0 < 2 ^ 15
zero_small = omega arith

pub light : (most : ℕ) (s : Setting) → IsSound s → (p : ℕ) (ts : List Signed) (v : ℕ) → AreShort ts → is_light most s.externs (weights_here s) ts ≡ true
    → value_of (names_here s) p ts ≡ Some v → Light most s p ts v
light most s h p ts v short e has =
    let two = and_parts (nat_le (weight_of (weights_here s) ts) most) (nat_eq (length (externs_in s.externs ts)) 0) e in
    let none : externs_in s.externs ts ≡ [] = nothing_left (externs_in s.externs ts) (eqb-true (length (externs_in s.externs ts)) 0 two.1) in
    record {
      here = sym (no_prefix (λ n. 0) s.externs s.symbols p ts 0 none) ∙ has;
      there =
          sym (no_prefix (λ n. or_zero (value_in s.entries n)) s.externs (raised_table s.base s.symbols s.weights) (s.base + p) ts 0 none)
          ∙ whole_moves s h p ts short v has
          ∙ ap (λ (g : ℕ). Some (moved_to s.base v (weight_of (weights_here s) ts) g)) (no_externs s ts 0 zero_small none);
      weight = leb-true (weight_of (weights_here s) ts) most two.0;
      none = none;
      light = e;
    }
