-- The weight of an expression and its externs, part by part, are the definition's.
use Rattle.std.proofs.Common.{◌≡◌, ℕ, suc, ◌+◌, ◌<◌, Bool, true, false, ◌&&◌, List, [], ◌∷◌, length, Option, Some, None, refl, sym, ap, ◌∙◌, nat_eq, nat_le, arith, if◌then◌else◌}
use Rattle.std.proofs.lemmas.Bool.Decides.{nat_tests}
use Rattle.std.specs.Option.{option_map, option_and_then}
use Rattle.fap_model.specs.declared.types.Term.{Term}
use Rattle.fap_model.specs.declared.types.Term.TheVariants.{Named}
use Rattle.fap_model.specs.Terms.{Signed, term_of, signed_all, expression}
use Rattle.fap_model.specs.Decks.{index_from}
use Rattle.link_model.specs.Weights.{weight_from, weight_of, names_extern, is_among, externs_in, added_kind, plain_kind, is_light}
use Rattle.fap_read.specs.Peeled.{parts_from, parts_behind, sign_byte}
use Rattle.fap_assemble.specs.declared.weigh.Heft.{Heft}
use Rattle.fap_assemble.specs.declared.weigh.Found.{Found}
use Rattle.fap_assemble.specs.declared.weigh.Found.TheVariants.{Nothing as no_extern, One as one_extern, More as more_externs}
use Rattle.fap_assemble.specs.Rosters.{number_in}
use Rattle.fap_assemble.specs.Weighing.{kind_found, found_from, heft_with, heft_from, no_heft, heft_of, weight_taken, weighed, is_no_extern, is_light_heft, kind_with, heft_kind}

mapped_on : (externs : List ℕ) (weights : List (ℕ × ℕ)) (sum : Heft) (minus : Bool) (t : Term) (all : Option (List Signed))
    → option_map (λ ts. heft_from externs weights (heft_with externs weights sum minus t) ts) all
    ≡ option_map (λ ts. heft_from externs weights sum ts) (option_map (λ ts. (minus, t) ∷ ts) all)
mapped_on externs weights sum minus t None = refl
mapped_on externs weights sum minus t (Some ts) = refl

taken : (externs : List ℕ) (weights : List (ℕ × ℕ)) (sum : Heft) (minus : Bool) (o : Option Term) (ps : List (ℕ × List ℕ))
    → ((next : Heft) → weighed externs weights next ps ≡ option_map (λ ts. heft_from externs weights next ts) (signed_all ps))
    → weight_taken externs weights sum minus o (λ next. weighed externs weights next ps)
    ≡ option_map (λ ts. heft_from externs weights sum ts) (option_and_then (λ t. option_map (λ ts. (minus, t) ∷ ts) (signed_all ps)) o)
taken externs weights sum minus None ps ih = refl
taken externs weights sum minus (Some t) ps ih = ih (heft_with externs weights sum minus t) ∙ mapped_on externs weights sum minus t (signed_all ps)

weighed_is : (externs : List ℕ) (weights : List (ℕ × ℕ)) (sum : Heft) (ps : List (ℕ × List ℕ)) → weighed externs weights sum ps ≡ option_map (λ ts. heft_from externs weights sum ts) (signed_all ps)
weighed_is externs weights sum [] = refl
weighed_is externs weights sum (p ∷ ps) = taken externs weights sum (nat_eq p.0 45) (term_of p.1) ps (λ next. weighed_is externs weights next ps)

said_is : (externs : List ℕ) (weights : List (ℕ × ℕ)) (text : List ℕ) → 0 < length text
    → weighed externs weights no_heft (parts_from 43 text) ≡ option_map (λ ts. heft_of externs weights ts) (expression text)
said_is externs weights [] h = absurd (omega arith)
said_is externs weights (b ∷ text) h = weighed_is externs weights no_heft (parts_from 43 (b ∷ text))

pub empty_weight : (externs : List ℕ) (weights : List (ℕ × ℕ)) (text : List ℕ) → length text ≡ 0 → Some no_heft ≡ option_map (λ ts. heft_of externs weights ts) (expression text)
empty_weight externs weights [] h = refl
empty_weight externs weights (b ∷ text) h = absurd (omega arith)

pub stopped : (externs : List ℕ) (weights : List (ℕ × ℕ)) (text : List ℕ) (sum : Heft) (next : Option (Bool × List ℕ)) (minus : Bool) (rest first : List ℕ) (more : List (ℕ × List ℕ))
    → 0 < length text → next ≡ Some (minus, rest) → parts_from (sign_byte minus) rest ≡ (sign_byte minus, first) ∷ more → term_of first ≡ None
    → weighed externs weights sum (parts_behind next) ≡ weighed externs weights no_heft (parts_from 43 text) → None ≡ option_map (λ ts. heft_of externs weights ts) (expression text)
stopped externs weights text sum next minus rest first more h n p t e =
    let none : weighed externs weights sum (parts_behind next) ≡ None = rw (n, p, t) refl in
    sym none ∙ e ∙ said_is externs weights text h

pub finished : (externs : List ℕ) (weights : List (ℕ × ℕ)) (text : List ℕ) (sum : Heft) (next : Option (Bool × List ℕ)) → 0 < length text → next ≡ None
    → weighed externs weights sum (parts_behind next) ≡ weighed externs weights no_heft (parts_from 43 text) → Some sum ≡ option_map (λ ts. heft_of externs weights ts) (expression text)
finished externs weights text sum next h n e =
    let all : weighed externs weights sum (parts_behind next) ≡ Some sum = rw n refl in
    sym all ∙ e ∙ said_is externs weights text h

-- an extern by its number

abbrev kind_numbered : Bool → Option ℕ → Option (Option ℕ)
kind_numbered minus None = None
kind_numbered true (Some n) = Some None
kind_numbered false (Some n) = Some (Some (n + 2))

found_numbered : (externs : List ℕ) (minus : Bool) (name : ℕ) → kind_numbered minus (number_in externs name) ≡ kind_found externs minus (Named name)
found_numbered externs minus name = by minus (is_among externs name)
  where
    by : (minus b : Bool) → kind_numbered minus (if b then Some (index_from 0 externs name) else None) ≡ (if b then Some (added_kind externs minus (Named name)) else None)
    by true true = refl
    by true false = refl
    by false true = let twice : index_from 0 externs name + 2 ≡ 2 + index_from 0 externs name = omega arith in ap (λ (n : ℕ). Some (Some n)) twice
    by false false = refl

pub found_none : (externs : List ℕ) (minus : Bool) (name : ℕ) → number_in externs name ≡ None → None ≡ kind_found externs minus (Named name)
found_none externs minus name h = sym (ap (kind_numbered minus) h) ∙ found_numbered externs minus name

pub found_minus : (externs : List ℕ) (name n : ℕ) → Some n ≡ number_in externs name → Some None ≡ kind_found externs true (Named name)
found_minus externs name n h = ap (kind_numbered true) h ∙ found_numbered externs true name

pub found_plus : (externs : List ℕ) (name n : ℕ) → Some n ≡ number_in externs name → Some (Some (n + 2)) ≡ kind_found externs false (Named name)
found_plus externs name n h = ap (kind_numbered false) h ∙ found_numbered externs false name

-- both parts of what an expression weighs

parts_of_heft : (externs : List ℕ) (weights : List (ℕ × ℕ)) (h : Heft) (ts : List Signed)
    → heft_from externs weights h ts ≡ record { weight = weight_from weights h.weight ts; found = found_from externs h.found ts }
parts_of_heft externs weights h [] = refl
parts_of_heft externs weights h (t ∷ ts) = parts_of_heft externs weights (heft_with externs weights h t.0 t.1) ts

-- the externs of an expression, in short

abbrev many : Found → List Signed → Found
many found [] = found
many found (t ∷ ts) = more_externs

more_found : (externs : List ℕ) (ts : List Signed) → found_from externs more_externs ts ≡ more_externs
more_found externs [] = refl
more_found externs (t ∷ ts) = by (names_extern externs t.1) refl (more_found externs ts)
  where
    by : (b : Bool) → names_extern externs t.1 ≡ b → found_from externs more_externs ts ≡ more_externs → found_from externs more_externs (t ∷ ts) ≡ more_externs
    by true e ih = rw e ih
    by false e ih = rw e ih

one_found : (externs : List ℕ) (k : Option ℕ) (ts : List Signed) → found_from externs (one_extern k) ts ≡ many (one_extern k) (externs_in externs ts)
one_found externs k [] = refl
one_found externs k (t ∷ ts) = by (names_extern externs t.1) refl (one_found externs k ts)
  where
    by : (b : Bool) → names_extern externs t.1 ≡ b → found_from externs (one_extern k) ts ≡ many (one_extern k) (externs_in externs ts) → found_from externs (one_extern k) (t ∷ ts) ≡ many (one_extern k) (externs_in externs (t ∷ ts))
    by true e ih = rw e (more_found externs ts)
    by false e ih = rw e ih

abbrev in_short : List ℕ → List Signed → Found
in_short externs [] = no_extern
in_short externs (t ∷ ts) = many (one_extern (added_kind externs t.0 t.1)) ts

all_found : (externs : List ℕ) (ts : List Signed) → found_from externs no_extern ts ≡ in_short externs (externs_in externs ts)
all_found externs [] = refl
all_found externs (t ∷ ts) = by (names_extern externs t.1) refl (all_found externs ts)
  where
    by : (b : Bool) → names_extern externs t.1 ≡ b → found_from externs no_extern ts ≡ in_short externs (externs_in externs ts) → found_from externs no_extern (t ∷ ts) ≡ in_short externs (externs_in externs (t ∷ ts))
    by true e ih = rw e (one_found externs (added_kind externs t.0 t.1) ts)
    by false e ih = rw e ih

heft_is : (externs : List ℕ) (weights : List (ℕ × ℕ)) (ts : List Signed)
    → heft_of externs weights ts ≡ record { weight = weight_of weights ts; found = in_short externs (externs_in externs ts) }
heft_is externs weights ts = parts_of_heft externs weights no_heft ts ∙ ap (λ (f : Found). record { weight = weight_of weights ts; found = f }) (all_found externs ts)

kind_shown : (externs : List ℕ) (weight : ℕ) (ts : List Signed) → kind_with weight (in_short externs ts) ≡ plain_kind externs weight ts
kind_shown externs weight [] = refl
kind_shown externs weight (t ∷ []) = refl
kind_shown externs weight (t ∷ u ∷ ts) = refl

light_shown : (externs : List ℕ) (ts : List Signed) → is_no_extern (in_short externs ts) ≡ nat_eq (length ts) 0
light_shown externs [] = refl
light_shown externs (t ∷ []) = refl
light_shown externs (t ∷ u ∷ ts) = sym (not_zero (length ts))
  where
    not_zero : (n : ℕ) → nat_eq (suc (suc n)) 0 ≡ false
    not_zero n = grind (arith, nat_tests)

pub plain_kind_is : (externs : List ℕ) (weights : List (ℕ × ℕ)) (ts : List Signed)
    → heft_kind (heft_of externs weights ts) ≡ plain_kind externs (weight_of weights ts) (externs_in externs ts)
plain_kind_is externs weights ts = ap heft_kind (heft_is externs weights ts) ∙ kind_shown externs (weight_of weights ts) (externs_in externs ts)

pub light_is : (most : ℕ) (externs : List ℕ) (weights : List (ℕ × ℕ)) (ts : List Signed)
    → is_light_heft most (heft_of externs weights ts) ≡ is_light most externs weights ts
light_is most externs weights ts =
    ap (is_light_heft most) (heft_is externs weights ts) ∙ ap (λ (b : Bool). nat_le (weight_of weights ts) most && b) (light_shown externs (externs_in externs ts))

pub weight_is : (externs : List ℕ) (weights : List (ℕ × ℕ)) (ts : List Signed) → (heft_of externs weights ts).weight ≡ weight_of weights ts
weight_is externs weights ts = ap (λ (h : Heft). h.weight) (heft_is externs weights ts)
