-- proof: the weight of an expression and its externs, part by part.
use Rattle.std.specs.Prelude.{ℕ, Bool, true, false, ◌&&◌, List, [], ◌∷◌, Option, Some, None, nat_eq, nat_le, if◌then◌else◌}
use Rattle.fap_model.specs.declared.types.Term.{Term}
use Rattle.fap_model.specs.Terms.{Signed, term_of}
use Rattle.fap_model.specs.Places.{with_term}
use Rattle.link_model.specs.Weights.{term_weight, names_extern, added_kind}
use Rattle.fap_assemble.specs.declared.weigh.Heft.{Heft}
use Rattle.fap_assemble.specs.declared.weigh.Found.{Found}
use Rattle.fap_assemble.specs.declared.weigh.Found.TheVariants.{Nothing as no_extern, One as one_extern, More as more_externs}

-- the kind that an extern makes, if it is added
abbrev pub kind_found : List ℕ → Bool → Term → Option (Option ℕ)
kind_found externs minus t = if names_extern externs t then Some (added_kind externs minus t) else None

abbrev pub found_more : Found → Option ℕ → Found
found_more no_extern k = one_extern k
found_more (one_extern j) k = more_externs
found_more more_externs k = more_externs

abbrev pub found_next : Found → Option (Option ℕ) → Found
found_next found None = found
found_next found (Some k) = found_more found k

abbrev pub found_with : List ℕ → Found → Bool → Term → Found
found_with externs found minus t = found_next found (kind_found externs minus t)

abbrev pub found_from : List ℕ → Found → List Signed → Found
found_from externs found [] = found
found_from externs found (t ∷ ts) = found_from externs (found_with externs found t.0 t.1) ts

abbrev pub heft_with : List ℕ → List (ℕ × ℕ) → Heft → Bool → Term → Heft
heft_with externs weights h minus t =
    record { weight = with_term h.weight minus (term_weight weights t); found = found_with externs h.found minus t }

abbrev pub heft_from : List ℕ → List (ℕ × ℕ) → Heft → List Signed → Heft
heft_from externs weights h [] = h
heft_from externs weights h (t ∷ ts) = heft_from externs weights (heft_with externs weights h t.0 t.1) ts

abbrev pub no_heft : Heft
no_heft = record { weight = 0; found = no_extern }

-- the weight of an expression and its externs
abbrev pub heft_of : List ℕ → List (ℕ × ℕ) → List Signed → Heft
heft_of externs weights ts = heft_from externs weights no_heft ts

abbrev pub weight_taken : List ℕ → List (ℕ × ℕ) → Heft → Bool → Option Term → (Heft → Option Heft) → Option Heft
weight_taken externs weights h minus None more = None
weight_taken externs weights h minus (Some t) more = more (heft_with externs weights h minus t)

-- the weight of parts behind a sum
abbrev pub weighed : List ℕ → List (ℕ × ℕ) → Heft → List (ℕ × List ℕ) → Option Heft
weighed externs weights h [] = Some h
weighed externs weights h (p ∷ ps) = weight_taken externs weights h (nat_eq p.0 45) (term_of p.1) (λ next. weighed externs weights next ps)

-- kinds

abbrev pub is_no_extern : Found → Bool
is_no_extern no_extern = true
is_no_extern (one_extern k) = false
is_no_extern more_externs = false

abbrev pub is_light_heft : ℕ → Heft → Bool
is_light_heft most h = nat_le h.weight most && is_no_extern h.found

abbrev pub kind_with : ℕ → Found → Option ℕ
kind_with weight no_extern = if nat_le weight 1 then Some weight else None
kind_with weight (one_extern k) = if nat_eq weight 0 then k else None
kind_with weight more_externs = None

abbrev pub heft_kind : Heft → Option ℕ
heft_kind h = kind_with h.weight h.found
