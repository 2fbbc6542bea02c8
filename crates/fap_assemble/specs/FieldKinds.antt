-- proof: the kind of a field, part by part.
use Rattle.std.specs.Prelude.{ℕ, Bool, ◌&&◌, if◌then◌else◌, Option, Some, None}
use Rattle.fap_model.specs.declared.types.Operation.{Operation}
use Rattle.link_model.specs.Weights.{most_weight}
use Rattle.fap_assemble.specs.declared.weigh.Heft.{Heft}
use Rattle.fap_assemble.specs.Weighing.{is_light_heft}

abbrev pub joined_kind : Option (Option ℕ) → Option Bool → Option Bool → Option ℕ
joined_kind None tag decrement = Some 0
joined_kind (Some a) None decrement = Some 0
joined_kind (Some a) (Some t) None = Some 0
joined_kind (Some a) (Some t) (Some d) = if t && d then a else None

abbrev pub value_heft : Operation → Option Heft → Option ℕ
value_heft o None = Some 0
value_heft o (Some h) = if is_light_heft (most_weight o) h then Some h.weight else None
