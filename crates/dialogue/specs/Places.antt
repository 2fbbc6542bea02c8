-- proof: where a breakpoint stands.
use Rattle.std.specs.Prelude.{ℕ, ◌==◌, not, List}
use Rattle.std.specs.List.{prefix_len}

-- the place of a breakpoint, or how many there are
abbrev pub place_of : List ℕ → ℕ → ℕ
place_of breaks a = prefix_len (λ b. not (b == a)) breaks
