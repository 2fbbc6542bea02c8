-- proof: how often a user is in a list, and in the lists of all levels.
use Rattle.std.specs.Prelude.{ℕ, ◌+◌, cond, nat_eq, List, [], ◌∷◌}
use Rattle.ctss_types.specs.declared.session.Waiting.{Waiting}

abbrev pub times : ℕ → List Waiting → ℕ
times u [] = 0
times u (x ∷ xs) = cond (nat_eq x.user u) 1 0 + times u xs

abbrev pub count : ℕ → List (List Waiting) → ℕ
count u [] = 0
count u (row ∷ rows) = times u row + count u rows
