-- proof: what is true of the rows: nine, each user in them at most once, and users of 1 to 30; and when users may rise.
use Rattle.std.specs.Prelude.{◌≡◌, ℕ, zero, suc, ◌+◌, ◌≤◌, ◌<◌, Bool, true, false, nat_eq, List, [], ◌∷◌, length, drop, Option, Some, None}
use Rattle.ctss_types.specs.declared.session.Waiting.{Waiting}
use Rattle.plan_model.specs.Levels.{is_served}
pub use Rattle.plan_model.specs.Times.{times, count}

-- the first rows, so many of them, have no users
abbrev pub AreEmpty : ℕ → List (List Waiting) → Type 0
AreEmpty zero rows = Unit {0}
AreEmpty (suc n) [] = Unit {0}
AreEmpty (suc n) (row ∷ rows) = (row ≡ []) × AreEmpty n rows

pub record IsSound (wq quantum : ℕ) (rows : List (List Waiting)) : Type 0 where
  pub some : 1 ≤ wq
  pub small : quantum ≤ 1000000
  pub nine : length rows ≡ 9
  pub once : (u : ℕ) → count u rows ≤ 1
  pub known : (u : ℕ) → 1 ≤ count u rows → (1 ≤ u) × (u < 31)

-- each user of a row, but one, has waited for the age at a tick or later; and so for all rows but the first
abbrev pub RowIsLater : (age soon : ℕ) → (besides : Option ℕ) → List Waiting → Type 0
RowIsLater age soon besides [] = Unit {0}
RowIsLater age soon besides (x ∷ xs) = (is_served besides x.user ≡ false → soon ≤ x.since + age) × RowIsLater age soon besides xs

abbrev pub AreLater : (age soon : ℕ) → (besides : Option ℕ) → List (List Waiting) → Type 0
AreLater age soon besides [] = Unit {0}
AreLater age soon besides (row ∷ rows) = RowIsLater age soon besides row × AreLater age soon besides rows

abbrev pub RiseLater : (age soon : ℕ) → (besides : Option ℕ) → List (List Waiting) → Type 0
RiseLater age soon besides rows = 0 < age → AreLater age soon besides (drop 1 rows)

-- whether what is known of all users but one is known of all but the one that is served
abbrev pub covers : Option ℕ → (served : Option ℕ) → Bool
covers None served = true
covers (Some u) None = false
covers (Some u) (Some v) = nat_eq u v
