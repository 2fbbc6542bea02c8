-- proof: the places of users' blocks: users in order, each with as many places as its quota.
use Rattle.std.specs.Prelude.{ℕ, ◌+◌, List, take, sum, slice_index_or}

-- how many blocks a user may have; none past the last user
abbrev pub quota_of : List ℕ → ℕ → ℕ
quota_of quotas user = slice_index_or quotas user 0

-- the place of a user's block: so many blocks may the users before it have, and it has so many before this one
abbrev pub key : List ℕ → ℕ → ℕ → ℕ
key quotas user block = sum (take user quotas) + block
