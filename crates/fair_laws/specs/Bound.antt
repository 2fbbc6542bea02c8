-- claim: the longest time that a user may have to wait, in ticks.
use Rattle.std.specs.Prelude.{ℕ, ◌+◌, ◌-◌, ◌*◌}

-- the ticks of the longest load: 128 blocks are written to the drum, and 128 are read from it
abbrev pub longest_load : (swap : ℕ) → ℕ
longest_load swap = 256 * swap

-- the longest wait at level 0 of one of so many users: each of the others may use a quantum, there may be a load for each of
-- them and for this user, and then this user has its tick
abbrev pub wait_at_zero : (quantum load users : ℕ) → ℕ
wait_at_zero quantum load users = (users - 1) * (quantum + load) + load + 1

-- the longest wait at a level: at each level above 0 the user waits for the age, and a load that began a tick before that
-- delays its rise; then it waits at level 0
abbrev pub longest_wait : (age quantum load users level : ℕ) → ℕ
longest_wait age quantum load users level = level * (age + (load - 1)) + wait_at_zero quantum load users
