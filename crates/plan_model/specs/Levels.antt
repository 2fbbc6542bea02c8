-- claim: levels and queues: nine lists of users with the ticks that are left of their time and the tick since which they wait.
use Rattle.std.specs.Prelude.{◌≡◌, ℕ, zero, suc, ◌+◌, ◌-◌, ◌*◌, ◌/◌, ◌^◌, min, Bool, true, false, if◌then◌else◌, not, ◌||◌, nat_eq, nat_lt, nat_le, ◌&&◌, List, [], ◌∷◌, ◌++◌, Option, Some, None, filter, map, get_or, set, replicate, drop}
use Rattle.std.specs.List.{list_any}
use Rattle.ctss_types.specs.declared.session.Waiting.{Waiting}

-- words of a level, ticks of a quantum, ticks after which a user that waits rises (0: never), and the lists of the levels 0 to 8
pub record Levels : Type 0 where
  pub wq : ℕ
  pub quantum : ℕ
  pub age : ℕ
  pub rows : List (List Waiting)

-- the greatest l of at most the first number for which 2 to the l is no more than the second
unfoldable pub greatest : ℕ → ℕ → ℕ
greatest zero n = 0
greatest (suc l) n = elim (nat_le (2 ^ suc l) n) [ true ↦ suc l | false ↦ greatest l n ]

-- the level of a program of so many words
unfoldable pub level_of_words : ℕ → ℕ → ℕ
level_of_words wq words = greatest 8 (words / wq + 1)

abbrev pub empty_levels : (wq quantum age : ℕ) → Levels
empty_levels wq quantum age = record { wq = wq; quantum = quantum; age = age; rows = replicate 9 [] }

abbrev pub is_user : ℕ → Waiting → Bool
is_user u x = nat_eq x.user u

-- whether the user is in one of the lists
abbrev pub is_in : ℕ → List (List Waiting) → Bool
is_in u [] = false
is_in u (row ∷ rows) = list_any (is_user u) row || is_in u rows

-- a list without the user
abbrev pub without_user : ℕ → List Waiting → List Waiting
without_user u row = filter (λ x. not (nat_eq x.user u)) row

-- the user goes to the tail of level l with that level's full time, and waits from now on
abbrev pub enter_at : ℕ → ℕ → (now : ℕ) → Levels → Levels
enter_at l u now q = record q { rows = set q.rows l (get_or q.rows l [] ++ record { user = u; left = q.quantum * 2 ^ l; since = now } ∷ []) }

-- the head of the lowest list that isn't empty, with its level; the first list is that of level l
abbrev pub first_of : ℕ → List (List Waiting) → Option (ℕ × Waiting)
first_of l [] = None
first_of l ([] ∷ rows) = first_of (suc l) rows
first_of l ((x ∷ row) ∷ rows) = Some (l, x)

abbrev pub head_of : List Waiting → Option Waiting
head_of [] = None
head_of (x ∷ xs) = Some x

-- what is read off the user that is chosen
abbrev pub user_of : Option (ℕ × Waiting) → Option ℕ
user_of None = None
user_of (Some x) = Some (x.1).user

abbrev pub level_in : Option (ℕ × Waiting) → ℕ
level_in None = 0
level_in (Some x) = x.0

abbrev pub left_in : Option (ℕ × Waiting) → ℕ
left_in None = 0
left_in (Some x) = (x.1).left

abbrev pub since_in : Option (ℕ × Waiting) → ℕ
since_in None = 0
since_in (Some x) = (x.1).since

abbrev pub one_less : ℕ → Waiting → Waiting
one_less u x = if nat_eq x.user u then record x { left = x.left - 1 } else x

abbrev pub drop_user : ℕ → Levels → Levels
drop_user u q = record q { rows = map (without_user u) q.rows }

-- the user that is served next, with its level
unfoldable pub chosen : Levels → Option (ℕ × Waiting)
chosen q = first_of 0 q.rows

-- the user that is served next, its level and what is left of its time
abbrev pub IsChosen : (user level left : ℕ) → Levels → Type 0
IsChosen user level left q = chosen q ≡ Some (level, record { user = user; left = left; since = since_in (chosen q) })

unfoldable pub waits : ℕ → Levels → Bool
waits u q = is_in u q.rows

-- the user enters as a program of so many blocks of 256 words
unfoldable pub entered : ℕ → ℕ → (now : ℕ) → Levels → Levels
entered blocks u now q = enter_at (level_of_words q.wq (256 * blocks)) u now q

-- the user goes out, and the others keep their order
unfoldable pub dropped : ℕ → Levels → Levels
dropped u q = drop_user u q

-- one tick of a user's time
unfoldable pub ticked : ℕ → Levels → Levels
ticked u q = record q { rows = map (map (one_less u)) q.rows }

-- to the tail of the next level, of which 8 is the last, with that level's full time
unfoldable pub sunk : ℕ → (now : ℕ) → Levels → Levels
sunk u now q = enter_at (min (level_in (chosen q) + 1) 8) u now (dropped u q)

-- whether the user that is chosen has time left behind one more tick
abbrev pub has_time : Levels → Bool
has_time q = nat_lt 1 (left_in (chosen q))

-- a tick is charged to the user that is chosen, which sinks at its last one
unfoldable pub charged : ℕ → (now : ℕ) → Levels → Levels
charged u now q = if has_time q then ticked u q else sunk u now q

-- the user enters as so many blocks, if it isn't in already
unfoldable pub woken : ℕ → ℕ → (now : ℕ) → Levels → Levels
woken blocks u now q = if waits u q then q else entered blocks u now q

-- a waiting command counts as 4 blocks
abbrev pub command_blocks : ℕ
command_blocks = 4

abbrev pub entered_again : Bool → ℕ → (now : ℕ) → Levels → Levels
entered_again false u now q = q
entered_again true u now q = entered command_blocks u now q

abbrev pub from_now : ℕ → (now : ℕ) → Waiting → Waiting
from_now u now x = if nat_eq x.user u then record x { since = now } else x

-- a preempted user keeps its place and its time, and waits from now on
unfoldable pub preempted : ℕ → (now : ℕ) → Levels → Levels
preempted u now q = record q { rows = map (map (from_now u now)) q.rows }

-- whether the user is the one whose service is open
abbrev pub is_served : Option ℕ → ℕ → Bool
is_served None u = false
is_served (Some v) u = nat_eq v u

-- whether a user that isn't served has waited for so many ticks
abbrev pub has_waited : (age : ℕ) → (served : Option ℕ) → (now : ℕ) → Waiting → Bool
has_waited age served now x = not (is_served served x.user) && nat_le (x.since + age) now

-- the first of a list that passes
abbrev pub first_that : (Waiting → Bool) → List Waiting → Option Waiting
first_that p [] = None
first_that p (x ∷ xs) = if p x then Some x else first_that p xs

-- at this level, or else as the other says
abbrev pub at_or : ℕ → Option Waiting → Option (ℕ × Waiting) → Option (ℕ × Waiting)
at_or l None other = other
at_or l (Some x) other = Some (l, x)

-- the first user that passes, in the order of the lists and then of each list, with its level; the first list is that of level l
abbrev pub first_with : (Waiting → Bool) → ℕ → List (List Waiting) → Option (ℕ × Waiting)
first_with p l [] = None
first_with p l (row ∷ rows) = at_or l (first_that p row) (first_with p (suc l) rows)

-- the user that rises, with the level from which it does: the first above level 0 that has waited for the whole age
unfoldable pub riser : (served : Option ℕ) → (now : ℕ) → Levels → Option (ℕ × Waiting)
riser served now q = if nat_eq q.age 0 then None else first_with (has_waited q.age served now) 1 (drop 1 q.rows)

-- a user that rises, and the level to which it goes
abbrev pub goes_up : Option (ℕ × Waiting) → Option (ℕ × ℕ)
goes_up None = None
goes_up (Some x) = Some ((x.1).user, x.0 - 1)

-- to the tail of that level, with its full time
unfoldable pub risen : ℕ → (level : ℕ) → (now : ℕ) → Levels → Levels
risen u l now q = enter_at l u now (dropped u q)

-- so much for each user of a list
abbrev pub so_much_each : ℕ → List Waiting → ℕ
so_much_each l [] = 0
so_much_each l (x ∷ xs) = l + so_much_each l xs

abbrev pub levels_from : ℕ → List (List Waiting) → ℕ
levels_from l [] = 0
levels_from l (row ∷ rows) = so_much_each l row + levels_from (suc l) rows

-- the levels of all users, summed
unfoldable pub sum_of_levels : Levels → ℕ
sum_of_levels q = levels_from 0 q.rows
