-- claim: the marks of a picture in characters, and the cells that they cover.
use Rattle.std.specs.Prelude.{ℕ, zero, suc, ◌+◌, ◌-◌, ◌*◌, ◌/◌, Bool, nat_eq, nat_lt, nat_le, ◌&&◌, min, max, if◌then◌else◌, List, [], ◌∷◌, ◌++◌, map, fold}
use Rattle.ctss_types.specs.declared.history.EventKind.{EventKind}
use Rattle.ctss_types.specs.declared.history.EventKind.TheVariants as kind
use Rattle.ctss_types.specs.declared.history.Entry.{Entry}
use Rattle.ctss_types.specs.declared.history.Entry.TheVariants.{Taken, Swap, Rise, Serve}
use Rattle.picture_model.specs.declared.request.Track.{Track}
use Rattle.picture_model.specs.Requests.{waited_from, track_after}
use Rattle.picture_model.specs.Folds.{cut_of}

-- a character from a place on, for so many places
pub record Mark : Type 0 where
  pub at : ℕ
  pub ticks : ℕ
  pub character : ℕ

abbrev pub mark : (at ticks character : ℕ) → Mark
mark at ticks character = record { at = at; ticks = ticks; character = character }

-- A number in one character: the digits, and then letters from A on, of which Z stands for 35 and all numbers behind it. Levels and
-- users' numbers are below that.
abbrev pub number_character : ℕ → ℕ
number_character n = if nat_lt n 10 then 48 + n else 55 + min n 35

-- A user waits from one tick to another, where so many are cut out before: a point. It is in a queue, so nothing of this time is cut out.
abbrev pub wait_marks : (cut waited tick : ℕ) → List Mark
wait_marks cut waited tick = if nat_lt waited tick then mark (waited - cut) (tick - waited) 46 ∷ [] else []

-- A user's marks at an entry: a point while it waits, / while it is brought in, and the number of the level that it is served at.
abbrev pub served_marks : (swap u cut : ℕ) → Track → Entry → List Mark
served_marks swap u cut t (Serve tick v level ran cause) =
    if nat_eq v u
    then wait_marks cut (waited_from t tick) tick ++ (mark (tick - cut) ran (number_character level) ∷ []) else []
served_marks swap u cut t (Swap tick v dumped read fresh) =
    if nat_eq v u then mark (tick - cut) (swap * (dumped + read)) 47 ∷ [] else []
served_marks swap u cut t _ = []

-- the marks of a user from a place of the schedule on
abbrev pub served_row : (swap u cut : ℕ) → Track → List Entry → List Mark
served_row swap u cut t [] = []
served_row swap u cut t (e ∷ es) =
    served_marks swap u cut t e ++ served_row swap u (cut + cut_of e) (track_after u t e) es

-- the letter of what an event was taken as; 32, a blank, of a dial
abbrev pub kind_letter : EventKind → ℕ
kind_letter kind.Dial = 32
kind_letter kind.Line = 86
kind_letter kind.Quit = 81
kind_letter kind.Hang = 72
kind_letter kind.Spent = 83

-- what comes to a user at an entry: V a line, Q a quit, H a hang-up, S a line too many, R that it rises
abbrev pub event_marks : (u cut : ℕ) → Entry → List Mark
event_marks u cut (Taken tick console kind v own) =
    if nat_eq v u then mark (tick - cut) 0 (kind_letter kind) ∷ [] else []
event_marks u cut (Rise tick v level) = if nat_eq v u then mark (tick - cut) 0 82 ∷ [] else []
event_marks u cut _ = []

abbrev pub event_row : (u cut : ℕ) → List Entry → List Mark
event_row u cut [] = []
event_row u cut (e ∷ es) = event_marks u cut e ++ event_row u (cut + cut_of e) es

-- who is served at a level
abbrev pub level_marks : (level cut : ℕ) → Entry → List Mark
level_marks level cut (Serve tick u l ran cause) =
    if nat_eq l level then mark (tick - cut) ran (number_character u) ∷ [] else []
level_marks level cut _ = []

abbrev pub level_row : (level cut : ℕ) → List Entry → List Mark
level_row level cut [] = []
level_row level cut (e ∷ es) = level_marks level cut e ++ level_row level (cut + cut_of e) es

-- whether a mark is seen in a column of so many places: it covers one of them, or begins there
abbrev pub is_over : (each column : ℕ) → Mark → Bool
is_over each column m = nat_le (m.at / each) column && nat_le column ((m.at + (m.ticks - 1)) / each)

-- what a mark makes of a column
abbrev pub character_at : (each column : ℕ) → Mark → ℕ
character_at each column m = if is_over each column m then m.character else 32

-- what is seen in a column: of all marks there the greatest character, so a level before /, that before a point, that before a blank
abbrev pub cell : (each column : ℕ) → List Mark → ℕ
cell each column ms = fold max 32 (map (character_at each column) ms)

-- so many cells, from a column on
abbrev pub cells : (each column count : ℕ) → List Mark → List ℕ
cells each column zero ms = []
cells each column (suc n) ms = cell each column ms ∷ cells each (suc column) n ms
