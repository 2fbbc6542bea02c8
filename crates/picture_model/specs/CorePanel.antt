-- claim: core in the picture of a record: from each load to the next, whose each place is, and below it what the load moved.
use Rattle.std.specs.Prelude.{ℕ, zero, suc, ◌+◌, ◌-◌, ◌*◌, ◌%◌, Bool, true, not, nat_eq, nat_le, if◌then◌else◌, List, [], ◌∷◌, ◌++◌, codes}
use Rattle.std.specs.List.{flat_map}
use Rattle.std.specs.Fmt.{decimal}
use Rattle.ctss_types.specs.declared.history.Entry.{Entry}
use Rattle.ctss_types.specs.declared.history.Entry.TheVariants.{Swap}
use Rattle.picture_model.specs.Folds.{cut_of}
use Rattle.picture_model.specs.Drawing.{across, core_top, bar, words_at, level_label}

-- the upper edge of a place of core: each is two units high
abbrev pub place_top : (scale users place : ℕ) → ℕ
place_top scale users place = core_top scale users + 2 * (scale * place)

-- whether a stretch of places of one owner begins here
abbrev pub begins_at : (ℕ → ℕ) → ℕ → Bool
begins_at owner zero = true
begins_at owner (suc q) = not (nat_eq (owner q) (owner (suc q)))

-- how many places from one on, of so many, are all this user's
abbrev pub stretch_from : (owner : ℕ → ℕ) → (user place most : ℕ) → ℕ
stretch_from owner user place zero = 0
stretch_from owner user place (suc n) =
    if nat_eq (owner place) user then suc (stretch_from owner user (suc place) n) else 0

-- the colour of a user's places; those of nobody are light grey
abbrev pub owner_bar : (user x y width height : ℕ) → Entry → List ℕ
owner_bar zero x y width height e = bar (codes "free") 0 x y width height e
owner_bar (suc u) x y width height e = bar (codes "u") (suc u % 10) x y width height e

-- the user's number in the middle, where there is room; a stretch of six places is high enough
abbrev pub owner_label : (scale user x y width count : ℕ) → List ℕ
owner_label scale zero x y width count = []
owner_label scale (suc u) x y width count =
    if nat_le 6 count then level_label scale x (y + (scale * count + 4 * scale)) width (suc u) else []

-- a stretch of so many places of a user, from one place of the picture to another
abbrev pub stretch_drawn : (scale zoom users from until user place count : ℕ) → Entry → List ℕ
stretch_drawn scale zoom users from until user place count e =
    owner_bar user (across scale zoom from) (place_top scale users place) (zoom * (until - from)) (2 * (scale * count)) e
    ++ owner_label scale user (across scale zoom from) (place_top scale users place) (zoom * (until - from)) count

-- the stretch that begins at a place of core, if one does
abbrev pub place_drawn : (scale zoom users from until : ℕ) → (ℕ → ℕ) → Entry → (place : ℕ) → List ℕ
place_drawn scale zoom users from until owner e place =
    if begins_at owner place
    then stretch_drawn scale zoom users from until (owner place) place (stretch_from owner (owner place) place (128 - place)) e
    else []

-- all stretches that begin at so many places of core, from one on
abbrev pub places_drawn : (scale zoom users from until : ℕ) → (ℕ → ℕ) → Entry → (place count : ℕ) → List ℕ
places_drawn scale zoom users from until owner e place zero = []
places_drawn scale zoom users from until owner e place (suc n) =
    place_drawn scale zoom users from until owner e place
    ++ places_drawn scale zoom users from until owner e (suc place) n

-- a number below core, in the first row, the second or the third, where there is room before the next load
abbrev pub moved_label : (scale zoom users from until row n : ℕ) → List ℕ
moved_label scale zoom users from until row n =
    if nat_le (24 * scale) (zoom * (until - from))
    then words_at (codes "w") (across scale zoom from) (place_top scale users 128 + 12 * (scale * row)) (decimal n) else []

-- a load: core after it, and how many blocks were dumped, read and cleared for it
abbrev pub load_shown : (scale zoom users from until dumped read fresh : ℕ) → (ℕ → ℕ) → Entry → List ℕ
load_shown scale zoom users from until dumped read fresh owner e =
    places_drawn scale zoom users from until owner e 0 128
    ++ (moved_label scale zoom users from until 1 dumped
    ++ (moved_label scale zoom users from until 2 read ++ moved_label scale zoom users from until 3 fresh))

-- the place of the picture at which the next load begins, or the last one where no load comes any more
abbrev pub load_place : (cut : ℕ) → Entry → (later : ℕ) → ℕ
load_place cut (Swap tick user dumped read fresh) later = tick - cut
load_place cut _ later = later

abbrev pub next_load : (last cut : ℕ) → List Entry → ℕ
next_load last cut [] = last
next_load last cut (e ∷ es) = load_place cut e (next_load last (cut + cut_of e) es)

-- the owners behind the next load, and those after the loads that come after an entry
abbrev pub first_owners : List (ℕ → ℕ) → ℕ → ℕ
first_owners [] = λ place. 0
first_owners (owner ∷ owners) = owner

abbrev pub owners_after : Entry → List (ℕ → ℕ) → List (ℕ → ℕ)
owners_after (Swap tick user dumped read fresh) [] = []
owners_after (Swap tick user dumped read fresh) (owner ∷ owners) = owners
owners_after _ owners = owners

-- what an entry shows in the rows of core, until a place of the picture
abbrev pub core_drawn : (scale zoom users cut until : ℕ) → (ℕ → ℕ) → Entry → List ℕ
core_drawn scale zoom users cut until owner (Swap tick user dumped read fresh) =
    load_shown scale zoom users (tick - cut) until dumped read fresh owner (Swap tick user dumped read fresh)
core_drawn scale zoom users cut until owner _ = []

-- the same of all entries, with the owners after each load
abbrev pub cores_drawn : (scale zoom users last cut : ℕ) → List (ℕ → ℕ) → List Entry → List ℕ
cores_drawn scale zoom users last cut owners [] = []
cores_drawn scale zoom users last cut owners (e ∷ es) =
    core_drawn scale zoom users cut (next_load last (cut + cut_of e) es) (first_owners owners) e
    ++ cores_drawn scale zoom users last (cut + cut_of e) (owners_after e owners) es

-- what stands before the rows of core
abbrev pub place_name : (scale users place : ℕ) → List ℕ
place_name scale users place =
    words_at (codes "w") (4 * scale) (place_top scale users place + 11 * scale) (codes "PLACE " ++ decimal place)

abbrev pub moved_name : (scale users row : ℕ) (name : List ℕ) → List ℕ
moved_name scale users row name =
    words_at (codes "w") (4 * scale) (place_top scale users 128 + 12 * (scale * row)) name

abbrev pub core_names : (scale users : ℕ) → List ℕ
core_names scale users =
    words_at (codes "w") (110 * scale) (place_top scale users 0 - 6 * scale) (codes "Core: whose each place is behind each load; below, how many blocks were moved for it.")
    ++ (flat_map (place_name scale users) (0 ∷ 32 ∷ 64 ∷ 96 ∷ [])
    ++ (moved_name scale users 1 (codes "DUMPED") ++ (moved_name scale users 2 (codes "READ") ++ moved_name scale users 3 (codes "CLEARED"))))

-- the whole panel of core
abbrev pub core_panel : (scale zoom users last : ℕ) → List (ℕ → ℕ) → List Entry → List ℕ
core_panel scale zoom users last owners es =
    core_names scale users ++ cores_drawn scale zoom users last 0 owners es
