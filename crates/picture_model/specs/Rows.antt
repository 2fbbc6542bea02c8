-- claim: worked rows: two users' visits, figures and marks, and places behind an idle time.
use Rattle.std.specs.Prelude.{◌≡◌, ℕ, true, false, List, [], ◌∷◌, map, get_or, codes}
use Rattle.ctss_types.specs.declared.history.Cause.TheVariants as cause
use Rattle.ctss_types.specs.declared.history.EventKind.TheVariants as kind
use Rattle.ctss_types.specs.declared.history.Entry.{Entry}
use Rattle.ctss_types.specs.declared.history.Entry.TheVariants.{Taken, Idle, Swap, Serve}
use Rattle.text_model.specs.Parts.{line, column}
use Rattle.picture_model.specs.declared.request.Track.TheVariants.{Fresh}
use Rattle.picture_model.specs.declared.request.Visit.{Visit}
use Rattle.picture_model.specs.Requests.{visits}
use Rattle.picture_model.specs.Figures.{wait_of, responses, turnarounds, total, line_of, served_of, highest_level, ticks_at}
use Rattle.picture_model.specs.Columns.{mean}
use Rattle.picture_model.specs.Folds.{all_cut, tick_at}
use Rattle.picture_model.specs.Marks.{cells, served_row, event_row, level_row}
use Rattle.picture_model.specs.Chart.{places_each, column_count}
use Rattle.picture_model.specs.Drawing.{words_at}
use Rattle.picture_model.specs.CorePanel.{begins_at, stretch_from, next_load, moved_label}

-- User 1 types two lines at tick 10, is served for the first from 12 to 13, and at once for the second, which runs out of time, is brought
-- in again and done at 90; in between user 2 types a line at 62 and is served for it, and user 1 types another line at 82. It is served for that from 90 on. Then nobody
-- has anything to do for 1000 ticks, and user 1 types a line that is done at once.
abbrev pub some_entries : List Entry
some_entries =
    Idle 0 10 ∷ Taken 10 1 kind.Line 1 0 ∷ Taken 10 1 kind.Line 1 0 ∷ Serve 10 2 1 2 cause.Wait
    ∷ Serve 12 1 1 1 cause.Stop
    ∷ Taken 62 2 kind.Line 2 2 ∷ Serve 13 1 1 50 cause.Time ∷ Serve 63 2 0 7 cause.Wait
    ∷ Swap 70 1 1 1 0 ∷ Taken 82 1 kind.Line 1 52 ∷ Serve 80 1 2 10 cause.Stop
    ∷ Serve 90 1 1 4 cause.Wait ∷ Idle 94 1094 ∷ Taken 1094 1 kind.Line 1 65 ∷ Serve 1094 1 1 6 cause.Stop ∷ []

abbrev pub visit : (waited from until asked : ℕ) → Visit
visit waited from until asked =
    record { waited = waited; from = from; until = until; asked = asked; is_first = true; is_last = true }

abbrev pub some_visits : List Visit
some_visits =
    visit 10 12 13 10 ∷ record { waited = 13; from = 13; until = 63; asked = 13; is_first = true; is_last = false }
    ∷ record { waited = 63; from = 80; until = 90; asked = 13; is_first = false; is_last = true }
    ∷ visit 90 90 94 90 ∷ visit 1094 1094 1100 1094 ∷ []

pub record RowOfVisits : Type 0 where
  pub seen : visits 1 some_entries ≡ some_visits
  pub waits : map wait_of some_visits ≡ 2 ∷ 0 ∷ 17 ∷ 0 ∷ 0 ∷ []
  pub responses : responses some_visits ≡ 2 ∷ 0 ∷ 0 ∷ 0 ∷ []
  pub turnarounds : turnarounds some_visits ≡ 3 ∷ 77 ∷ 4 ∷ 6 ∷ []

pub record RowOfFigures : Type 0 where
  pub lines : total (line_of 1) some_entries ≡ 4
  pub served : total (served_of 1) some_entries ≡ 71
  pub other : total (served_of 2) some_entries ≡ 9
  pub level : highest_level 1 some_entries ≡ 2
  pub ticks : total (ticks_at 1 cause.Time) some_entries ≡ 50
  pub none : mean 0 0 ≡ codes "-"
  pub mean : mean 3 2 ≡ codes "0.6"
  pub column : column 4 27 ≡ codes "  27"

-- of the 1000 idle ticks 52 are shown; a column has 10 places, so the last service is in columns 14 and 15
pub record RowOfCells : Type 0 where
  pub cut : all_cut some_entries ≡ 948
  pub before : tick_at 145 some_entries ≡ 145
  pub behind : tick_at 146 some_entries ≡ 1094
  pub served : cells 10 0 16 (served_row 5 1 0 Fresh some_entries) ≡ codes " 111111/21    11"
  pub other : cells 10 0 16 (served_row 5 2 0 Fresh some_entries) ≡ codes " 1    0         "
  pub events : cells 10 0 16 (event_row 1 0 some_entries) ≡ codes " V      V     V "
  pub level : cells 10 0 16 (level_row 1 0 some_entries) ≡ codes " 211111  1    11"
  pub each : places_each 6000 ≡ 55
  pub columns : column_count 6000 ≡ 110
  pub few : column_count 53 ≡ 3
  pub words : words_at (codes "n") 5 12 (codes "3") ≡ line (codes "<text class='n' x='5' y='12'>3</text>")

-- users 1 and 2 own three places and two; the others are nobody's
abbrev pub some_owner : ℕ → ℕ
some_owner place = get_or (1 ∷ 1 ∷ 1 ∷ 2 ∷ 2 ∷ []) place 0

-- Behind the first entries a load comes at tick 70, and then none any more. The first shows numbers if it is wide enough.
pub record RowOfCore : Type 0 where
  pub first : begins_at some_owner 0 ≡ true
  pub inside : begins_at some_owner 2 ≡ false
  pub second : begins_at some_owner 3 ≡ true
  pub free : begins_at some_owner 5 ≡ true
  pub three : stretch_from some_owner 1 0 128 ≡ 3
  pub two : stretch_from some_owner 2 3 125 ≡ 2
  pub rest : stretch_from some_owner 0 5 123 ≡ 123
  pub loads : next_load 152 0 some_entries ≡ 70
  pub last : next_load 152 0 (Serve 90 1 1 4 cause.Wait ∷ Idle 94 1094 ∷ []) ≡ 152
  pub folded : next_load 152 0 (Idle 94 1094 ∷ Swap 1094 1 0 0 1 ∷ []) ≡ 146
  pub narrow : moved_label 1 1 1 70 93 1 5 ≡ []
  pub wide : moved_label 1 1 1 70 94 1 5 ≡ line (codes "<text class='w' x='180' y='624'>5</text>")
