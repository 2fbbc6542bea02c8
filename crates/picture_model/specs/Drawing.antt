-- claim: the parts of the picture of a record, drawn: who ran, the levels, and the figures, as SVG text.
use Rattle.std.specs.Prelude.{ℕ, zero, suc, ◌+◌, ◌-◌, ◌*◌, ◌/◌, ◌%◌, nat_eq, nat_lt, nat_le, ◌&&◌, max, if◌then◌else◌, List, [], ◌∷◌, ◌++◌, codes}
use Rattle.std.specs.List.{flat_map}
use Rattle.std.specs.Fmt.{decimal}
use Rattle.bcd48.specs.Words.{characters_of}
use Rattle.ctss_types.specs.declared.script.Script.{Script}
use Rattle.ctss_types.specs.declared.script.Account.{Account}
use Rattle.ctss_types.specs.declared.history.Cause.{Cause}
use Rattle.ctss_types.specs.declared.history.Cause.TheVariants as cause
use Rattle.ctss_types.specs.declared.history.EventKind.{EventKind}
use Rattle.ctss_types.specs.declared.history.EventKind.TheVariants as kind
use Rattle.ctss_types.specs.declared.history.Record.{Record}
use Rattle.ctss_types.specs.declared.history.Entry.{Entry}
use Rattle.ctss_types.specs.declared.history.Entry.TheVariants.{Taken, Idle, Swap, Rise, Serve}
use Rattle.text_model.specs.Parts.{line}
use Rattle.text_model.specs.Report.{entry_text}
use Rattle.picture_model.specs.declared.request.Track.{Track}
use Rattle.picture_model.specs.declared.request.Track.TheVariants.{Fresh}
use Rattle.picture_model.specs.Requests.{waited_from, track_after}
use Rattle.picture_model.specs.FigureLines.{all_levels, figures_in, time_line}
use Rattle.picture_model.specs.Folds.{most_idle, cut_of, tick_at}

-- an attribute and its number, as in x='12'
unfoldable pub attribute : List ℕ → ℕ → List ℕ
attribute name n = name ++ (decimal n ++ (39 ∷ []))

-- How a picture is laid out: all but places is a multiple of this number, so that writing can be read however long the run is.
abbrev pub scale_for : (places : ℕ) → ℕ
scale_for places = suc (places / 1200)

-- how wide a place is: one unit, and more where the run is short
abbrev pub zoom_for : (places : ℕ) → ℕ
zoom_for places = max 1 (1000 / suc places)

-- the left edge of a place
abbrev pub across : (scale zoom place : ℕ) → ℕ
across scale zoom place = 110 * scale + zoom * place

-- the upper edges of a user's row and of a level's, and below that of the figures; users count from 1
abbrev pub user_top : (scale u : ℕ) → ℕ
user_top scale u = (70 + 26 * u) * scale

abbrev pub level_top : (scale users level : ℕ) → ℕ
level_top scale users level = (140 + (26 * users + 18 * level)) * scale

-- that of the rows of core, which are two units high each, with three rows of numbers below them
abbrev pub core_top : (scale users : ℕ) → ℕ
core_top scale users = (330 + 26 * users) * scale

abbrev pub figures_top : (scale users : ℕ) → ℕ
figures_top scale users = (650 + 26 * users) * scale

abbrev pub sheet_height : (scale users : ℕ) → ℕ
sheet_height scale users = (960 + 40 * users) * scale

abbrev pub sheet_width : (scale zoom places : ℕ) → ℕ
sheet_width scale zoom places = 130 * scale + max (zoom * places) (960 * scale)

-- where a rectangle lies
unfoldable pub area : (x y width height : ℕ) → List ℕ
area x y width height =
    attribute (codes " x='") x ++ (attribute (codes " y='") y ++ (attribute (codes " width='") width ++ attribute (codes " height='") height))

-- the end of what has an entry's own line as its title
unfoldable pub titled : (what : List ℕ) → Entry → List ℕ
titled what e = codes "><title>" ++ (entry_text e ++ (codes "</title></" ++ (what ++ line (codes ">"))))

-- a rectangle of a class with a number, for an entry
unfoldable pub bar : (class : List ℕ) (number x y width height : ℕ) → Entry → List ℕ
bar class number x y width height e =
    codes "<rect class='" ++ (class ++ (decimal number ++ (codes "'" ++ (area x y width height ++ titled (codes "rect") e))))

-- a rectangle of a class alone
unfoldable pub plain_box : (class : List ℕ) (x y width height : ℕ) → List ℕ
plain_box class x y width height = codes "<rect class='" ++ (class ++ (codes "'" ++ (area x y width height ++ line (codes "/>"))))

-- a text of a class, at a point
unfoldable pub text_begun : (class : List ℕ) (x y : ℕ) → List ℕ
text_begun class x y =
    codes "<text class='" ++ (class ++ (codes "'" ++ (attribute (codes " x='") x ++ (attribute (codes " y='") y ++ codes ">"))))

abbrev pub words_at : (class : List ℕ) (x y : ℕ) (text : List ℕ) → List ℕ
words_at class x y text = text_begun class x y ++ (text ++ line (codes "</text>"))

-- the form of a sign: its tip at a point, and two strokes of three units to each side
unfoldable pub form : (scale x y : ℕ) (side : List ℕ) → List ℕ
form scale x y side =
    decimal x ++ (codes " " ++ (decimal y ++ (codes "l-" ++ (decimal (3 * scale) ++ (side ++ (decimal (6 * scale)
    ++ (codes "h" ++ decimal (6 * scale))))))))

-- a sign for an entry
unfoldable pub tip : (class : List ℕ) (scale x y : ℕ) (side : List ℕ) → Entry → List ℕ
tip class scale x y side e =
    codes "<path class='" ++ (class ++ (codes "' d='M" ++ (form scale x y side ++ (codes "z'" ++ titled (codes "path") e))))

-- the letter of why a service ended
abbrev pub cause_letter : Cause → ℕ
cause_letter cause.Time = 84
cause_letter cause.Wait = 87
cause_letter cause.Stop = 83
cause_letter cause.Size = 90
cause_letter cause.Preempt = 80
cause_letter cause.End = 69

-- In the middle of a bar that is wide enough stands its number, and behind it a letter where there is room for that too. On dark bars,
-- those of levels from 5 on, it is white.
abbrev pub label_class : ℕ → List ℕ
label_class number = if nat_lt number 5 then codes "n" else codes "n d"

abbrev pub label_letter : (scale width letter : ℕ) → List ℕ
label_letter scale width letter = if nat_le (16 * scale) width then letter ∷ [] else []

abbrev pub bar_label : (scale x y width number letter : ℕ) → List ℕ
bar_label scale x y width number letter =
    if nat_le (8 * scale) width
    then words_at (label_class number) (x + width / 2) y (decimal number ++ label_letter scale width letter) else []

-- what came to a user: a sign for a line, a letter for what ends its work, nothing for a dial
abbrev pub event_drawn : (scale x y : ℕ) → EventKind → Entry → List ℕ
event_drawn scale x y kind.Dial e = []
event_drawn scale x y kind.Line e = tip (codes "line") scale x (y + 8 * scale) (codes "-") e
event_drawn scale x y kind.Quit e = words_at (codes "q") x (y + 7 * scale) (codes "Q")
event_drawn scale x y kind.Hang e = words_at (codes "q") x (y + 7 * scale) (codes "H")
event_drawn scale x y kind.Spent e = words_at (codes "q") x (y + 7 * scale) (codes "S")

-- a service, at a place: its bar, and its label
abbrev pub service_drawn : (scale zoom place u level ran : ℕ) → Cause → Entry → List ℕ
service_drawn scale zoom place u level ran cause e =
    bar (codes "l") level (across scale zoom place) (user_top scale u + 8 * scale) (zoom * ran) (14 * scale) e
    ++ bar_label scale (across scale zoom place) (user_top scale u + 19 * scale) (zoom * ran) level (cause_letter cause)

-- a load: its bar
abbrev pub load_drawn : (swap scale zoom place u dumped read : ℕ) → Entry → List ℕ
load_drawn swap scale zoom place u dumped read e =
    bar (codes "load") 0 (across scale zoom place) (user_top scale u + 8 * scale) (zoom * (swap * (dumped + read))) (14 * scale) e

-- what came to a user, if it came in a session
abbrev pub taken_drawn : (scale zoom place u : ℕ) → EventKind → Entry → List ℕ
taken_drawn scale zoom place u kind e =
    if nat_eq u 0 then [] else event_drawn scale (across scale zoom place) (user_top scale u) kind e

-- a rise: a sign
abbrev pub rise_drawn : (scale zoom place u : ℕ) → Entry → List ℕ
rise_drawn scale zoom place u e = tip (codes "rise") scale (across scale zoom place) (user_top scale u + 2 * scale) (codes " ") e

-- an entry in the rows of users, where so many ticks are cut out before
abbrev pub user_drawn : (swap scale zoom cut : ℕ) → Entry → List ℕ
user_drawn swap scale zoom cut (Serve tick u level ran cause) =
    service_drawn scale zoom (tick - cut) u level ran cause (Serve tick u level ran cause)
user_drawn swap scale zoom cut (Swap tick u dumped read fresh) =
    load_drawn swap scale zoom (tick - cut) u dumped read (Swap tick u dumped read fresh)
user_drawn swap scale zoom cut (Taken tick console kind u own) =
    taken_drawn scale zoom (tick - cut) u kind (Taken tick console kind u own)
user_drawn swap scale zoom cut (Rise tick u level) = rise_drawn scale zoom (tick - cut) u (Rise tick u level)
user_drawn swap scale zoom cut _ = []

-- an entry in the rows of levels: a service, in the user's colour and with its number
abbrev pub level_label : (scale x y width number : ℕ) → List ℕ
level_label scale x y width number =
    if nat_le (16 * scale) width then words_at (codes "n") (x + width / 2) y (decimal number) else []

abbrev pub level_service : (scale zoom users place level ran u : ℕ) → Entry → List ℕ
level_service scale zoom users place level ran u e =
    bar (codes "u") (u % 10) (across scale zoom place) (level_top scale users level) (zoom * ran) (14 * scale) e
    ++ level_label scale (across scale zoom place) (level_top scale users level + 11 * scale) (zoom * ran) u

abbrev pub level_drawn : (scale zoom users cut : ℕ) → Entry → List ℕ
level_drawn scale zoom users cut (Serve tick u level ran cause) =
    level_service scale zoom users (tick - cut) level ran u (Serve tick u level ran cause)
level_drawn scale zoom users cut _ = []

-- An idle time lies behind all rows. How long it was is said where as many ticks of it are shown as may be, and there is room.
abbrev pub idle_label : (scale zoom place ticks : ℕ) → List ℕ
idle_label scale zoom place ticks =
    if nat_le scale 1 && nat_le most_idle ticks
    then words_at (codes "n cut") (across scale zoom place + zoom * 26) (94 * scale) (decimal ticks) else []

abbrev pub idle_bar : (scale zoom users cut from until : ℕ) → Entry → List ℕ
idle_bar scale zoom users cut from until e =
    bar (codes "idle") 0 (across scale zoom (from - cut)) (user_top scale 1) (zoom * ((until - from) - cut_of e))
    (level_top scale users 9 - user_top scale 1) e
    ++ idle_label scale zoom (from - cut) (until - from)

abbrev pub idle_drawn : (scale zoom users cut : ℕ) → Entry → List ℕ
idle_drawn scale zoom users cut (Idle from until) = idle_bar scale zoom users cut from until (Idle from until)
idle_drawn scale zoom users cut _ = []

-- what is drawn of each entry, where so many ticks are cut out before the first
abbrev pub drawn : (ℕ → Entry → List ℕ) → (cut : ℕ) → List Entry → List ℕ
drawn what cut [] = []
drawn what cut (e ∷ es) = what cut e ++ drawn what (cut + cut_of e) es

-- a user's time in a queue
abbrev pub queue_drawn : (scale zoom u cut waited tick : ℕ) → List ℕ
queue_drawn scale zoom u cut waited tick =
    if nat_lt waited tick
    then plain_box (codes "wait") (across scale zoom (waited - cut)) (user_top scale u + 14 * scale) (zoom * (tick - waited)) (2 * scale)
    else []

abbrev pub wait_drawn : (scale zoom u cut : ℕ) → Track → Entry → List ℕ
wait_drawn scale zoom u cut t (Serve tick v level ran cause) =
    if nat_eq v u then queue_drawn scale zoom u cut (waited_from t tick) tick else []
wait_drawn scale zoom u cut t _ = []

abbrev pub waits_drawn : (scale zoom u cut : ℕ) → Track → List Entry → List ℕ
waits_drawn scale zoom u cut t [] = []
waits_drawn scale zoom u cut t (e ∷ es) =
    wait_drawn scale zoom u cut t e ++ waits_drawn scale zoom u (cut + cut_of e) (track_after u t e) es

-- a user's name before its row, and its times in a queue
abbrev pub user_row : (scale zoom u : ℕ) → Account → List Entry → List ℕ
user_row scale zoom u a es =
    words_at (codes "w") (4 * scale) (user_top scale u + 19 * scale) (decimal u ++ (codes " " ++ characters_of a.name))
    ++ waits_drawn scale zoom u 0 Fresh es

abbrev pub user_rows : (scale zoom u : ℕ) → List Account → List Entry → List ℕ
user_rows scale zoom u [] es = []
user_rows scale zoom u (a ∷ accounts) es = user_row scale zoom u a es ++ user_rows scale zoom (suc u) accounts es

-- a level's name before its row
abbrev pub level_name : (scale users level : ℕ) → List ℕ
level_name scale users level =
    words_at (codes "w") (4 * scale) (level_top scale users level + 11 * scale) (codes "LEVEL " ++ decimal level)

-- a line across all rows and its tick, at a place
abbrev pub ruler_mark : (scale zoom users place : ℕ) → List Entry → List ℕ
ruler_mark scale zoom users place es =
    plain_box (codes "grid") (across scale zoom place) (76 * scale) scale (level_top scale users 9 - 76 * scale)
    ++ words_at (codes "w") (across scale zoom place) (72 * scale) (decimal (tick_at place es))

-- so many places are between two such lines: as many as 100 units of scale have, and one at least
abbrev pub places_between : (scale zoom : ℕ) → ℕ
places_between scale zoom = max 1 (100 * scale / zoom)

-- so many lines from one on
abbrev pub ruler_drawn : (scale zoom users each mark count : ℕ) → List Entry → List ℕ
ruler_drawn scale zoom users each mark zero es = []
ruler_drawn scale zoom users each mark (suc n) es =
    ruler_mark scale zoom users (each * mark) es ++ ruler_drawn scale zoom users each (suc mark) n es

-- all of so many places
abbrev pub ruler : (scale zoom users each places : ℕ) → List Entry → List ℕ
ruler scale zoom users each places es = ruler_drawn scale zoom users each 0 (suc (places / each)) es

-- colours: levels from light to dark, users, and all else
unfoldable pub style : List ℕ
style =
    codes "<style>rect{stroke:#555;stroke-width:.5px;vector-effect:non-scaling-stroke}text{fill:#222}.b{font-weight:bold}.n{text-anchor:middle}.d{fill:#fff}"
    ++ (codes ".l0{fill:#ffffd9}.l1{fill:#edf8b1}.l2{fill:#c7e9b4}.l3{fill:#7fcdbb}.l4{fill:#41b6c4}.l5{fill:#1d91c0}.l6{fill:#225ea8}.l7{fill:#253494}.l8{fill:#081d58}"
    ++ (codes ".u0{fill:#bc80bd}.u1{fill:#8dd3c7}.u2{fill:#ffffb3}.u3{fill:#bebada}.u4{fill:#fb8072}.u5{fill:#80b1d3}.u6{fill:#fdb462}.u7{fill:#b3de69}.u8{fill:#fccde5}.u9{fill:#d9d9d9}"
    ++ line (codes ".load0{fill:#000}.free0{fill:#f5f5f5;stroke:none}.wait{fill:#777;stroke:none}.idle0{fill:#f2f2f2;stroke:none}.cut{fill:#777}.grid{fill:#ddd;stroke:none}.line{fill:#c00}.rise{fill:#060}.q{fill:#c00;font-weight:bold}.sheet{fill:#fff;stroke:none}</style>")))

-- how it is read
abbrev pub how_read : List ℕ
how_read =
    codes "Number and colour: the level. Letter: why the service ended (T its time was over, P another was preferred, W it waits for a line,"

abbrev pub how_read_further : List ℕ
how_read_further =
    codes "S done, Z a new size, E the end). Black: brought into core. Thin: in a queue. Red: a line, Q a quit, H a hang-up. Grey: idle, cut to 52 ticks."

unfoldable pub legend : ℕ → List ℕ
legend scale =
    words_at (codes "w") (110 * scale) (36 * scale) how_read ++ words_at (codes "w") (110 * scale) (50 * scale) how_read_further

-- the first lines: on a screen a unit of scale is a pixel
unfoldable pub sheet_begun : (scale zoom users places : ℕ) → List ℕ
sheet_begun scale zoom users places =
    codes "<svg xmlns='http://www.w3.org/2000/svg' font-family='monospace'" ++ (attribute (codes " font-size='") (11 * scale)
    ++ (codes " viewBox='0 0 " ++ (decimal (sheet_width scale zoom places) ++ (codes " " ++ (decimal (sheet_height scale users)
    ++ (codes "'" ++ (attribute (codes " width='") (sheet_width scale zoom places / scale)
    ++ (attribute (codes " height='") (960 + 40 * users) ++ line (codes ">")))))))))

-- a sheet of white
abbrev pub sheet : (scale zoom users places : ℕ) → List ℕ
sheet scale zoom users places =
    sheet_begun scale zoom users places
    ++ (style ++ plain_box (codes "sheet") 0 0 (sheet_width scale zoom places) (sheet_height scale users))

-- the figures as lines of one text
unfoldable pub figures_drawn : (scale users : ℕ) → Script → Record → List ℕ
figures_drawn scale users script rec =
    codes "<svg overflow='visible'" ++ (attribute (codes " x='") (4 * scale) ++ (attribute (codes " y='") (figures_top scale users)
    ++ (codes "><text xml:space='preserve'>" ++ (figures_in (codes "<tspan x='0' dy='1.25em'>") (codes "</tspan>") script rec
    ++ line (codes "</text></svg>")))))

-- the rows of users and what is in them, and those of levels
abbrev pub rows_drawn : (swap scale zoom users : ℕ) → List Account → List Entry → List ℕ
rows_drawn swap scale zoom users accounts es =
    user_rows scale zoom 1 accounts es
    ++ (drawn (user_drawn swap scale zoom) 0 es
    ++ (flat_map (level_name scale users) all_levels
    ++ drawn (level_drawn scale zoom users) 0 es))

-- what lies behind the rows: a sheet, what the whole time went into, how the picture is read, idle times and the ruler
abbrev pub back_drawn : (scale zoom users places swap : ℕ) → Record → List ℕ
back_drawn scale zoom users places swap rec =
    sheet scale zoom users places
    ++ (words_at (codes "b") (110 * scale) (20 * scale) (time_line swap rec)
    ++ (legend scale
    ++ (drawn (idle_drawn scale zoom users) 0 rec.entries
    ++ ruler scale zoom users (places_between scale zoom) places rec.entries)))
