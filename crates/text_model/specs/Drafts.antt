-- claim: what the cards so far say, and what one card more adds or for what cause it is refused.
use Rattle.std.specs.Prelude.{ℕ, ◌+◌, ◌-◌, Bool, true, false, not, ◌&&◌, ◌||◌, nat_eq, nat_le, nat_lt, List, [], ◌∷◌, ◌++◌, length, get_or, Option, Some, None, Ok, Err, option_to_list, bytes_eq, codes, if◌then◌else◌}
use Rattle.std.specs.declared.result.Result.{Result}
use Rattle.std.specs.Option.{is_some}
use Rattle.std.specs.List.{list_any}
use Rattle.ctss_types.specs.Words.{word_in, behind_word}
use Rattle.ctss_types.specs.declared.script.Params.{Params}
use Rattle.ctss_types.specs.Params.{param_limits, numbers_of, are_within}
use Rattle.ctss_types.specs.declared.script.Account.{Account}
use Rattle.ctss_types.specs.declared.script.Timed.{Timed}
use Rattle.ctss_types.specs.declared.file.OwnedFile.{OwnedFile}
use Rattle.file_model.specs.Files.{same_name, tracks_of}
use Rattle.file_model.specs.Owned.{files_of}
use Rattle.program_model.specs.Lines.{words_of_line}
use Rattle.text_model.specs.declared.cause.ScriptCause.{ScriptCause}
use Rattle.text_model.specs.declared.cause.ScriptCause.TheVariants.{NotACard, TimeFalls, UnknownNumber, OverLimit, DrumSmall, DiskSmall, NoEnd}
use Rattle.text_model.specs.declared.card.UserCard.{UserCard}
use Rattle.text_model.specs.declared.card.FileCard.{FileCard}
use Rattle.text_model.specs.declared.card.EventCard.{EventCard}
use Rattle.text_model.specs.declared.card.CardText.{CardText}
use Rattle.text_model.specs.declared.card.CardText.TheVariants as card_text
use Rattle.text_model.specs.declared.card.CardEvent.{CardEvent}
use Rattle.text_model.specs.declared.card.CardEvent.TheVariants as card_event
use Rattle.text_model.specs.Fields.{is_within, is_over, text_behind}
use Rattle.text_model.specs.Cards.{param_card_in, user_card_in, file_card_in, words_card_in, event_card_in, end_card_in}

-- what the cards so far say, with the sums of the quotas and the tick of the last event
pub record Draft : Type 0 where
  pub params : Option Params
  pub accounts : List Account
  pub blocks : ℕ
  pub tracks : ℕ
  -- the files whose words are all there, and the last one
  pub files : List OwnedFile
  pub file : Option OwnedFile
  pub events : List Timed
  pub tick : ℕ
  pub end : Option ℕ

abbrev pub empty_draft : Draft
empty_draft = record { params = None; accounts = []; blocks = 0; tracks = 0; files = []; file = None; events = []; tick = 0; end = None }

-- all files so far
abbrev pub all_files : Draft → List OwnedFile
all_files d = d.files ++ option_to_list d.file

abbrev pub max_tick : ℕ
max_tick = 100000000

-- PARAM

-- each number is within its limits, and the common files have to fit the disk
abbrev pub with_params : Draft → Params → Result Draft ScriptCause
with_params d p =
    if not (are_within param_limits (numbers_of p)) then Err OverLimit
    else (if nat_lt p.disk p.common then Err DiskSmall else Ok (record d { params = Some p }))

-- USER

-- an account stands before all files and events, and has a name of its own
abbrev pub is_new_account : Draft → ℕ → Bool
is_new_account d name =
    nat_eq (length d.events) 0 && nat_eq (length (all_files d)) 0 && not (list_any (λ (x : Account). nat_eq x.name name) d.accounts)

abbrev pub is_account_in_limits : UserCard → Bool
is_account_in_limits c = is_within 1 30 c.number && is_within 1 128 c.blocks && nat_le c.tracks 10000

-- its number is the next, and the quotas of all accounts fit the drum and the disk
abbrev pub with_account : Draft → Params → UserCard → Result Draft ScriptCause
with_account d p c =
    if not (is_new_account d c.name) then Err NotACard
    else (if not (is_account_in_limits c) then Err OverLimit
    else (if not (nat_eq c.number (length d.accounts + 1)) then Err UnknownNumber
    else (if nat_lt p.drum (d.blocks + c.blocks) then Err DrumSmall
    else (if nat_lt p.disk (p.common + d.tracks + c.tracks) then Err DiskSmall
    else Ok (record d {
      accounts = d.accounts ++ record { name = c.name; password = c.password; blocks = c.blocks; tracks = c.tracks } ∷ [];
      blocks = d.blocks + c.blocks;
      tracks = d.tracks + c.tracks;
    })))))

-- FILE, O and T

-- the tracks of a user
abbrev pub quota_of : ℕ → List Account → ℕ
quota_of u accounts = (get_or accounts (u - 1) (record { name = 0; password = 0; blocks = 0; tracks = 0 })).tracks

-- these files and one more, if its owner's tracks allow it
abbrev pub with_last : Draft → List OwnedFile → OwnedFile → Result Draft ScriptCause
with_last d files f =
    if nat_lt (quota_of f.owner d.accounts) (tracks_of (files_of f.owner (files ++ f ∷ []))) then Err OverLimit
    else Ok (record d { files = files; file = Some f })

-- a file of no words yet
abbrev pub empty_file : FileCard → OwnedFile
empty_file c = record { owner = c.owner; body = record { name = c.name; mode = c.mode; words = [] } }

-- the same file: the owner's, of these names
abbrev pub is_same_file : OwnedFile → OwnedFile → Bool
is_same_file f g = nat_eq f.owner g.owner && same_name f.body.name g.body.name

-- a file stands before all events, and has names of its own among its owner's
abbrev pub is_new_file : Draft → FileCard → Bool
is_new_file d c = nat_eq (length d.events) 0 && not (list_any (is_same_file (empty_file c)) (all_files d))

abbrev pub is_file_in_limits : FileCard → Bool
is_file_in_limits c = is_within 1 30 c.owner && nat_le c.mode 3

abbrev pub with_file : Draft → FileCard → Result Draft ScriptCause
with_file d c =
    if not (is_new_file d c) then Err NotACard
    else (if not (is_file_in_limits c) then Err OverLimit
    else (if nat_lt (length d.accounts) c.owner then Err UnknownNumber
    else with_last d (all_files d) (empty_file c)))

abbrev pub longer : List ℕ → OwnedFile → OwnedFile
longer ws f = record f { body = record f.body { words = f.body.words ++ ws } }

-- words stand behind their file, before all events
abbrev pub with_words_of : Option OwnedFile → Draft → List ℕ → Result Draft ScriptCause
with_words_of None d ws = Err NotACard
with_words_of (Some f) d ws = if nat_eq (length d.events) 0 then with_last d d.files (longer ws f) else Err NotACard

abbrev pub with_words : Draft → List ℕ → Result Draft ScriptCause
with_words d ws = with_words_of d.file d ws

-- a text is 14 words; one that is too long still stands out of order first
abbrev pub with_text : Draft → CardText → Result Draft ScriptCause
with_text d (card_text.Fits l) = with_words d (words_of_line 14 l)
with_text d card_text.TooLong = if is_some d.file && nat_eq (length d.events) 0 then Err OverLimit else Err NotACard

-- AT

-- the tick and the console in range, ticks that don't fall
abbrev pub with_event_at : Draft → ℕ → ℕ → CardEvent → Result Draft ScriptCause
with_event_at d tick console card_event.TooLong = Err OverLimit
with_event_at d tick console (card_event.Fits e) =
    if not (nat_le tick max_tick && is_within 1 32 console) then Err OverLimit
    else (if nat_lt tick d.tick then Err TimeFalls
    else Ok (record d { events = d.events ++ record { tick = tick; console = console; event = e } ∷ []; tick = tick }))

abbrev pub with_event : Draft → EventCard → Result Draft ScriptCause
with_event d c = with_event_at d c.tick c.console c.event

-- END

abbrev pub with_end : Draft → ℕ → Result Draft ScriptCause
with_end d tick =
    if nat_lt max_tick tick then Err OverLimit else (if nat_lt tick d.tick then Err TimeFalls else Ok (record d { end = Some tick }))

-- cards

-- what has no form is no card
abbrev pub by_form : {C D : Type 0} → (C → Result D ScriptCause) → Option C → Result D ScriptCause
by_form f None = Err NotACard
by_form f (Some c) = f c

-- a card behind PARAM, by its first word and what stands behind it
abbrev pub more_entered : Draft → Params → List ℕ → List ℕ → Result Draft ScriptCause
more_entered d p word text =
    if bytes_eq word (codes "USER") then by_form (with_account d p) (user_card_in text)
    else (if bytes_eq word (codes "FILE") then by_form (with_file d) (file_card_in text)
    else (if bytes_eq word (codes "O") then by_form (with_words d) (words_card_in text)
    else (if bytes_eq word (codes "T") then by_form (with_text d) (text_behind text)
    else (if bytes_eq word (codes "AT") then by_form (with_event d) (event_card_in text)
    else (if bytes_eq word (codes "END") then by_form (with_end d) (end_card_in text) else Err NotACard)))))

-- PARAM comes first, and once
abbrev pub entered_by : Option Params → Draft → List ℕ → List ℕ → Result Draft ScriptCause
entered_by None d word text = if bytes_eq word (codes "PARAM") then by_form (with_params d) (param_card_in text) else Err NotACard
entered_by (Some p) d word text = more_entered d p word text

-- a comment holds only blanks, or begins with *
abbrev pub is_comment : List ℕ → Bool
is_comment [] = true
is_comment (b ∷ bs) = nat_eq b 42 || is_over (b ∷ bs)

-- every other card begins in the first column
abbrev pub is_indented : List ℕ → Bool
is_indented [] = false
is_indented (b ∷ bs) = nat_eq b 32

-- one card more; behind END only comments stand
abbrev pub entered : Draft → List ℕ → Result Draft ScriptCause
entered d card =
    if is_comment card then Ok d
    else (if is_some d.end then Err NoEnd
    else (if is_indented card then Err NotACard
    else entered_by d.params d (word_in card) (behind_word card)))
