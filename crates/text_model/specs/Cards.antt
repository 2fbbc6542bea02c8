-- claim: the forms of cards, by the text behind their first word.
use Rattle.std.specs.Prelude.{ℕ, zero, suc, not, nat_le, List, [], ◌∷◌, length, Option, Some, None, bytes_eq, codes, if◌then◌else◌}
use Rattle.std.specs.Option.{option_and_then, option_map}
use Rattle.ctss_types.specs.Words.{word_in, behind_word}
use Rattle.ctss_types.specs.Params.{param_limits, least_numbers, params_of}
use Rattle.ctss_types.specs.declared.script.Params.{Params}
use Rattle.ctss_types.specs.declared.script.Event.TheVariants as event
use Rattle.text_model.specs.declared.card.UserCard.{UserCard}
use Rattle.text_model.specs.declared.card.FileCard.{FileCard}
use Rattle.text_model.specs.declared.card.EventCard.{EventCard}
use Rattle.text_model.specs.declared.card.CardText.{CardText}
use Rattle.text_model.specs.declared.card.CardText.TheVariants as card_text
use Rattle.text_model.specs.declared.card.CardEvent.{CardEvent}
use Rattle.text_model.specs.declared.card.CardEvent.TheVariants.{Fits, TooLong}
use Rattle.text_model.specs.Fields.{first_number, first_name, number_in, octal_in, is_over, text_behind}

-- the fields of a text, each of which is read, and at most so many
abbrev pub fields_in : (List ℕ → Option ℕ) → ℕ → List ℕ → Option (List ℕ)
fields_in read zero text = if is_over text then Some [] else None
fields_in read (suc n) text =
    if is_over text then Some []
    else option_and_then (λ x. option_map (λ xs. x ∷ xs) (fields_in read n (behind_word text))) (read (word_in text))

-- the params of at least six numbers
abbrev pub params_read : List ℕ → Option Params
params_read numbers = if nat_le least_numbers (length numbers) then Some (params_of numbers) else None

-- PARAM and its numbers, in their order
abbrev pub param_card_in : List ℕ → Option Params
param_card_in text = option_and_then params_read (fields_in number_in (length param_limits) text)

-- USER number name password blocks tracks
abbrev pub user_card_in : List ℕ → Option UserCard
user_card_in text =
    option_and_then (λ (number, a).
    option_and_then (λ (name, b).
    option_and_then (λ (password, c).
    option_and_then (λ (blocks, d).
    option_and_then (λ (tracks, e).
    let card : UserCard = record { number = number; name = name; password = password; blocks = blocks; tracks = tracks } in
    if is_over e then Some card else None)
    (first_number d)) (first_number c)) (first_name b)) (first_name a)) (first_number text)

-- FILE owner first second mode
abbrev pub file_card_in : List ℕ → Option FileCard
file_card_in text =
    option_and_then (λ (owner, a).
    option_and_then (λ (first, b).
    option_and_then (λ (second, c).
    option_and_then (λ (mode, d).
    let card : FileCard = record { owner = owner; name = record { first = first; second = second }; mode = mode } in
    if is_over d then Some card else None)
    (first_number c)) (first_name b)) (first_name a)) (first_number text)

-- O and 1 to 5 words
abbrev pub words_card_in : List ℕ → Option (List ℕ)
words_card_in text = if is_over text then None else fields_in octal_in 5 text

-- a line that is typed
abbrev pub line_event : CardText → CardEvent
line_event (card_text.Fits l) = Fits (event.Line l)
line_event card_text.TooLong = TooLong

-- an event, by its word and what stands behind it
abbrev pub event_in : List ℕ → List ℕ → Option CardEvent
event_in word text =
    if bytes_eq word (codes "LINE") then option_map line_event (text_behind text)
    else (if not (is_over text) then None
    else (if bytes_eq word (codes "DIAL") then Some (Fits event.Dial)
    else (if bytes_eq word (codes "QUIT") then Some (Fits event.Quit)
    else (if bytes_eq word (codes "HANG") then Some (Fits event.Hang) else None))))

-- AT tick console and an event
abbrev pub event_card_in : List ℕ → Option EventCard
event_card_in text =
    option_and_then (λ (tick, a).
    option_and_then (λ (console, b).
    option_map (λ e. let card : EventCard = record { tick = tick; console = console; event = e } in card)
    (event_in (word_in b) (behind_word b))) (first_number a)) (first_number text)

-- END tick
abbrev pub end_card_in : List ℕ → Option ℕ
end_card_in text = option_and_then (λ (tick, a). if is_over a then Some tick else None) (first_number text)
