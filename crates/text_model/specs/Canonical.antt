-- claim: the one canonical text of a script: single blanks, no leading zeros, no comments, LF behind each card.
use Rattle.std.specs.Prelude.{ℕ, suc, List, [], ◌∷◌, ◌++◌, codes}
use Rattle.std.specs.List.{flat_map}
use Rattle.word36.specs.Octal.{octal_text}
use Rattle.ctss_types.specs.declared.script.Script.{Script}
use Rattle.ctss_types.specs.declared.script.Params.{Params}
use Rattle.ctss_types.specs.Params.{card_numbers}
use Rattle.ctss_types.specs.declared.script.Account.{Account}
use Rattle.ctss_types.specs.declared.script.Timed.{Timed}
use Rattle.ctss_types.specs.declared.script.Event.{Event}
use Rattle.ctss_types.specs.declared.script.Event.TheVariants as event
use Rattle.ctss_types.specs.declared.file.OwnedFile.{OwnedFile}
use Rattle.text_model.specs.Parts.{line, blank, number, name}

abbrev pub param_card : Params → List ℕ
param_card p = line (codes "PARAM" ++ flat_map number (card_numbers p))

abbrev pub user_card : ℕ → Account → List ℕ
user_card n a = line (codes "USER" ++ (number n ++ (name a.name ++ (name a.password ++ (number a.blocks ++ number a.tracks)))))

-- the accounts, numbered from n on
abbrev pub user_cards : ℕ → List Account → List ℕ
user_cards n [] = []
user_cards n (a ∷ accounts) = user_card n a ++ user_cards (suc n) accounts

-- a word in twelve octal digits, behind a blank
abbrev pub octal : ℕ → List ℕ
octal w = blank (octal_text w)

-- words five a card, the last card with what is left
abbrev pub word_cards : List ℕ → List ℕ
word_cards [] = []
word_cards (a ∷ []) = line (codes "O" ++ octal a)
word_cards (a ∷ b ∷ []) = line (codes "O" ++ (octal a ++ octal b))
word_cards (a ∷ b ∷ c ∷ []) = line (codes "O" ++ (octal a ++ (octal b ++ octal c)))
word_cards (a ∷ b ∷ c ∷ d ∷ []) = line (codes "O" ++ (octal a ++ (octal b ++ (octal c ++ octal d))))
word_cards (a ∷ b ∷ c ∷ d ∷ e ∷ ws) = line (codes "O" ++ (octal a ++ (octal b ++ (octal c ++ (octal d ++ octal e))))) ++ word_cards ws

abbrev pub file_cards : OwnedFile → List ℕ
file_cards f =
    line (codes "FILE" ++ (number f.owner ++ (name f.body.name.first ++ (name f.body.name.second ++ number f.body.mode)))) ++ word_cards f.body.words

-- what is typed, and nothing behind LINE where it is empty
abbrev pub typed_text : List ℕ → List ℕ
typed_text [] = []
typed_text (c ∷ cs) = blank (c ∷ cs)

abbrev pub event_text : Event → List ℕ
event_text event.Dial = codes " DIAL"
event_text (event.Line text) = codes " LINE" ++ typed_text text
event_text event.Quit = codes " QUIT"
event_text event.Hang = codes " HANG"

abbrev pub event_card : Timed → List ℕ
event_card e = line (codes "AT" ++ (number e.tick ++ (number e.console ++ event_text e.event)))

abbrev pub end_card : ℕ → List ℕ
end_card tick = line (codes "END" ++ number tick)

unfoldable pub script_text_of : Script → List ℕ
script_text_of s =
    param_card s.params ++ (user_cards 1 s.accounts ++ (flat_map file_cards s.files ++ (flat_map event_card s.events ++ end_card s.end)))
