-- claim: scripts that keep the rules of cards, and what their texts read as.
use Rattle.std.specs.Prelude.{◌≡◌, ◌≤◌, ◌<◌, ◌+◌, ◌^◌, ℕ, Bool, true, not, ◌&&◌, nat_eq, List, [], ◌∷◌, length, sum, map, Ok}
use Rattle.std.specs.List.Sorted.{IsNonDecreasing}
use Rattle.std.specs.List.{All, list_any, list_all}
use Rattle.bcd48.specs.Characters.{is_character}
use Rattle.ctss_types.specs.Line.{trimmed}
use Rattle.ctss_types.specs.Words.{name_of}
use Rattle.ctss_types.specs.Params.{param_limits, numbers_of, are_within}
use Rattle.ctss_types.specs.declared.script.Script.{Script}
use Rattle.ctss_types.specs.declared.script.Account.{Account}
use Rattle.ctss_types.specs.declared.script.Timed.{Timed}
use Rattle.ctss_types.specs.declared.script.Event.{Event}
use Rattle.ctss_types.specs.declared.script.Event.TheVariants as event
use Rattle.ctss_types.specs.declared.file.OwnedFile.{OwnedFile}
use Rattle.text_model.specs.Canonical.{script_text_of}
use Rattle.text_model.specs.Reading.{script_of, max_bytes, IsInRange}

-- one of the 48 characters that isn't the blank
abbrev pub is_name_character : ℕ → Bool
is_name_character b = is_character b && not (nat_eq b 32)

-- the word of a name of 1 to 6 characters
pub record IsName (word : ℕ) : Type 0 where
  pub text : List ℕ
  pub word_is : word ≡ name_of text
  pub some : 1 ≤ length text
  pub few : length text ≤ 6
  pub characters : list_all is_name_character text ≡ true

-- a line of at most 84 characters, with no blanks behind them
pub record IsTyped (line : List ℕ) : Type 0 where
  pub few : length line ≤ 84
  pub characters : list_all is_character line ≡ true
  pub ends : trimmed line ≡ line

pub record IsLawfulAccount (a : Account) : Type 0 where
  pub name : IsName a.name
  pub password : IsName a.password
  pub blocks : 1 ≤ a.blocks
  pub tracks : a.tracks ≤ 10000

pub record IsLawfulFile (f : OwnedFile) : Type 0 where
  pub first : IsName f.body.name.first
  pub second : IsName f.body.name.second
  pub words : All (λ w. w < 2 ^ 36) f.body.words

abbrev pub IsLawfulEvent : Event → Type 0
IsLawfulEvent event.Dial = Unit {0}
IsLawfulEvent (event.Line text) = IsTyped text
IsLawfulEvent event.Quit = Unit {0}
IsLawfulEvent event.Hang = Unit {0}

-- accounts of which no two have the same name
abbrev pub accounts_differ : List Account → Bool
accounts_differ [] = true
accounts_differ (a ∷ accounts) = not (list_any (λ (b : Account). nat_eq b.name a.name) accounts) && accounts_differ accounts

pub record IsLawful (s : Script) : Type 0 where
  pub range : IsInRange s
  pub params : are_within param_limits (numbers_of s.params) ≡ true
  -- the tracks of the common files and of all accounts are those of the disk
  pub fits : s.params.common + sum (map (λ (a : Account). a.tracks) s.accounts) ≤ s.params.disk
  pub accounts : All IsLawfulAccount s.accounts
  pub differ : accounts_differ s.accounts ≡ true
  pub files : All IsLawfulFile s.files
  pub events : All (λ (e : Timed). IsLawfulEvent e.event) s.events
  -- ticks don't fall, and the end is not before them
  pub order : IsNonDecreasing (map (λ (e : Timed). e.tick) s.events)
  pub ends : All (λ (e : Timed). e.tick ≤ s.end) s.events

-- every script that is read is lawful
abbrev pub ScriptsAreLawful : Type 0
ScriptsAreLawful = (bytes : List ℕ) (s : Script) → script_of bytes ≡ Ok s → IsLawful s

-- the canonical text of a lawful script, if it isn't too long, reads as that script
abbrev pub CanonicalTextsAreRead : Type 0
CanonicalTextsAreRead = (s : Script) → IsLawful s → length (script_text_of s) ≤ max_bytes → script_of (script_text_of s) ≡ Ok s
