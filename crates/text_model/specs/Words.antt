-- claim: the words of the command line, and the texts of refusals.
use Rattle.std.specs.Prelude.{ℕ, Bool, false, ◌&&◌, nat_eq, nat_le, List, [], ◌∷◌, ◌++◌, drop, Option, Some, None, bytes_eq, codes, if◌then◌else◌}
use Rattle.std.specs.Option.{option_and_then, option_map}
use Rattle.std.specs.List.{flat_map, starts_with}
use Rattle.text_model.specs.Parts.{line, number}
use Rattle.text_model.specs.Fields.{number_in, is_within}
use Rattle.text_model.specs.declared.mode.Mode.{Mode}
use Rattle.text_model.specs.declared.mode.Mode.TheVariants.{Replay, Dump, Load, Asm, Serve}

-- what one word asks for
abbrev pub mode_named : List ℕ → Option Mode
mode_named w =
    if bytes_eq w (codes "replay") then Some Replay
    else (if bytes_eq w (codes "dump") then Some Dump
    else (if bytes_eq w (codes "asm") then Some Asm else None))

-- what a word and a number ask for
abbrev pub mode_with : List ℕ → List ℕ → Option Mode
mode_with w n =
    if bytes_eq w (codes "load") then option_and_then (λ k. if nat_le k 999999 then Some (Load k) else None) (number_in n)
    else None

abbrev pub mode_of_words : List (List ℕ) → Option Mode
mode_of_words [] = None
mode_of_words (w ∷ []) = mode_named w
mode_of_words (w ∷ n ∷ []) = mode_with w n
mode_of_words (w ∷ n ∷ x ∷ ws) = None

-- what `serve` asks for, with the values of its options
abbrev pub mode_serving : List (List ℕ) → List ℕ → List ℕ → Option Mode
mode_serving [] port turns = None
mode_serving (w ∷ []) port turns =
    if bytes_eq w (codes "serve")
    then option_and_then (λ p. option_and_then (λ t. if is_within 1 65535 p && nat_le t 100000 then Some (Serve p t) else None) (number_in turns)) (number_in port)
    else None
mode_serving (w ∷ x ∷ ws) port turns = None

-- a word that begins with -
abbrev pub is_option : List ℕ → Bool
is_option [] = false
is_option (b ∷ w) = nat_eq b 45

-- a command line by what its words are: those that are neither an option nor its value, and the values of each option, in order
pub record SortedWords : Type 0 where
  pub plain : List (List ℕ)
  pub ports : List (List ℕ)
  pub turns : List (List ℕ)

-- the option whose value the next word is
pub data Awaited : Type 0 where
  NoValue : Awaited
  PortValue : Awaited
  TurnsValue : Awaited

abbrev pub with_plain : List ℕ → SortedWords → SortedWords
with_plain w s = record s { plain = w ∷ s.plain }

abbrev pub with_port : List ℕ → SortedWords → SortedWords
with_port w s = record s { ports = w ∷ s.ports }

abbrev pub with_turns : List ℕ → SortedWords → SortedWords
with_turns w s = record s { turns = w ∷ s.turns }

-- the words sorted: a value is the word behind its option, or stands in one word with it behind =; none where an option has no value,
-- where a value begins with -, or where another word does
abbrev pub sorted : Awaited → List (List ℕ) → Option SortedWords
sorted NoValue [] = Some (record { plain = []; ports = []; turns = [] })
sorted PortValue [] = None
sorted TurnsValue [] = None
sorted PortValue (w ∷ ws) = if is_option w then None else option_map (with_port w) (sorted NoValue ws)
sorted TurnsValue (w ∷ ws) = if is_option w then None else option_map (with_turns w) (sorted NoValue ws)
sorted NoValue (w ∷ ws) =
    if bytes_eq w (codes "--port") then sorted PortValue ws
    else (if bytes_eq w (codes "--turns") then sorted TurnsValue ws
    else (if starts_with nat_eq w (codes "--port=") then option_map (with_port (drop 7 w)) (sorted NoValue ws)
    else (if starts_with nat_eq w (codes "--turns=") then option_map (with_turns (drop 8 w)) (sorted NoValue ws)
    else (if is_option w then None
    else option_map (with_plain w) (sorted NoValue ws)))))

-- what sorted words ask for: each option stands just once, with `serve`, or none does
abbrev pub mode_by : List (List ℕ) → (ports turns : List (List ℕ)) → Option Mode
mode_by plain [] [] = mode_of_words plain
mode_by plain [] (t ∷ ts) = None
mode_by plain (p ∷ []) [] = None
mode_by plain (p ∷ []) (t ∷ []) = mode_serving plain p t
mode_by plain (p ∷ []) (t ∷ u ∷ ts) = None
mode_by plain (p ∷ q ∷ ps) ts = None

-- what the program is asked to do, if the words are lawful
abbrev pub mode_of : List (List ℕ) → Option Mode
mode_of words = option_and_then (λ (s : SortedWords). mode_by s.plain s.ports s.turns) (sorted NoValue words)

abbrev pub words_refused : List ℕ
words_refused = line (codes "WORDS REFUSED")

abbrev pub script_refused : ℕ → ℕ → List ℕ
script_refused card cause = line (codes "SCRIPT REFUSED AT CARD" ++ (number card ++ (codes ":" ++ number cause)))

-- a card of an assembly that is at fault, by its number and the fault's
abbrev pub fault_line : ℕ × ℕ → List ℕ
fault_line f = line (codes "CARD" ++ (number f.0 ++ (codes " FAULT" ++ number f.1)))

abbrev pub faults_text : List (ℕ × ℕ) → List ℕ
faults_text faults = flat_map fault_line faults
