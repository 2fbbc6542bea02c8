-- proof: the command as clap sees it: its two places and its two options, and the words that it is not given.
use Rattle.std.specs.Prelude.{◌&&◌, ◌||◌, ℕ, Bool, true, not, nat_eq, List, [], ◌∷◌, Option, Some, None, bytes_eq, codes}
use Rattle.std.specs.List.{starts_with}
use Rattle.std.specs.Option.{option_and_then, option_map}
use Rattle.text_model.specs.Words.{NoValue, is_option, sorted}
use Rattle.clap.specs.Words.{App, Rule, first_value, found_of, new_app, new_rule, with_rule}
use Rattle.clap.specs.declared.builder.action.ArgAction.TheVariants.{Set}
use Rattle.clap.specs.declared.parser.matches.ArgMatches.{ArgMatches}

-- the first place, which is wanted
abbrev pub mode_rule : Rule
mode_rule = record (new_rule (codes "MODE")) { required = true }

-- the second place, which may be empty
abbrev pub number_rule : Rule
number_rule = new_rule (codes "NUMBER")

-- an option with a value
abbrev pub option_rule : List ℕ → List ℕ → Rule
option_rule id name = record (new_rule id) { long = Some name; action = Some Set }

abbrev pub port_rule : Rule
port_rule = option_rule (codes "PORT") (codes "port")

abbrev pub turns_rule : Rule
turns_rule = option_rule (codes "TURNS") (codes "turns")

-- no place yet; the words begin behind the program's name, and no flag asks for help
abbrev pub empty_command : App
empty_command =
    record (new_app (codes "ctss")) { top = record (new_app (codes "ctss")).top { no_binary_name = true; disable_help_flag = true } }

abbrev pub with_places : App
with_places = with_rule (with_rule empty_command mode_rule) number_rule

abbrev pub command_read : App
command_read = with_rule (with_rule with_places port_rule) turns_rule

-- one of the two options, alone or with its value behind =
abbrev pub is_named_option : List ℕ → Bool
is_named_option w =
    bytes_eq w (codes "--port") || (bytes_eq w (codes "--turns")
    || (starts_with nat_eq w (codes "--port=") || starts_with nat_eq w (codes "--turns=")))

-- a word that begins with - and is neither
abbrev pub is_other_option : List ℕ → Bool
is_other_option w = is_option w && not (is_named_option w)

-- what stands at the two places, and the values of the two options
pub record Placed : Type 0 where
  pub mode : Option (List ℕ)
  pub number : Option (List ℕ)
  pub port : Option (List ℕ)
  pub turns : Option (List ℕ)

-- what clap found
abbrev pub values_found : ArgMatches → Placed
values_found m =
    record {
      mode = first_value (found_of m) (codes "MODE");
      number = first_value (found_of m) (codes "NUMBER");
      port = first_value (found_of m) (codes "PORT");
      turns = first_value (found_of m) (codes "TURNS");
    }

-- one or two words, each at its place; words of another number have none
abbrev pub places_of_plain : List (List ℕ) → Option (Option (List ℕ) × Option (List ℕ))
places_of_plain [] = None
places_of_plain (w ∷ []) = Some (Some w, None)
places_of_plain (w ∷ n ∷ []) = Some (Some w, Some n)
places_of_plain (w ∷ n ∷ x ∷ ws) = None

-- the one value of an option, or none; more values have no place
abbrev pub one_at_most : List (List ℕ) → Option (Option (List ℕ))
one_at_most [] = Some None
one_at_most (v ∷ []) = Some (Some v)
one_at_most (v ∷ u ∷ vs) = None

abbrev pub placed_by : (plain ports turns : List (List ℕ)) → Option Placed
placed_by plain ports turns =
    option_and_then
    (λ p. option_and_then (λ t. option_map (λ w. record { mode = w.0; number = w.1; port = p; turns = t }) (places_of_plain plain)) (one_at_most turns))
    (one_at_most ports)

-- the words at their places, if they have some
abbrev pub placed_of : List (List ℕ) → Option Placed
placed_of words = option_and_then (λ s. placed_by s.plain s.ports s.turns) (sorted NoValue words)

-- the words that stand at the two places
abbrev pub words_at : Option (List ℕ) → Option (List ℕ) → List (List ℕ)
words_at None n = []
words_at (Some w) None = w ∷ []
words_at (Some w) (Some n) = w ∷ n ∷ []
