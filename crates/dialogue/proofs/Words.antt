-- Commands with just one name, or with just the names of a file.
use Rattle.std.proofs.Common.{◌≡◌, ℕ, List, [], ◌∷◌, Option, None, Some, refl}
use Rattle.std.specs.Option.{unwrap_or, option_map}
use Rattle.ctss_types.specs.Names.{NamePair}
use Rattle.user_model.specs.declared.Command.{Command}
use Rattle.user_model.specs.declared.Command.TheVariants.{BadArguments}
use Rattle.user_model.specs.Requests.{word_name, file_in, if_some, with_name, with_file}
use Rattle.dialogue.specs.Words.{one_name, one_file}

chosen : {A : Type 0} (command : A → Command) (o : Option A) → unwrap_or (option_map command o) BadArguments ≡ if_some command o
chosen command None = refl
chosen command (Some a) = refl

-- a command with just one name
pub with_one_name : (command : ℕ → Command) (ws : List (List ℕ)) → unwrap_or (option_map command (one_name ws)) BadArguments ≡ with_name command ws
with_one_name command [] = refl
with_one_name command (w ∷ []) = chosen command (word_name w)
with_one_name command (w ∷ v ∷ ws) = refl

-- a command with just the names of a file
pub with_one_file : (command : NamePair → Command) (ws : List (List ℕ)) → unwrap_or (option_map command (one_file ws)) BadArguments ≡ with_file command ws
with_one_file command [] = refl
with_one_file command (a ∷ []) = refl
with_one_file command (a ∷ b ∷ []) = chosen command (file_in a b)
with_one_file command (a ∷ b ∷ w ∷ ws) = refl

pub ruleset taken = (with_one_name, with_one_file)
