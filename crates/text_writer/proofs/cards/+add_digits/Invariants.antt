use Rattle.std.proofs.Common.{◌≡◌, ◌++◌, codes, ℕ, ◌+◌, ◌-◌, ◌*◌, ◌<◌, ◌≤◌, length}
use Rattle.std.specs.List.{flat_map}
use Rattle.word36.specs.Octal.{octal_digits}
use Rattle.text_model.specs.Canonical.{octal, word_cards}
use Rattle.text_model.specs.Parts.{line}
use Rattle.text_writer.specs.Writing.{Adds}
use Rattle.text_writer.proofs.cards.+add_digits.Given as goal

-- proposed from what the function passes where it calls itself
abbrev pub decreases-add_digits : goal.decreases-add_digits
decreases-add_digits g l = l.count
