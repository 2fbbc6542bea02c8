use Rattle.std.proofs.Common.{◌≡◌, ◌-◌, length}
use Rattle.ctss_types.specs.Params.{param_limits}
use Rattle.text_model.specs.Cards.{fields_in}
use Rattle.text_model.specs.Fields.{number_in}
use Rattle.script_read.proofs.CardWords.{behind}
use Rattle.script_read.proofs.params.numbers_in.Given as goal

abbrev pub invariant-numbers : goal.invariant-numbers
invariant-numbers l = behind l.numbers.items (fields_in number_in (length param_limits - length l.numbers.items) l.rest) ≡ fields_in number_in (length param_limits) l.text

abbrev pub decreases-numbers : goal.decreases-numbers
decreases-numbers l = length param_limits - length l.numbers.items
