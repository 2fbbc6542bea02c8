use Rattle.std.proofs.Common.{◌≡◌, ◌++◌, length, map}
use Rattle.std.specs.Str.Lines.{lines}
use Rattle.fap_read.proofs.card.cards_of_text.Given as goal

abbrev pub invariant-lines : goal.invariant-lines
invariant-lines l = map (λ c. c.text) l.cards ++ lines l.rest ≡ lines l.fn.bytes

abbrev pub decreases-lines : goal.decreases-lines
decreases-lines l = length l.rest
