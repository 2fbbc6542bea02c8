use Rattle.std.proofs.Common.{subst, List, ℕ}
use Rattle.text_writer.specs.Writing.{Adds}
use Rattle.text_writer.proofs.Added.{◌⨾◌, adds_none}
use Rattle.text_writer.proofs.OctalDigits.{digits_next, digits_none}
use Rattle.text_writer.proofs.cards.+add_digits.Goals as goal

pub returns-then-count-gt0 : goal.returns-then-count-gt0
returns-then-count-gt0 g t c =
    subst (λ (text : List ℕ). Adds g.K.Sink text c.args.out.now c.add.new.self) (digits_next c.args.count c.args.number c.if-count-gt0.true)
    (c.add_digits.ensures ⨾ c.add.ensures)

pub returns-else-count-gt0 : goal.returns-else-count-gt0
returns-else-count-gt0 g t c =
    subst (λ (text : List ℕ). Adds g.K.Sink text c.args.out.now c.args.out.now) (digits_none c.args.count c.args.number c.if-count-gt0.false)
    (adds_none g.K.Sink c.args.out.now)
