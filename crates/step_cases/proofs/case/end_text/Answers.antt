use Rattle.std.proofs.Common.{rules, arith, sym, subst, string_bytes}
use Rattle.word36.proofs.OctalText.{padded_octal}
use Rattle.step_cases.specs.Texts.{IsEndText}
use Rattle.step_cases.proofs.case.end_text.Goals as goal

pub returns-in_ok-text-in-Outside : goal.returns-in_ok-text-in-Outside
returns-in_ok-text-in-Outside c =
    subst (λ end. IsEndText end (string_bytes c.in_ok-text-in-Outside.text)) (sym c.in-Outside.is)
    (λ below. rw (← padded_octal 4 c.in-Outside.address (omega arith) (omega arith)) (search rules))
