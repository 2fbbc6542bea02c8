use Rattle.std.proofs.Common.{◌≡◌, ℕ, subst}
use Rattle.std.specs.Prelude.{IfOk}
use Rattle.fap_assemble.specs.Judging.{relocated_in, moved_at}
use Rattle.fap_assemble.proofs.Judging.{word_plain}
use Rattle.fap_assemble.proofs.module_judge.named_fault.Goals as goal

pub returns-in_default : goal.returns-in_default
returns-in_default c =
    subst (λ (n : ℕ). IfOk c.word_fault.result (λ f. f ≡ n))
    (word_plain c.args.op (relocated_in c.args.r.now) c.args.past.now (moved_at c.args.r.now c.args.spot) c.args.text.now c.in_default.not-End) c.word_fault.ensures
