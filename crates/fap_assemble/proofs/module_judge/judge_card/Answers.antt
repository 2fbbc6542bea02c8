use Rattle.std.proofs.Common.{ap, ◌∙◌, ◌++◌, ℕ}
use Rattle.fap_model.specs.Decks.{fault_entry}
use Rattle.fap_assemble.specs.Follows.{numbered}
use Rattle.fap_assemble.proofs.module_judge.judge_card.Goals as goal

pub returns : goal.returns
returns c = c.in_ok-note.ensures ∙ ap (λ (f : ℕ). numbered c.args.faults.now ++ fault_entry c.args.card.number f) c.in_ok-fault.ensures
