use Rattle.std.proofs.Common.{ℕ, length, min, ap, ◌∙◌}
use Rattle.program_trace.proofs.Lines.{behind}
use Rattle.program_trace.proofs.program.cards_behind.Goals as goal

pub returns : goal.returns
returns c =
    behind c.args.cards.now c.split_at.result.1.now c.args.listed.now c.min.result c.requires
    (c.min.ensures ∙ ap (λ (n : ℕ). min n (length c.args.cards.now)) c.len.ensures) c.split_at.ensures.back
