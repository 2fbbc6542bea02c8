use Rattle.std.proofs.Common.{ap, ◌∙◌}
use Rattle.ctss_types.specs.declared.file.CommonOp.{CommonOp}
use Rattle.file_model.specs.Commons.{reply_to, files_after}
use Rattle.program_trace.specs.Lone.{track_quota}
use Rattle.program_trace.proofs.Turns.{waits_by, goes_by, asked_by, replies_by, to_make}
use Rattle.program_trace.proofs.alone.step_beside.Goals as goal

pub returns-in-Waits-clause-turn : goal.returns-in-Waits-clause-turn
returns-in-Waits-clause-turn c = waits_by _ _ _ _ _ _ _ _ _ c.in-Ok.ensures.turn c.in-Waits.is

pub returns-in-Done-clause-turn : goal.returns-in-Done-clause-turn
returns-in-Done-clause-turn c = goes_by _ _ _ _ _ _ _ _ _ _ c.in-Ok.ensures.turn c.in-Done.is

pub returns-in-Ok-take_reply-clause-turn : goal.returns-in-Ok-take_reply-clause-turn
returns-in-Ok-take_reply-clause-turn c =
    let op = c.in-Asks.op in
    let had = c.args.common.now.files in
    let asked = asked_by c.in-Ok.turn op c.args.now _ _ _ _ _ _ c.in-Ok.ensures.turn c.in-Asks.is in
    replies_by op c.in-Ok-take_reply.step c.in_ok-reply-in-Asks.reply c.args.now _ _ _ _ _ _ _ _ _ _ _ asked
    (c.in_ok-reply-in-Asks.ensures.reply ∙ ap (λ (o : CommonOp). reply_to track_quota had o) c.get.ensures)
    (c.in_ok-reply-in-Asks.ensures.left ∙ ap (λ (o : CommonOp). files_after track_quota had o) c.get.ensures)
    (c.in-Ok-take_reply.ensures.step op (to_make op _ _ _ _ _ _ asked))
