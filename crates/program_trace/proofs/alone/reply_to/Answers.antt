use Rattle.std.proofs.Common.{ℕ, ap, ◌∙◌}
use Rattle.file_model.specs.Commons.{reply_to, files_after}
use Rattle.program_trace.proofs.Files.{replied, files_left}
use Rattle.program_trace.proofs.alone.reply_to.Goals as goal

pub returns-in-Ok-clause-reply : goal.returns-in-Ok-clause-reply
returns-in-Ok-clause-reply c =
    replied _ _ _ _ _ c.in-Ok.ensures.done ∙ ap (λ (q : ℕ). reply_to q c.args.files.now.files c.args.op.now) c.requires

pub returns-in-Ok-clause-left : goal.returns-in-Ok-clause-left
returns-in-Ok-clause-left c =
    files_left _ _ _ _ _ c.in-Ok.ensures.done ∙ ap (λ (q : ℕ). files_after q c.args.files.now.files c.args.op.now) c.requires
