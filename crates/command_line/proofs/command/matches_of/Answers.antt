use Rattle.std.proofs.Common.{map, string_bytes, ◌∙◌}
use Rattle.command_line.proofs.Parsed.{accepted_at, refused_at}
use Rattle.command_line.proofs.command.matches_of.Goals as goal

pub returns-in-Ok : goal.returns-in-Ok
returns-in-Ok c = accepted_at _ (map string_bytes c.args.words.now) c.in_ok-command.ensures c.requires c.in-Ok.matches c.in-Ok.ensures.matches c.in-Ok.ensures.kinds

pub returns : goal.returns
returns c =
    refused_at _ (map string_bytes c.args.words.now) c.in_ok-command.ensures c.requires c.in-Err.error
    (λ e. c.in_default.not-OutOfMemory (c.kind.ensures ∙ e)) c.in-Err.ensures.kinds
