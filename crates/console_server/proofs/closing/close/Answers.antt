use Rattle.std.proofs.Common.{◌∙◌, sym}
use Rattle.console_server.proofs.CutLaws.{closes_no_task, closes_task}
use Rattle.console_server.proofs.closing.close.Goals as goal

pub returns-in_default-clause-link : goal.returns-in_default-clause-link
returns-in_default-clause-link g c = closes_no_task c.args.seat.now _ (sym c.take.ensures.value ∙ c.in_default.is)

pub returns-clause-link : goal.returns-clause-link
returns-clause-link g c = closes_task c.args.seat.now c.in-Some.task _ _ (sym c.take.ensures.value ∙ c.in-Some.is) c.close.ensures
