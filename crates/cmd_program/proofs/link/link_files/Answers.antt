use Rattle.cmd_program.proofs.Links.{links_over, refused_over}
use Rattle.cmd_program.proofs.link.link_files.Goals as goal

pub returns-in_err-modules-clause-answer : goal.returns-in_err-modules-clause-answer
returns-in_err-modules-clause-answer g c =
    refused_over (g.F.FilePort.tells c.args.files.now) (g.F.FilePort.files c.args.files.now) c.args.names.now c.in_err-modules.field-0.0
    c.from_residual.result c.from_residual.ensures.1 c.in_err-modules.ensures.answer

pub returns-clause-answer : goal.returns-clause-answer
returns-clause-answer g c =
    links_over (g.F.FilePort.tells c.args.files.now) (g.F.FilePort.files c.args.files.now) c.args.names.now c.in_ok-modules.modules
    c.as_slice.result.now c.deck_of_modules.result c.in_ok-modules.ensures.answer (cc) c.deck_of_modules.ensures.answer
