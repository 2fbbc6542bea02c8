use Rattle.cmd_program.proofs.Links.{first_not_read, first_not_module, first_is}
use Rattle.cmd_program.proofs.link.first_module.Goals as goal

pub returns-in_err-words-clause-answer : goal.returns-in_err-words-clause-answer
returns-in_err-words-clause-answer g c =
    first_not_read (g.F.FilePort.tells c.args.files.now) (g.F.FilePort.files c.args.files.now) c.args.name c.args.kept.now c.in_err-words.field-0.0
    c.from_residual.result c.from_residual.ensures.1 c.requires.none c.requires.read c.in_err-words.ensures.answer

pub returns-in_err-module-clause-answer : goal.returns-in_err-module-clause-answer
returns-in_err-module-clause-answer g c =
    first_not_module (g.F.FilePort.tells c.args.files.now) (g.F.FilePort.files c.args.files.now) c.args.name c.args.kept.now c.in_ok-words.words
    c.as_slice.result.now c.in_err-module.field-0.0 c.from_residual-in_err-module.result c.from_residual-in_err-module.ensures.1 c.requires.none
    c.requires.read c.in_ok-words.ensures.answer (cc) c.in_err-module.ensures.answer

pub returns-clause-answer : goal.returns-clause-answer
returns-clause-answer g c =
    first_is (g.F.FilePort.tells c.args.files.now) (g.F.FilePort.files c.args.files.now) c.args.name c.args.kept.now c.push.new.self
    c.in_ok-words.words c.as_slice.result.now c.in_ok-module.module c.requires.none c.requires.read c.in_ok-words.ensures.answer (cc)
    c.in_ok-module.ensures.answer c.in_ok-push.ensures.ok
