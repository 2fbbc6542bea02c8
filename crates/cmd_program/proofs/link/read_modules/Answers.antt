use Rattle.std.proofs.Common.{◌∙◌}
use Rattle.cmd_program.proofs.Links.{loop_stopped, behind_pushed, read_still}
use Rattle.cmd_program.proofs.link.read_modules.Goals as goal

pub returns-in_err-module-clause-answer : goal.returns-in_err-module-clause-answer
returns-in_err-module-clause-answer g c =
    loop_stopped (g.F.FilePort.tells c.loop-name.files) (g.F.FilePort.tells c.args.files.now) (g.F.FilePort.files c.loop-name.files)
    (g.F.FilePort.files c.args.files.now) c.args.names.now c.loop-name.modules c.loop-name.name-index c.name-item.result c.loop-name.kept
    c.next_module.new.kept c.in_err-module.field-0.0 c.from_residual.result c.loop-name.invariant.telling c.loop-name.invariant.left
    c.from_residual.ensures.1 c.loop-name-test.true c.name-item.is c.loop-name.invariant.read c.loop-name.invariant.behind c.in_err-module.ensures.answer

pub loop-name-preserved : goal.loop-name-preserved
loop-name-preserved g c =
    let telling = c.in_ok-module.ensures.reads.telling (λ e. cc) in
    let left = c.in_ok-module.ensures.reads.left (λ e. cc) in
    record {
      read =
          read_still (g.F.FilePort.tells c.loop-name.files) (g.F.FilePort.tells c.next_module.new.files) (g.F.FilePort.files c.loop-name.files)
          (g.F.FilePort.files c.next_module.new.files) c.next_module.new.kept telling left c.in_ok-module.ensures.answer.read;
      behind =
          behind_pushed (g.F.FilePort.tells c.loop-name.files) (g.F.FilePort.files c.loop-name.files) c.args.names.now c.loop-name.modules
          c.push.new.self c.loop-name.name-index c.name-item.result c.loop-name.kept c.next_module.new.kept c.in_ok-module.module
          c.loop-name-test.true c.name-item.is c.in_ok-push.ensures.ok c.loop-name.invariant.behind c.in_ok-module.ensures.answer;
      left = left ∙ c.loop-name.invariant.left;
      telling = telling ∙ c.loop-name.invariant.telling;
      usable = c.in_ok-module.ensures.reads.usable (λ e. cc);
      keeps = g.met.F.FilePort.goes_on _ _ _ c.loop-name.invariant.keeps c.in_ok-module.ensures.reads.keeps;
    }
