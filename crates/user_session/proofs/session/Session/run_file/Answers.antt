use Rattle.std.proofs.Common.{◌≡◌, Ok}
use Rattle.file_model.specs.Files.{got}
use Rattle.cmd_program.specs.Lines.{lines_got}
use Rattle.user_model.specs.Commands.{command_file}
use Rattle.user_session.specs.Stores.{stored}
use Rattle.user_session.proofs.CommandFiles.{lines_fed}
use Rattle.user_session.proofs.Enters.{over_read}
use Rattle.user_session.proofs.session.Session.run_file.Goals as goal

pub returns-in_ok-done-in-Ok-clause-row : goal.returns-in_ok-done-in-Ok-clause-row
returns-in_ok-done-in-Ok-clause-row g c = λ core size.
    let told = c.in_ok-lines.ensures.answer in
    let read : Ok c.as_slice.result.now ≡ lines_got (got (command_file c.args.name) told.0) =
    (let a = c.in-Ok.is in let w = c.as_slice.ensures in let d = told.2 in cc) in
    over_read _ core core (g.P.FilePort.files c.args.files.now) _ _ (c.in_ok-lines.ensures.reads.files (λ e. cc)) (
      told.0,
      told.1,
      rw (lines_fed (got (command_file c.args.name) told.0) c.as_slice.result.now _ read)
          (c.in_ok-done-in-Ok.ensures.row (stored core told.0) size),
    )
