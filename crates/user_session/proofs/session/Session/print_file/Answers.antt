use Rattle.std.proofs.Common.{rules, ◌∙◌, refl, sym}
use Rattle.user_model.proofs.CoreLaws.{recut_same}
use Rattle.user_session.proofs.Enters.{over_read}
use Rattle.user_session.proofs.session.Session.print_file.Goals as goal

pub returns-clause-row : goal.returns-clause-row
returns-clause-row g c = λ core size.
    let told = c.in_ok-lines.ensures.lines in
    over_read _ core core (g.P.FilePort.files c.args.files.now) _ _ (c.in_ok-lines.ensures.reads.files (λ e. cc)) (told.0, told.1, rw (sym told.2 ∙ sym c.as_slice.ensures) (refl, search rules, recut_same _ _ size, refl, refl, refl, refl))
