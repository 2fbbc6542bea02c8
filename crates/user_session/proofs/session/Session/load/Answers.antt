use Rattle.std.proofs.Common.{rules, ◌∙◌, refl, sym}
use Rattle.user_model.proofs.CoreLaws.{recut_same}
use Rattle.user_session.proofs.Enters.{over_read}
use Rattle.user_session.proofs.session.Session.load.Goals as goal

pub returns-in_ok-begin-in-Ok-clause-row : goal.returns-in_ok-begin-in-Ok-clause-row
returns-in_ok-begin-in-Ok-clause-row g c = λ core size.
    let told = c.in_ok-deck.ensures.answer in
    over_read _ core core (g.P.FilePort.files c.args.files.now) _ _ (c.in_ok-deck.ensures.reads.files (λ e. cc)) (told.0, told.1, rw (sym told.2 ∙ c.in-Ok.is) (refl, search rules, refl, refl, refl, refl, refl))

pub returns-in_ok-say-in-Err-clause-row : goal.returns-in_ok-say-in-Err-clause-row
returns-in_ok-say-in-Err-clause-row g c = λ core size.
    let told = c.in_ok-deck.ensures.answer in
    over_read _ core core (g.P.FilePort.files c.args.files.now) _ _ (c.in_ok-deck.ensures.reads.files (λ e. cc)) (told.0, told.1, rw (sym told.2 ∙ c.in-Err.is) (refl, search rules, recut_same _ _ size, refl, refl, refl, refl))
