use Rattle.std.proofs.Common.{rules, ◌≡◌, ℕ, List, Err, refl}
use Rattle.file_model.specs.Files.{got}
use Rattle.user_model.proofs.CoreLaws.{recut_same}
use Rattle.user_session.proofs.Enters.{over_read}
use Rattle.user_session.proofs.Files.{refused_told}
use Rattle.user_session.proofs.session.Session.ask_copy.Goals as goal

pub returns-in_ok-ask-in-Ok-clause-row : goal.returns-in_ok-ask-in-Ok-clause-row
returns-in_ok-ask-in-Ok-clause-row g c = λ core size.
    let told = c.in-Ok.ensures.answer in
    over_read _ core core (g.P.FilePort.files c.args.files.now) _ _ (c.in-Ok.ensures.left (λ e. cc)) (told.0, told.1.0, rw c.in_ok-ask-in-Ok.ensures (record { makes = rw told.1.1 refl; same = refl; store = refl }))

pub returns-in_ok-say-in-Err-Refused-clause-row : goal.returns-in_ok-say-in-Err-Refused-clause-row
returns-in_ok-say-in-Err-Refused-clause-row g c = λ core size.
    let told = c.in-Err-Refused.ensures.answer in
    let none : got c.args.name told.0 ≡ Err c.in-Err-Refused.refusal = refused_told {T = List ℕ} c.in-Err-Refused.field-0 c.in-Err-Refused.refusal (got c.args.name told.0) c.in-Err-Refused.field-0-is told.1.1 in
    over_read _ core core (g.P.FilePort.files c.args.files.now) _ _ (c.in-Err-Refused.ensures.left (λ e. (let k = c.in-Err-Refused.field-0-is in cc)))
    (told.0, told.1.0, rw none (refl, search rules, recut_same _ _ size, refl, refl, refl, refl))
