use Rattle.std.proofs.Common.{◌∙◌, refl, sym}
use Rattle.user_model.proofs.CoreLaws.{recut_same}
use Rattle.user_session.proofs.session.Session.open_debugger.Goals as goal

pub returns-then-not-is_dormant-clause-row : goal.returns-then-not-is_dormant-clause-row
returns-then-not-is_dormant-clause-row c = λ store size.
    rw (sym c.is_dormant.ensures ∙ c.if-not-is_dormant.true) (refl, c.in_ok-say_why.ensures.ok, recut_same _ _ size, refl, refl, refl, refl)
