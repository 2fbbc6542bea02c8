use Rattle.std.proofs.Common.{sym}
use Rattle.user_session.proofs.session.Session.call_replied.Goals as goal

pub returns-clause-row : goal.returns-clause-row
returns-clause-row g c = λ fs. rw c.in-Common.is (rw (sym c.common_arguments-arguments.ensures.value) (rw (sym c.common_buffer-at.ensures) (c.take_answer.ensures.row fs)))
