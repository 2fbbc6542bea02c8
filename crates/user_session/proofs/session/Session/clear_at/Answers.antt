use Rattle.std.proofs.Common.{◌∙◌, sym}
use Rattle.program_model.specs.declared.DebugLine.TheVariants.{Clear}
use Rattle.user_model.specs.User.{in_store}
use Rattle.user_session.specs.Stores.{stored}
use Rattle.user_session.proofs.Enters.{ok_map}
use Rattle.user_session.proofs.Debugs.{told_row, outside_clear}
use Rattle.user_session.proofs.session.Session.clear_at.Goals as goal

pub returns-then-not-is_inside-clause-row : goal.returns-then-not-is_inside-clause-row
returns-then-not-is_inside-clause-row g c = λ s fs is.
    ok_map _ _ c.tell_why.result
    (λ d h. told_row (Clear c.args.at) _ _ c.args.line d c.args.self.now _ (g.M.MemoryPort.words c.args.core.now) fs (outside_clear s c.args.at (in_store (stored (g.M.MemoryPort.words c.args.core.now) fs) c.args.self.now).inner (sym c.is_inside.ensures ∙ c.if-not-is_inside.true)) h.0 h.1 c.requires.can.size)
    c.tell_why.ensures.ok
