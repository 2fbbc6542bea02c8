use Rattle.std.proofs.Common.{◌∙◌, sym}
use Rattle.program_model.specs.declared.DebugLine.TheVariants.{Break}
use Rattle.user_model.specs.User.{in_store}
use Rattle.user_session.specs.Stores.{stored}
use Rattle.user_session.proofs.Enters.{ok_map}
use Rattle.user_session.proofs.Debugs.{told_row, full_row, outside_break}
use Rattle.user_session.proofs.session.Session.break_at.Goals as goal

pub returns-then-has_no_room-clause-row : goal.returns-then-has_no_room-clause-row
returns-then-has_no_room-clause-row g c = λ s fs is.
    ok_map _ _ c.tell_why.result
    (λ d h. told_row (Break c.args.at) _ _ c.args.line d c.args.self.now _ (g.M.MemoryPort.words c.args.core.now) fs (full_row s c.args.at (in_store (stored (g.M.MemoryPort.words c.args.core.now) fs) c.args.self.now).inner (sym (c.has_no_room.ensures s is) ∙ c.if-has_no_room.true)) h.0 h.1 c.requires.can.size)
    c.tell_why.ensures.ok

pub returns-then-not-is_inside-clause-row : goal.returns-then-not-is_inside-clause-row
returns-then-not-is_inside-clause-row g c = λ s fs is.
    ok_map _ _ c.tell_why-then-not-is_inside.result
    (λ d h. told_row (Break c.args.at) _ _ c.args.line d c.args.self.now _ (g.M.MemoryPort.words c.args.core.now) fs (outside_break s c.args.at (in_store (stored (g.M.MemoryPort.words c.args.core.now) fs) c.args.self.now).inner (sym (c.has_no_room.ensures s is) ∙ c.if-has_no_room.false) (sym c.is_inside.ensures ∙ c.if-not-is_inside.true)) h.0 h.1 c.requires.can.size)
    c.tell_why-then-not-is_inside.ensures.ok
