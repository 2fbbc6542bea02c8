use Rattle.std.proofs.Common.{refl, [], ◌∷◌}
use Rattle.std.specs.Prelude.{codes}
use Rattle.program_model.specs.declared.DebugLine.TheVariants.{Bad}
use Rattle.user_model.specs.Debugger.{bad_line}
use Rattle.user_model.specs.User.{in_store}
use Rattle.user_session.specs.Stores.{stored}
use Rattle.user_session.proofs.Enters.{ok_map}
use Rattle.user_session.proofs.Debugs.{told_row}
use Rattle.user_session.proofs.session.Session.obey_debugger.Goals as goal

pub returns-in-Look-clause-row : goal.returns-in-Look-clause-row
returns-in-Look-clause-row g c = λ s fs is. rw c.in-Look.is (c.look_at.ensures.row s fs is)

pub returns-in-Regs-clause-row : goal.returns-in-Regs-clause-row
returns-in-Regs-clause-row g c = λ s fs is. rw c.in-Regs.is (c.look_at_registers.ensures.row _ c.requires.can.size s fs is)

pub returns-in-Set-clause-row : goal.returns-in-Set-clause-row
returns-in-Set-clause-row g c = λ s fs is. rw c.in-Set.is (c.set_word.ensures.row s fs is)

pub returns-in-End-clause-row : goal.returns-in-End-clause-row
returns-in-End-clause-row g c = λ s fs is. rw c.in-End.is (c.end_debugger.ensures.row _ c.requires.can.size s fs is)

pub returns-in-Bad-clause-row : goal.returns-in-Bad-clause-row
returns-in-Bad-clause-row g c = λ s fs is.
    rw c.in-Bad.is (ok_map _ _ c.tell_why.result (λ d h. told_row Bad (bad_line (in_store (stored (g.M.MemoryPort.words c.args.core.now) fs) c.args.self.now).inner) (codes "BAD ARGUMENTS" ∷ []) c.args.line d c.args.self.now _ (g.M.MemoryPort.words c.args.core.now) fs refl h.0 h.1 c.requires.can.size) c.tell_why.ensures.ok)
