use Rattle.std.proofs.Common.{sym, refl}
use Rattle.user_model.proofs.RowTurns.{command_waits, debug_turn}
use Rattle.user_session.specs.Stores.{stored}
use Rattle.user_session.proofs.session.Session.debug.Goals as goal

pub returns-in_default-clause-turn : goal.returns-in_default-clause-turn
returns-in_default-clause-turn g c = λ fs now.
    record { cannot = command_waits c.args.self.now (stored (g.M.MemoryPort.words c.args.core.now) fs) c.requires.works (sym c.in_default.ensures); same = refl; store = refl }

pub returns-clause-turn : goal.returns-clause-turn
returns-clause-turn g c = λ fs now.
    debug_turn now c.args.self.now _ _ _ c.in-Some.line c.requires.debugger.0 _ _ _ c.requires.works c.requires.debugger.1 (sym c.in-Some.ensures) (sym c.parse.ensures) c.requires.on
    (c.in_ok-done.ensures.row c.requires.debugger.0 fs c.requires.debugger.1)
