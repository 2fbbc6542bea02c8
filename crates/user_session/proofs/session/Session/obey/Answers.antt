use Rattle.std.proofs.Common.{refl, rules}
use Rattle.user_model.proofs.CoreLaws.{recut_same}
use Rattle.user_session.specs.Stores.{stored}
use Rattle.user_session.proofs.Enters.{over_these}
use Rattle.user_session.proofs.session.Session.obey.Goals as goal

pub returns-in_ok-say_why-in-BadArguments-clause-row : goal.returns-in_ok-say_why-in-BadArguments-clause-row
returns-in_ok-say_why-in-BadArguments-clause-row g c =
    let are = g.met.P.FilePort.is_known c.args.files.now c.requires.own.usable in
    rw c.in-BadArguments.is (over_these _ _ _ _ are are (refl, c.in_ok-say_why-in-BadArguments.ensures.ok, recut_same _ _ c.requires.can.size, refl, refl, refl, refl))

pub returns-in_ok-start-in-Start-clause-row : goal.returns-in_ok-start-in-Start-clause-row
returns-in_ok-start-in-Start-clause-row g c =
    let are = g.met.P.FilePort.is_known c.args.files.now c.requires.own.usable in
    rw c.in-Start.is (over_these _ _ _ _ are are (c.in_ok-start-in-Start.ensures.row (stored (g.M.MemoryPort.words c.args.core.now) (g.P.FilePort.files c.args.files.now)) c.requires.can.size))

pub returns-in_ok-tell_registers-in-Registers-clause-row : goal.returns-in_ok-tell_registers-in-Registers-clause-row
returns-in_ok-tell_registers-in-Registers-clause-row g c =
    let are = g.met.P.FilePort.is_known c.args.files.now c.requires.own.usable in
    rw c.in-Registers.is (over_these _ _ _ _ are are (c.in_ok-tell_registers-in-Registers.ensures.row (stored (g.M.MemoryPort.words c.args.core.now) (g.P.FilePort.files c.args.files.now)) c.requires.can.size))

pub returns-in_ok-tell_word-in-WordAt-clause-row : goal.returns-in_ok-tell_word-in-WordAt-clause-row
returns-in_ok-tell_word-in-WordAt-clause-row g c =
    let are = g.met.P.FilePort.is_known c.args.files.now c.requires.own.usable in
    rw c.in-WordAt.is (over_these _ _ _ _ are are (c.in_ok-tell_word-in-WordAt.ensures.row (g.P.FilePort.files c.args.files.now)))

pub returns-in_ok-open_debugger-in-Debug-clause-row : goal.returns-in_ok-open_debugger-in-Debug-clause-row
returns-in_ok-open_debugger-in-Debug-clause-row g c =
    let are = g.met.P.FilePort.is_known c.args.files.now c.requires.own.usable in
    rw c.in-Debug.is (over_these _ _ _ _ are are (c.in_ok-open_debugger-in-Debug.ensures.row (stored (g.M.MemoryPort.words c.args.core.now) (g.P.FilePort.files c.args.files.now)) c.requires.can.size))

pub returns-in-Logout-clause-row : goal.returns-in-Logout-clause-row
returns-in-Logout-clause-row g c = let row = c.log_out.ensures.row (g.M.MemoryPort.words c.args.core.now) in search rules

pub returns-in_ok-say_why-in-Unknown-clause-row : goal.returns-in_ok-say_why-in-Unknown-clause-row
returns-in_ok-say_why-in-Unknown-clause-row g c =
    let are = g.met.P.FilePort.is_known c.args.files.now c.requires.own.usable in
    rw c.in-Unknown.is (over_these _ _ _ _ are are (refl, c.in_ok-say_why-in-Unknown.ensures.ok, recut_same _ _ c.requires.can.size, refl, refl, refl, refl))
