use Rattle.std.proofs.Common.{◌≡◌, Ok, refl}
use Rattle.program_model.specs.Calls.{call_of}
use Rattle.program_model.specs.declared.Call.TheVariants.{GetTime, GetMemory}
use Rattle.user_session.specs.Stores.{stored}
use Rattle.user_session.proofs.Enters.{entered, over_these}
use Rattle.user_session.proofs.session.Session.enter.Goals as goal

pub returns-then-is_get_time-clause-turn : goal.returns-then-is_get_time-clause-turn
returns-then-is_get_time-clause-turn g c =
    let core = g.M.MemoryPort.words c.args.core.now in
    let call : call_of c.args.self.now.inner.regs core c.args.name ≡ Ok GetTime = c.is_get_time.ensures c.if-is_get_time.true c.args.self.now.inner.regs core in
    let are = g.met.P.FilePort.is_known c.args.files.now c.requires.own.usable in
    over_these _ _ _ _ are are (entered _ c.args.now c.args.self.now _ _ _ c.args.name (Ok GetTime) c.requires.ready.works c.requires.ready.filled c.requires.ready.unbroken c.requires.at c.requires.ready.on call (c.tell_time.ensures.row (stored core (g.P.FilePort.files c.args.files.now)) c.requires.can.size))

pub returns-then-is_get_time-clause-leaves : goal.returns-then-is_get_time-clause-leaves
returns-then-is_get_time-clause-leaves g c = record {
  account = c.tell_time.ensures.account;
  err = tt;
  err_core = tt;
  keeps = g.met.M.MemoryPort.stays _;
  uses = record { left = λ e. refl; telling = λ n. refl; usable = λ n. c.requires.own.usable; keeps = g.met.P.FilePort.stays _; cause = λ e. cc };
}

pub returns-then-is_get_memory-clause-turn : goal.returns-then-is_get_memory-clause-turn
returns-then-is_get_memory-clause-turn g c =
    let core = g.M.MemoryPort.words c.args.core.now in
    let call : call_of c.args.self.now.inner.regs core c.args.name ≡ Ok GetMemory = c.is_get_memory.ensures c.if-is_get_memory.true c.args.self.now.inner.regs core in
    let are = g.met.P.FilePort.is_known c.args.files.now c.requires.own.usable in
    over_these _ _ _ _ are are (entered _ c.args.now c.args.self.now _ _ _ c.args.name (Ok GetMemory) c.requires.ready.works c.requires.ready.filled c.requires.ready.unbroken c.requires.at c.requires.ready.on call (c.tell_memory.ensures.row (stored core (g.P.FilePort.files c.args.files.now)) c.args.now c.requires.can.size))

pub returns-then-is_get_memory-clause-leaves : goal.returns-then-is_get_memory-clause-leaves
returns-then-is_get_memory-clause-leaves g c = record {
  account = c.tell_memory.ensures.account;
  err = tt;
  err_core = tt;
  keeps = g.met.M.MemoryPort.stays _;
  uses = record { left = λ e. refl; telling = λ n. refl; usable = λ n. c.requires.own.usable; keeps = g.met.P.FilePort.stays _; cause = λ e. cc };
}
