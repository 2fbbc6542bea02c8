use Rattle.std.proofs.Common.{◌≡◌, ◌∙◌, true, false, [], None, Some, sym, ap}
use Rattle.machine_model.specs.Machine.{step_of}
use Rattle.user_model.specs.declared.Command.{Command}
use Rattle.user_model.specs.Commands.{command_asks}
use Rattle.user_model.specs.Session.{works_in}
use Rattle.user_model.specs.User.{User, in_store}
use Rattle.user_model.proofs.AskedLaws.{asked_on, asked_filled, asked_first, asked_command}
use Rattle.user_session.specs.Stores.{stored}
use Rattle.user_session.proofs.Enters.{asks_anywhere, command_took, ok_map}
use Rattle.user_session.proofs.session.Session.take_reply.Goals as goal

pub entry_replied-requires-clause-ready : goal.entry_replied-requires-clause-ready
entry_replied-requires-clause-ready g c =
    let p = in_store (stored (g.M.MemoryPort.words c.args.core.now) c.requires.asks.1.had) c.args.self.now in
    let works : works_in c.args.self.now.inner.state ≡ true = sym c.works.ensures ∙ c.if-works.true in
    let asked = asked_filled p c.requires.asks.0 works c.requires.asks.1.makes in
    record { on = asked_on p c.requires.asks.1.can; works = works; filled = asked.0; unbroken = asked.1 }

pub entry_replied-requires-clause-asks : goal.entry_replied-requires-clause-asks
entry_replied-requires-clause-asks g c =
    let core = g.M.MemoryPort.words c.args.core.now in (
      c.requires.asks.0,
      asks_anywhere (step_of c.args.self.now.inner.regs core) core [] c.requires.asks.1.had c.args.self.now
          ∙ (asked_filled (in_store (stored core c.requires.asks.1.had) c.args.self.now) c.requires.asks.0 (sym c.works.ensures ∙ c.if-works.true) c.requires.asks.1.makes).2,
    )

pub returns-then-works-clause-step : goal.returns-then-works-clause-step
returns-then-works-clause-step g c = λ op asks.
    let core = g.M.MemoryPort.words c.args.core.now in
    let is = asks_anywhere (step_of c.args.self.now.inner.regs core) core [] asks.had c.args.self.now
    ∙ (asked_filled (in_store (stored core asks.had) c.args.self.now) op (sym c.works.ensures ∙ c.if-works.true) asks.makes).2 in
    record { had = asks.had; has = asks.had; was = asks.was; now = asks.was; does = c.entry_replied.ensures.step op asks.had c.args.now is }

pub unreachable-requires : goal.unreachable-requires
unreachable-requires g c =
    let first = asked_first (in_store (stored (g.M.MemoryPort.words c.args.core.now) c.requires.asks.1.had) c.args.self.now) (sym c.works.ensures ∙ c.if-works.false) c.requires.asks.1.can in
    let none : None ≡ Some first.0 = c.in_default.ensures ∙ first.1 in
    cc

pub returns-clause-step : goal.returns-clause-step
returns-clause-step g c = λ op asks.
    let core = g.M.MemoryPort.words c.args.core.now in
    let p : User = in_store (stored core asks.had) c.args.self.now in
    let idle : works_in c.args.self.now.inner.state ≡ false = sym c.works.ensures ∙ c.if-works.false in
    let asked = asked_command p op c.in-Some.line idle (sym c.in-Some.ensures) asks.makes in
    let makes : command_asks c.command_of.result p.inner ≡ Some op = ap (λ (d : Command). command_asks d p.inner) c.command_of.ensures ∙ asked.1 in
    ok_map _ _ c.copy_replied.result
    (λ s row. record {
      had = asks.had;
      has = row.0;
      was = asks.was;
      now = row.1;
      does = command_took c.args.now c.args.reply.now c.args.self.now c.copy_replied.new.self (stored core asks.had) (stored core row.0) c.in-Some.line c.command_of.result op s asked.0 (sym c.in-Some.ensures) (sym c.command_of.ensures) (asked_on p asks.can) (makes, row.2);
    })
    (c.copy_replied.ensures.row core asks.had c.requires.can.size asks.was)
