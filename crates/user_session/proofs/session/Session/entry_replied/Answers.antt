use Rattle.std.proofs.Common.{◌≡◌, ◌∙◌, ℕ, List, [], Ok, Some, sym, ap, subst}
use Rattle.std.specs.declared.result.Result.{Result}
use Rattle.machine_model.specs.Machine.{step_of}
use Rattle.machine_model.specs.Step as machine
use Rattle.machine_model.specs.Step.{entry}
use Rattle.program_model.specs.declared.Call.{Call}
use Rattle.program_model.specs.declared.EntryFault.{EntryFault}
use Rattle.program_model.specs.Calls.{call_of}
use Rattle.user_model.specs.Programs.{step_asks, entry_asks}
use Rattle.user_model.specs.User.{User, in_store}
use Rattle.user_session.specs.Changes.{CallTook}
use Rattle.user_session.specs.Stores.{stored}
use Rattle.user_session.specs.Turns.{IsReplied}
use Rattle.user_session.proofs.Enters.{entry_took}
use Rattle.user_session.proofs.session.Session.entry_replied.Goals as goal

pub returns-clause-step : goal.returns-clause-step
returns-clause-step g c = λ op fs now asks.
    let core = g.M.MemoryPort.words c.args.core.now in
    let found : step_of c.args.self.now.inner.regs core ≡ entry c.in-Entry.name = ap (λ (u : User). step_of u.inner.regs core) (sym c.self.view_is) ∙ sym c.in-Entry.ensures.step_of in
    let call : call_of c.args.self.now.inner.regs core c.in-Entry.name ≡ Ok c.in-Ok.call =
    ap (λ (u : User). call_of u.inner.regs core c.in-Entry.name) (sym c.self.view_is)
    ∙ ap (λ (ws : List ℕ). call_of c.self.inside.regs ws c.in-Entry.name) (sym c.in-Entry.ensures.stays.1) ∙ sym c.in-Ok.ensures.value in
    let makes : entry_asks (Ok c.in-Ok.call) core ≡ Some op =
    ap (λ (x : Result Call EntryFault). entry_asks x core) (sym call) ∙ ap (λ (s : machine.Step). step_asks s (in_store (stored core []) c.args.self.now).inner) (sym found) ∙ asks in
    let row = subst (λ (ws : List ℕ). CallTook c.in-Ok.call c.args.reply.now c.call_replied-step.result.ending c.call_replied-step.result.clock c.args.self.now c.call_replied-step.new.self (stored ws fs) (stored (g.M.MemoryPort.words c.call_replied-step.new.core) fs)) c.in-Entry.ensures.stays.1 (c.call_replied-step.ensures.row fs) in
    subst (λ (q : User). IsReplied c.call_replied-step.result op c.args.reply.now now c.args.self.now q (stored core fs) (stored (g.M.MemoryPort.words c.call_replied-step.new.core) fs)) (sym c.mark.ensures)
    (entry_took now c.args.reply.now c.args.self.now c.call_replied-step.new.self (stored core fs) (stored (g.M.MemoryPort.words c.call_replied-step.new.core) fs) c.in-Entry.name (Ok c.in-Ok.call) op c.call_replied-step.result
    c.requires.ready.works c.requires.ready.filled c.requires.ready.unbroken found call c.requires.ready.on (makes, row))

pub returns-clause-keeps : goal.returns-clause-keeps
returns-clause-keeps g c = g.met.M.MemoryPort.goes_on _ _ _ c.in-Entry.ensures.keeps c.call_replied-step.ensures.keeps
