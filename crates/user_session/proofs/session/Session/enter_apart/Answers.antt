use Rattle.std.proofs.Common.{◌≡◌, ◌∙◌, Ok, Err, refl, sym, ap}
use Rattle.program_model.specs.Calls.{call_of}
use Rattle.user_model.specs.User.{User}
use Rattle.user_session.specs.Stores.{stored}
use Rattle.user_session.proofs.Enters.{entered, no_disk, ok_map, on_err, over_map, over_these}
use Rattle.user_session.proofs.session.Session.enter_apart.Goals as goal

pub returns-in_ok-refuse-in-Err-clause-turn : goal.returns-in_ok-refuse-in-Err-clause-turn
returns-in_ok-refuse-in-Err-clause-turn g c =
    let core = g.M.MemoryPort.words c.args.core.now in
    let call : call_of c.args.self.now.inner.regs core c.args.name ≡ Err c.in-Err.fault = ap (λ (u : User). call_of u.inner.regs core c.args.name) (sym c.self.view_is) ∙ sym c.in-Err.ensures.value in
    let are = g.met.P.FilePort.is_known c.args.files.now c.requires.own.usable in
    over_these _ _ _ _ are are (entered _ c.args.now c.args.self.now _ _ _ c.args.name (Err c.in-Err.fault) c.requires.ready.works c.requires.ready.filled c.requires.ready.unbroken c.requires.at c.requires.ready.on call (c.in_ok-refuse-in-Err.ensures.row (stored core (g.P.FilePort.files c.args.files.now)) c.args.now c.requires.can.size))

pub returns-in-Ok-clause-turn : goal.returns-in-Ok-clause-turn
returns-in-Ok-clause-turn g c =
    let core = g.M.MemoryPort.words c.args.core.now in
    let call : call_of c.args.self.now.inner.regs core c.args.name ≡ Ok c.in-Ok.call = ap (λ (u : User). call_of u.inner.regs core c.args.name) (sym c.self.view_is) ∙ sym c.in-Ok.ensures.value in
    ok_map _ _ c.answer_call.result
    (λ turn h. over_map _ _ _ _ _ (λ had has row. entered turn c.args.now c.args.self.now c.answer_call.new.self _ _ c.args.name (Ok c.in-Ok.call) c.requires.ready.works c.requires.ready.filled c.requires.ready.unbroken c.requires.at c.requires.ready.on call row) h)
    c.answer_call.ensures.row

pub returns-in_ok-refuse-in-Err-clause-leaves : goal.returns-in_ok-refuse-in-Err-clause-leaves
returns-in_ok-refuse-in-Err-clause-leaves g c = record {
  account = c.in_ok-refuse-in-Err.ensures.user.account;
  err = tt;
  err_core = tt;
  keeps = g.met.M.MemoryPort.stays _;
  uses = record { left = λ e. refl; telling = λ n. refl; usable = λ n. c.requires.own.usable; keeps = g.met.P.FilePort.stays _; cause = λ e. cc };
}

pub returns-in_err-refuse-in-Err-clause-leaves : goal.returns-in_err-refuse-in-Err-clause-leaves
returns-in_err-refuse-in-Err-clause-leaves g c = record {
  account = c.in_err-refuse-in-Err.ensures.user.account;
  err = on_err c.from_residual.result _ c.in_err-refuse-in-Err.ensures.user.err;
  err_core = on_err c.from_residual.result _ refl;
  keeps = g.met.M.MemoryPort.stays _;
  uses = record { left = λ e. refl; telling = λ n. refl; usable = λ n. c.requires.own.usable; keeps = g.met.P.FilePort.stays _; cause = λ e. absurd (no_disk _ _ (λ q. cc) c.from_residual.ensures.1 e) };
}
