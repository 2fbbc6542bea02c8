use Rattle.std.proofs.Common.{◌≡◌, ◌∙◌, ◌*◌, ◌<◌, ◌-◌, ◌^◌, [], length, sym, ap, subst}
use Rattle.std.specs.Prelude.{IfOk, OnErr}
use Rattle.machine_model.specs.Machine.{step_of}
use Rattle.user_model.specs.Inner.{Stored}
use Rattle.user_model.specs.User.{User}
use Rattle.user_session.specs.Calls.{IsAtInstruction}
use Rattle.user_session.specs.Stores.{stored, Over}
use Rattle.user_session.specs.Turns.{Runs}
use Rattle.user_session.proofs.Enters.{at_entry, at_step, over_these}
use Rattle.user_session.proofs.session.Session.go_on.Goals as goal

pub enter-requires-clause-ready : goal.enter-requires-clause-ready
enter-requires-clause-ready g c =
    let e = at_entry _ _ _ _ _ _ _ c.in-Entry.is (c.in_ok-step.ensures.does [] c.args.now) in
    subst IsAtInstruction (sym e.same) c.requires.ready

pub enter-requires-clause-at : goal.enter-requires-clause-at
enter-requires-clause-at g c = let e = at_entry _ _ _ _ _ _ _ c.in-Entry.is (c.in_ok-step.ensures.does [] c.args.now) in (λ j. step_of (e.same j).inner.regs (e.store j).core) ∙ e.at

pub enter-requires-clause-can : goal.enter-requires-clause-can
enter-requires-clause-can g c =
    let e = at_entry _ _ _ _ _ _ _ c.in-Entry.is (c.in_ok-step.ensures.does [] c.args.now) in
    record {
      size = ap (λ (s : Stored). length s.core) e.store ∙ c.requires.can.size ∙ ap (λ (u : User). 256 * u.inner.blocks) (sym e.same);
      fits = subst (λ (u : User). u.own < 2 ^ 64 - 1) (sym e.same) c.requires.can.fits;
    }

pub returns-in-Done-clause-turn : goal.returns-in-Done-clause-turn
returns-in-Done-clause-turn g c =
    let are = g.met.P.FilePort.is_known c.args.files.now c.requires.own.usable in
    over_these _ _ _ _ are are (at_step _ _ _ _ _ _ _ c.in-Done.is (c.in_ok-step.ensures.does (g.P.FilePort.files c.args.files.now) c.args.now))

pub returns-in-Entry-clause-turn : goal.returns-in-Entry-clause-turn
returns-in-Entry-clause-turn g c =
    let e = at_entry _ _ _ _ _ _ _ c.in-Entry.is (c.in_ok-step.ensures.does [] c.args.now) in
    let tells = g.P.FilePort.tells c.args.files.now in
    let files = g.P.FilePort.files c.args.files.now in
    let after = stored (g.M.MemoryPort.words c.enter.new.core) (g.P.FilePort.files c.enter.new.files) in
    subst (λ (u : User). IfOk c.enter.result (λ turn. Over tells (stored (g.M.MemoryPort.words c.args.core.now) files) after (Runs turn c.args.now u c.enter.new.self))) e.same
    (subst (λ (s : Stored). IfOk c.enter.result (λ turn. Over tells (stored s.core files) after (Runs turn c.args.now c.instruct.new.self c.enter.new.self))) e.store c.enter.ensures.turn)

pub returns-in-Entry-clause-leaves : goal.returns-in-Entry-clause-leaves
returns-in-Entry-clause-leaves g c =
    let e = at_entry _ _ _ _ _ _ _ c.in-Entry.is (c.in_ok-step.ensures.does [] c.args.now) in
    record {
      account = c.enter.ensures.leaves.account ∙ c.in_ok-step.ensures.user.account;
      err = subst (λ (u : User). OnErr c.enter.result (c.enter.new.self ≡ u)) e.same c.enter.ensures.leaves.err;
      err_core = subst (λ (s : Stored). OnErr c.enter.result (g.M.MemoryPort.words c.enter.new.core ≡ s.core)) e.store c.enter.ensures.leaves.err_core;
      keeps = g.met.M.MemoryPort.goes_on _ _ _ c.in_ok-step.ensures.core.keeps c.enter.ensures.leaves.keeps;
      uses = c.enter.ensures.leaves.uses;
    }
