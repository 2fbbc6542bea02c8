use Rattle.std.proofs.Common.{◌∙◌, rules, refl, sym, ap}
use Rattle.user_model.specs.Inner.{recut}
use Rattle.user_model.specs.User.{User}
use Rattle.machine_model.specs.Machine.{step_of}
use Rattle.user_model.proofs.CoreLaws.{recut_same}
use Rattle.user_session.proofs.Turns.{says_stop, stopped_so, refused_so}
use Rattle.user_session.proofs.session.Session.instruct.Goals as goal

pub returns-in-Went-clause-does : goal.returns-in-Went-clause-does
returns-in-Went-clause-does g c = λ fs now.
    record { gives = _; is = (ap (λ (u : User). step_of u.inner.regs (g.M.MemoryPort.words c.args.core.now)) (sym c.self.view_is) ∙ sym c.in-Went.ensures.step_of); did = (refl, search rules, recut_same _ _ (g.met.M.MemoryPort.same_size _ _ c.in-Went.ensures.keeps ∙ c.requires.can.size), refl, refl, refl, tt) }

pub returns-in-Halt-clause-does : goal.returns-in-Halt-clause-does
returns-in-Halt-clause-does g c = λ fs now.
    record { gives = _; is = (ap (λ (u : User). step_of u.inner.regs (g.M.MemoryPort.words c.args.core.now)) (sym c.self.view_is) ∙ sym c.in-Halt.ensures.step_of); did = (refl, stopped_so _ _ _ _ c.self.inside.talk c.say_stop.new.self _ c.self.view_is refl refl refl refl (says_stop _ _ _ _ _ _ c.in_ok-reserve.ensures.same c.say_stop.ensures) c.stop.ensures, recut_same _ _ (g.met.M.MemoryPort.same_size _ _ c.in-Halt.ensures.keeps ∙ c.requires.can.size), refl, refl, refl, c.in-Halt.ensures.stays) }

pub returns-in-Illegal-clause-does : goal.returns-in-Illegal-clause-does
returns-in-Illegal-clause-does g c = λ fs now.
    record { gives = _; is = (ap (λ (u : User). step_of u.inner.regs (g.M.MemoryPort.words c.args.core.now)) (sym c.self.view_is) ∙ sym c.in-Illegal.ensures.step_of); did = (refl, refused_so _ _ _ _ c.self.inside.talk c.say_stop-in-Illegal.new.self _ c.self.view_is refl refl refl refl (says_stop _ _ _ _ _ _ c.in_ok-reserve.ensures.same c.say_stop-in-Illegal.ensures) c.stop-in-Illegal.ensures c.in-Illegal.ensures.stays.0, ap (recut c.args.self.now.inner.blocks) c.in-Illegal.ensures.stays.1 ∙ recut_same _ _ c.requires.can.size, refl, refl, refl, c.in-Illegal.ensures.stays.1) }

pub returns-in-Outside-clause-does : goal.returns-in-Outside-clause-does
returns-in-Outside-clause-does g c = λ fs now.
    record { gives = _; is = (ap (λ (u : User). step_of u.inner.regs (g.M.MemoryPort.words c.args.core.now)) (sym c.self.view_is) ∙ sym c.in-Outside.ensures.step_of); did = (refl, refused_so _ _ _ _ c.self.inside.talk c.say_stop-in-Outside.new.self _ c.self.view_is refl refl refl refl (says_stop _ _ _ _ _ _ c.in_ok-reserve.ensures.same c.say_stop-in-Outside.ensures) c.stop-in-Outside.ensures c.in-Outside.ensures.stays.0, ap (recut c.args.self.now.inner.blocks) c.in-Outside.ensures.stays.1 ∙ recut_same _ _ c.requires.can.size, refl, refl, refl, c.in-Outside.ensures.stays.1) }
