use Rattle.std.proofs.Common.{◌∙◌, sym, refl}
use Rattle.user_model.proofs.RowTurns.{closed_waits}
use Rattle.user_session.proofs.Enters.{over_these}
use Rattle.user_session.proofs.session.Session.step_apart.Goals as goal

pub returns-then-not-is_open-clause-turn : goal.returns-then-not-is_open-clause-turn
returns-then-not-is_open-clause-turn g c = let are = g.met.P.FilePort.is_known c.args.files.now c.requires.own.usable in over_these _ _ _ _ are are (record {
  cannot = closed_waits c.args.self.now _ (sym c.is_open.ensures ∙ c.if-not-is_open.true);
  same = refl;
  store = refl;
})
