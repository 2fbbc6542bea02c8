use Rattle.std.proofs.Common.{◌∙◌, List, sym, subst}
use Rattle.ctss_types.specs.declared.file.FileBody.{FileBody}
use Rattle.user_model.specs.User.{User}
use Rattle.user_model.proofs.RowTurns.{break_turn}
use Rattle.user_session.specs.Stores.{stored, Over}
use Rattle.user_session.specs.Turns.{IsTurn, Runs}
use Rattle.user_session.specs.declared.turn.Turn.{Turn}
use Rattle.user_session.specs.declared.turn.Turn.TheVariants.{Done}
use Rattle.user_session.proofs.Enters.{over_these, over_map, ran}
use Rattle.user_session.proofs.session.Session.run_debugged.Goals as goal

pub returns-then-is_at_break-clause-turn : goal.returns-then-is_at_break-clause-turn
returns-then-is_at_break-clause-turn g c =
    let are = g.met.P.FilePort.is_known c.args.files.now c.requires.own.usable in
    over_these _ _ _ _ are are
    (break_turn c.args.now c.args.self.now _ _ _ _ _ c.requires.works c.requires.filled (sym c.is_at_break.ensures ∙ c.if-is_at_break.true) c.requires.on
    (c.in_ok-broken.ensures.row (stored (g.M.MemoryPort.words c.args.core.now) (g.P.FilePort.files c.args.files.now)) c.requires.can.size))

pub returns-in-Done-clause-turn : goal.returns-in-Done-clause-turn
returns-in-Done-clause-turn g c =
    let tells = g.P.FilePort.tells c.args.files.now in
    let before = stored (g.M.MemoryPort.words c.args.core.now) (g.P.FilePort.files c.args.files.now) in
    let after = stored (g.M.MemoryPort.words c.go_on.new.core) (g.P.FilePort.files c.go_on.new.files) in
    let runs : Over tells before after (Runs (Done c.in-Done.step) c.args.now c.args.self.now c.go_on.new.self) =
    subst (λ (x : Turn). Over tells before after (Runs x c.args.now c.args.self.now c.go_on.new.self)) c.in-Done.is c.in_ok-other.ensures.turn in
    over_map _ _ _ _ _
    (λ (had : List FileBody) (has : List FileBody) r. subst (λ (q : User). IsTurn (Done c.in-Done.step) c.args.now c.args.self.now q (stored before.core had) (stored after.core has)) (sym c.mark.ensures)
    (ran c.in-Done.step c.args.now c.args.self.now c.go_on.new.self (stored before.core had) (stored after.core has) c.requires.works c.requires.filled (sym c.is_at_break.ensures ∙ c.if-is_at_break.false) c.requires.on r))
    runs
