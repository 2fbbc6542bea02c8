use Rattle.std.proofs.Common.{◌∙◌, List, refl, sym, ap}
use Rattle.ctss_types.specs.declared.file.FileBody.{FileBody}
use Rattle.user_model.specs.User.{User}
use Rattle.user_model.proofs.StepLaws.{at_command, at_input}
use Rattle.user_model.proofs.RowTurns.{input_turn, command_waits}
use Rattle.user_session.specs.Stores.{stored}
use Rattle.user_session.proofs.Enters.{obeyed, over_map, over_these}
use Rattle.user_session.proofs.session.Session.take_line.Goals as goal

pub returns-in_default-clause-turn : goal.returns-in_default-clause-turn
returns-in_default-clause-turn g c =
    let are = g.met.P.FilePort.is_known c.args.files.now c.requires.own.usable in
    over_these _ _ _ _ are are (record { cannot = command_waits c.args.self.now (stored (g.M.MemoryPort.words c.args.core.now) (g.P.FilePort.files c.args.files.now)) c.requires.works (sym c.in_default.ensures); same = refl; store = refl })

pub returns-in_ok-typed-in-Some-input-clause-turn : goal.returns-in_ok-typed-in-Some-input-clause-turn
returns-in_ok-typed-in-Some-input-clause-turn g c =
    over_map _ _ _ _ _
    (λ (had : List FileBody) (has : List FileBody) row. input_turn c.args.now c.args.self.now _ _ _ c.in-Some.line c.in-Some-input.name _ _ (at_input _ _ c.requires.works c.requires.shut (ap (λ (u : User). u.inner.input) (sym c.self.view_is) ∙ c.in-Some-input.is)) (sym c.in-Some.ensures) c.requires.on row)
    (c.in_ok-typed-in-Some-input.ensures.row _ c.requires.can.size)

pub returns-in_ok-turn-in-None-clause-turn : goal.returns-in_ok-turn-in-None-clause-turn
returns-in_ok-turn-in-None-clause-turn g c =
    over_map _ _ _ _ _
    (λ (had : List FileBody) (has : List FileBody) row. obeyed _ c.args.now c.args.self.now _ _ _ c.in-Some.line _ (at_command _ c.requires.works c.requires.shut (ap (λ (u : User). u.inner.input) (sym c.self.view_is) ∙ c.in-None.is)) (sym c.in-Some.ensures) (sym c.command_of.ensures) c.requires.on row)
    c.in_ok-turn-in-None.ensures.row
