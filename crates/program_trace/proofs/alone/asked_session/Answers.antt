use Rattle.std.proofs.Common.{[], ap, ◌∙◌, arith}
use Rattle.ctss_types.specs.declared.script.Account.{Account}
use Rattle.user_model.specs.Session.{first_state}
use Rattle.user_model.specs.User.{User}
use Rattle.program_trace.proofs.Sessions.{opened_lines, asked_is}
use Rattle.program_trace.proofs.alone.asked_session.Goals as goal

pub type_line-requires : goal.type_line-requires
type_line-requires c = omega (arith, ap (λ (p : User). p.lines) c.in-Ok.ensures.ok, opened_lines c.in_ok-session.session)

pub returns : goal.returns
returns c =
    asked_is c.in_ok-session.session c.login.new.self c.type_line.new.session c.of.result
    (c.in_ok-session.ensures ∙ ap (λ (a : Account). first_state a []) c.tracer.ensures) c.in-Ok.ensures.ok c.of.ensures c.type_line.ensures
