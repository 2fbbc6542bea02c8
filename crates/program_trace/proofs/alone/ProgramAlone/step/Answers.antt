use Rattle.std.proofs.Common.{ℕ, ◌*◌, List, Option, length, ap, subst, ◌∙◌}
use Rattle.user_model.specs.User.{core_after}
use Rattle.user_session.specs.declared.turn.Step.{Step}
use Rattle.user_session.specs.Stores.{stored}
use Rattle.program_trace.specs.Steps.{IsTurnBeside}
use Rattle.program_trace.proofs.Sessions.{settled_length}
use Rattle.program_trace.proofs.Turns.{went_by}
use Rattle.program_trace.proofs.alone.ProgramAlone.step.Goals as goal

pub invariant_of-result-2 : goal.invariant_of-result-2
invariant_of-result-2 c = (
  ap (λ (core : List ℕ). length core) c.in-Ok-settled.ensures ∙ settled_length c.in-Some.step.ending c.blocks-2.result c.step_beside.new.core
      ∙ ap (λ (b : ℕ). 256 * b) c.blocks-2.ensures.value,
  c.in-Ok.ensures.account,
  c.in-Ok.ensures.quotas.0,
  c.in-Ok.ensures.quotas.1,
)

pub returns : goal.returns
returns c =
    let old = c.self.inside in
    let new = c.step_beside.new in
    went_by c.in-Some.step c.own-now.result old.session new.session old.core new.core c.in-Ok-settled.core old.files.files new.files.files old.common.files new.common.files c.args.self
    (subst
    (λ (o : Option Step). IsTurnBeside o c.own-now.result old.session new.session (stored old.core old.files.files) (stored new.core new.files.files) old.common.files new.common.files)
    c.in-Some.is c.in-Ok.ensures.turn)
    c.own-now.ensures
    (c.in-Ok-settled.ensures ∙ ap (λ (b : ℕ). core_after c.in-Some.step.ending b new.core) c.blocks-2.ensures.value)
    c.self.view_is
