use Rattle.std.proofs.Common.{sym, ap, ◌∙◌, arith, true≢false}
use Rattle.user_model.specs.User.{can_step}
use Rattle.program_trace.specs.Lone.{TracedUser}
use Rattle.program_trace.proofs.Sessions.{begun_can, begun_own}
use Rattle.program_trace.proofs.States.{waits_told, went_told, if_then, early_of, asked_own}
use Rattle.program_trace.proofs.run.loaded.Goals as goal

pub step-requires : goal.step-requires
step-requires c = omega (arith, ap (λ (a : TracedUser). a.user.own) c.in_ok-begun.ensures, begun_own c.args.deck.now c.args.lines.now)

pub unreachable-requires : goal.unreachable-requires
unreachable-requires c =
    let told = waits_told c.in_ok-begun.begun _ _ c.in_ok-step.ensures c.in-Waits.is in
    true≢false (sym (ap (λ (a : TracedUser). can_step a.user) c.in_ok-begun.ensures ∙ begun_can c.args.deck.now c.args.lines.now) ∙ told.0)

pub go-requires : goal.go-requires
go-requires c =
    let told = went_told c.in_ok-begun.begun _ _ c.in_ok-step.ensures c.in-Went.is in
    let none = ap (λ (a : TracedUser). a.user.own) c.in_ok-begun.ensures ∙ begun_own c.args.deck.now c.args.lines.now in
    omega (arith, asked_own c.in_ok-begun.begun c.in-Went.asked none told.1)

pub returns-clause-early : goal.returns-clause-early
returns-clause-early c =
    let told = went_told c.in_ok-begun.begun _ _ c.in_ok-step.ensures c.in-Went.is in
    let none = ap (λ (a : TracedUser). a.user.own) c.in_ok-begun.ensures ∙ begun_own c.args.deck.now c.args.lines.now in
    if_then c.go.result (early_of c.in-Went.asked (asked_own c.in_ok-begun.begun c.in-Went.asked none told.1)) c.go.ensures.gone
