use Rattle.std.proofs.Common.{◌≡◌, ◌∙◌, ℕ, Bool, true, false, ap, sym, subst, refl}
use Rattle.std.specs.Prelude.{IfOk, OnOk}
use Rattle.std.specs.declared.result.Result.{Result}
use Rattle.ctss_types.specs.declared.fault.StepFault.{StepFault}
use Rattle.ctss_types.specs.declared.fault.StepFault.TheVariants.{Disk}
use Rattle.plan_model.specs.Loads.{no_places}
use Rattle.supervisor.specs.Seen.{Bare, run_with, record_so_far}
use Rattle.supervisor.specs.Whole.{whole_of}
use Rattle.live_run.specs.Starts.{Begins}
use Rattle.console_link.specs.Links.{Did, DidOpen}
use Rattle.live_serve.specs.declared.ending.Served.TheVariants.{DiskFailed}
use Rattle.live_serve.specs.Hosts.{EndsSo}
use Rattle.live_serve.proofs.Outcomes.{talk_keeps, hosted, hosts_unbegun, hosts_unopened}
use Rattle.live_serve.proofs.serving.host.Goals as goal

pub returns-in-Err-clause-hosts : goal.returns-in-Err-clause-hosts
returns-in-Err-clause-hosts g c = λ base was now begun behind.
    let parts = c.into_parts-supervisor.ensures in
    hosts_unbegun base c.args.listening.port c.args.listening.turns was now _ _ c.args.wrote c.in-Err.fault c.args.run.supervisor (g.C.Backing.state c.args.run.cores) refl c.in-Err.is begun
    (ap (λ x. (g.C.Backing.state x).calls) (sym parts.cores) ∙ behind.calls) (ap (λ x. (g.C.Backing.state x).disk_faults) (sym parts.cores) ∙ behind.disk) c.end_unbegun-served.result
    (subst (λ (b : Bare). IfOk c.end_unbegun-served.result (λ s. (c.in-Err.fault ≡ Disk) × (s ≡ DiskFailed (record_so_far (run_with no_places b))))) parts.supervisor c.end_unbegun-served.ensures.disk)

pub returns-then-is_err-clause-hosts : goal.returns-then-is_err-clause-hosts
returns-then-is_err-clause-hosts g c = λ base was now begun behind.
    hosts_unopened base c.args.listening.port c.args.listening.turns was now _ _ c.args.wrote c.args.run.supervisor (g.C.Backing.state c.args.run.cores)
    (subst (λ (f : Bool). Did (DidOpen c.args.listening.port f) (g.L.Link.seen c.args.link.now) (g.L.Link.seen c.open.new.self)) (sym c.is_err.ensures.value ∙ c.if-is_err.true) c.open.ensures) begun
    (ap (λ x. (g.C.Backing.state x).calls) (sym c.into_parts-behind.ensures.cores) ∙ behind.calls)

pub returns-clause-hosts : goal.returns-clause-hosts
returns-clause-hosts g c = λ base was now begun behind.
    let run = c.args.run in
    let core = c.talk-core.result.core in
    let parts = c.into_parts-supervisor-2.ensures in
    let a = whole_of run.supervisor (g.C.Backing.state run.cores) in
    let b = whole_of core.supervisor (g.C.Backing.state core.cores) in
    let last = g.C.Backing.state c.end-served.new.behind in
    let ended = c.talk-core.result.ended in
    let events = c.talk-core.result.events in
    let Lies = g.C.Backing.Lies c.end-served.new.behind in
    let begins : Begins base was.tells a = subst (λ (w : Result Unit StepFault). OnOk w (Begins base was.tells a)) c.in_default.is begun.begins in
    let ends : IfOk c.end-served.result (EndsSo Lies ended core.supervisor (g.C.Backing.state core.cores) last events) =
    subst (λ (s : Bare). IfOk c.end-served.result (EndsSo Lies ended s (g.C.Backing.state core.cores) last events)) parts.supervisor
    (subst (λ x. IfOk c.end-served.result (EndsSo Lies ended c.into_parts-supervisor-2.result.0 (g.C.Backing.state x) last events)) parts.cores c.end-served.ensures.ends) in
    hosted base was now a b begins _ _ _ _ (λ calls h. h.1) (λ calls texts h. (whole_of h.0.supervisor (g.C.Backing.state h.0.cores), h.1.1, h.2)) begun.calls c.args.listening.port c.args.listening.turns
    begun.drum begun.disk last
    (c.end-served.ensures.calls ∙ ap (λ x. (g.C.Backing.state x).calls) parts.cores) (c.end-served.ensures.faults ∙ ap (λ x. (g.C.Backing.state x).faults) parts.cores)
    behind.calls behind.faults behind.disk events _ _ _
    (subst (λ (f : Bool). Did (DidOpen c.args.listening.port f) (g.L.Link.seen c.args.link.now) (g.L.Link.seen c.open.new.self)) (sym c.is_err.ensures.value ∙ c.if-is_err.false) c.open.ensures)
    Lies behind.lie ended c.talk-core.ensures.done c.talk-core.ensures.cut c.talk-core.ensures.cause c.end-served.result ends

pub returns-clause-keeps : goal.returns-clause-keeps
returns-clause-keeps g c =
    let kept : g.C.Backing.Keeps c.args.run.cores c.talk-core.result.core.cores =
    talk_keeps (λ x y. g.C.Backing.Keeps x.cores y.cores) _ _ (λ x y calls h. h.0) _ _ _ _ _ c.args.run c.talk-core.result.core c.talk-core.result.ended c.talk-core.ensures.done c.talk-core.ensures.cut in
    g.met.C.Backing.goes_on _ _ _ (subst (λ x. g.C.Backing.Keeps c.args.run.cores x) (sym c.into_parts-supervisor-2.ensures.cores) kept) c.end-served.ensures.keeps
