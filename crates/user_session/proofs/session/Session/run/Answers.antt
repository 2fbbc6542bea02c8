use Rattle.std.proofs.Common.{◌≡◌, ◌∙◌, List, None, sym}
use Rattle.ctss_types.specs.declared.file.FileBody.{FileBody}
use Rattle.user_session.proofs.Enters.{ok_map, over_map, ran_alone, shut_is, unbroken}
use Rattle.user_session.specs.Stores.{stored}
use Rattle.user_session.proofs.session.Session.run.Goals as goal

pub go_on-requires-clause-ready : goal.go_on-requires-clause-ready
go_on-requires-clause-ready g c = record {
  on = c.requires.on;
  works = c.requires.works;
  filled = c.requires.filled;
  unbroken = unbroken c.args.self.now (shut_is c.args.self.now.inner.debugger (sym c.is_debugged.ensures ∙ c.if-is_debugged.false));
}

pub returns-clause-turn : goal.returns-clause-turn
returns-clause-turn g c =
    let before = g.M.MemoryPort.words c.args.core.now in
    let after = g.M.MemoryPort.words c.go_on.new.core in
    let shut : c.args.self.now.inner.debugger ≡ None = shut_is c.args.self.now.inner.debugger (sym c.is_debugged.ensures ∙ c.if-is_debugged.false) in
    ok_map _ _ c.go_on.result
    (λ turn o.
    over_map _ _ _ _ _
    (λ (had : List FileBody) (has : List FileBody) r.
    ran_alone turn c.args.now c.args.self.now c.go_on.new.self (stored before had) (stored after has) c.requires.works c.requires.filled shut c.requires.on r) o)
    c.go_on.ensures.turn
