use Rattle.std.proofs.Common.{List}
use Rattle.ctss_types.specs.declared.file.FileBody.{FileBody}
use Rattle.user_session.proofs.Enters.{ok_map, over_map, ran_alone, unbroken}
use Rattle.user_session.specs.Stores.{stored}
use Rattle.user_session.proofs.session.Session.work.Goals as goal

pub go_on-requires-clause-ready : goal.go_on-requires-clause-ready
go_on-requires-clause-ready g c =
    let at = c.requires.work in record { on = at.on; works = at.works; filled = at.filled; unbroken = unbroken c.args.self.now at.alone }

pub returns-clause-turn : goal.returns-clause-turn
returns-clause-turn g c =
    let before = g.M.MemoryPort.words c.args.core.now in
    let after = g.M.MemoryPort.words c.go_on.new.core in
    ok_map _ _ c.go_on.result
    (λ turn o.
    over_map _ _ _ _ _
    (λ (had : List FileBody) (has : List FileBody) r.
    ran_alone turn c.args.now c.args.self.now c.go_on.new.self (stored before had) (stored after has) c.requires.work.works c.requires.work.filled c.requires.work.alone c.requires.work.on r) o)
    c.go_on.ensures.turn
