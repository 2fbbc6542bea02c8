use Rattle.std.proofs.Common.{ℕ, rules, subst}
use Rattle.std.specs.Prelude.{OnOk, IfErr}
use Rattle.console_server.specs.Server.{state}
use Rattle.console_server.specs.Conversation.{TurnsAreDone, TurnsAreCut}
use Rattle.live_serve.specs.Talks.{empty_desk}
use Rattle.live_serve.proofs.Closing.{first_desk, talk_done, talk_cut, talk_can, talk_cause}
use Rattle.live_serve.proofs.talking.talk.Goals as goal

pub returns-clause-done : goal.returns-clause-done
returns-clause-done g c =
    let goes = g.C.LiveCore.Goes in
    let see = g.C.LiveCore.seen in
    let look = g.L.Link.seen in
    let old = state c.new-server.result in
    let new = state c.turns-ended.new.self in
    talk_done goes see look c.turns-ended.result c.args.count old new c.args.core _ _ _ _ _ c.new-server.ensures.state
    (subst (λ (n : ℕ). OnOk c.turns-ended.result (TurnsAreDone goes see look n empty_desk old new)) c.from.ensures
    (c.turns-ended.ensures.done empty_desk (first_desk goes see look old c.args.core _ c.new-server.ensures.state)))
    c.finish-finished.ensures.link c.finish-finished.ensures.core c.finish-finished.ensures.events (search rules)

pub returns-clause-cut : goal.returns-clause-cut
returns-clause-cut g c =
    let goes = g.C.LiveCore.Goes in
    let see = g.C.LiveCore.seen in
    let look = g.L.Link.seen in
    let old = state c.new-server.result in
    let new = state c.turns-ended.new.self in
    talk_cut goes see look c.turns-ended.result c.args.count old new c.args.core _ _ _ _ c.new-server.ensures.state
    (subst (λ (n : ℕ). IfErr c.turns-ended.result (λ fault. TurnsAreCut goes see look n empty_desk fault old new)) c.from.ensures
    (c.turns-ended.ensures.cut empty_desk (first_desk goes see look old c.args.core _ c.new-server.ensures.state)))
    c.turns-ended.ensures.tables.tables.many c.finish-finished.ensures.link c.finish-finished.ensures.core (search rules)

pub returns-clause-can : goal.returns-clause-can
returns-clause-can g c =
    talk_can g.C.LiveCore.Goes g.C.LiveCore.seen g.L.Link.seen g.C.LiveCore.Sound c.turns-ended.result (state c.turns-ended.new.self) _ c.turns-ended.ensures.ready c.finish-finished.ensures.core

pub returns-clause-cause : goal.returns-clause-cause
returns-clause-cause g c =
    talk_cause g.C.LiveCore.Goes g.C.LiveCore.seen g.L.Link.seen c.turns-ended.result (state c.new-server.result) (state c.turns-ended.new.self) c.args.core _ _ _ _ c.new-server.ensures.state c.turns-ended.ensures.cause
    c.finish-finished.ensures.link c.finish-finished.ensures.core (search rules)
