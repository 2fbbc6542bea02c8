use Rattle.std.proofs.Common.{rules, ◌≡◌, None, arith}
use Rattle.system_model.specs.Run.{Run, rising}
use Rattle.user_cores.specs.Backing.{Held}
use Rattle.supervisor.specs.Seen.{run_seen}
use Rattle.supervisor.proofs.Doing.{does_none, go_served}
use Rattle.supervisor.proofs.Serving.{ends_map, is_none}
use Rattle.supervisor.proofs.state.State.step_on.Goals as goal

pub returns-clause-ended : goal.returns-clause-ended
returns-clause-ended g c =
    let had : Held = (g.C.Backing.state c.args.cores.now).held in
    let has : Held = (g.C.Backing.state c.go_on.new.cores).held in
    let old : Run = run_seen had.places c.args.self.now in
    let low : rising old ≡ None = is_none (rising old) (search rules) in
    ends_map c.go_on.result _ _ _ _ _ _ _ _
    (does_none c.args.limit old (run_seen has.places c.go_on.new.self) had has c.requires.quiet low) (λ h. h)
    (λ f. (f.0, f.1, record { next = record { quiet = c.requires.quiet; low = low; due = f.2.due }; cut = f.2.cut }))
    (λ h. h)
    c.go_on.ensures.ended

pub serve-requires-clause-serves : goal.serve-requires-clause-serves
serve-requires-clause-serves g c =
    let sound = c.requires.going.held.sound in
    let early = c.requires.time.early in
    let most = c.requires.time.most in
    record {
      user = sound.served c.in-Some.v c.in-Some.is;
      chosen_is = (c.requires.ready c.if-ready.true).first c.in-Some.v c.in-Some.is;
      ran = sound.ran c.in-Some.v c.in-Some.is;
      in_time = omega (arith, early, most);
    }

pub serve-requires-clause-loaded : goal.serve-requires-clause-loaded
serve-requires-clause-loaded g c = (c.requires.ready c.if-ready.true).loaded c.in-Some.v c.in-Some.is

pub returns-in-Some-clause-ended : goal.returns-in-Some-clause-ended
returns-in-Some-clause-ended g c =
    let had : Held = (g.C.Backing.state c.args.cores.now).held in
    let has : Held = (g.C.Backing.state c.serve.new.cores).held in
    let old : Run = run_seen had.places c.args.self.now in
    let ready = c.requires.ready c.if-ready.true in
    ends_map c.serve.result _ _ _ _ _ _ _ _
    (λ d. does_none c.args.limit old (run_seen has.places c.serve.new.self) had has ready.quiet ready.low (go_served c.args.limit c.in-Some.v old (run_seen has.places c.serve.new.self) had has (ready.first c.in-Some.v c.in-Some.is) c.in-Some.is d))
    (λ h. h) (λ f. absurd f.2) (λ h. h)
    c.serve.ensures.ended
