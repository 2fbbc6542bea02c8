use Rattle.std.proofs.Common.{◌≡◌, ℕ, false, arith, refl, sym, ap, subst, ◌∙◌}
use Rattle.std.proofs.lemmas.Bool.Decides.{nat_tests}
use Rattle.system_model.specs.Run.{Run}
use Rattle.user_cores.specs.Backing.{Held}
use Rattle.supervisor.specs.Seen.{run_seen}
use Rattle.ctss_types.specs.declared.session.Waiting.{Waiting}
use Rattle.time_sharing.specs.System.{Service}
use Rattle.plan_model.specs.Levels.{chosen, user_of, since_in}
use Rattle.plan_model.specs.Loads.{is_loaded}
use Rattle.image_map.specs.Images.{size_of}
use Rattle.system_model.proofs.SoundLaws.{first_user}
use Rattle.supervisor.specs.Counts.{calls_to_load}
use Rattle.user_cores.specs.Swaps.{IsCutOff}
use Rattle.supervisor.proofs.Doing.{go_begin, go_same, load_fails}
use Rattle.supervisor.proofs.Serving.{ends_map}
use Rattle.supervisor.proofs.state.State.go_on.Goals as goal

pub attend-requires-clause-serves : goal.attend-requires-clause-serves
attend-requires-clause-serves g c =
    let had : Held = (g.C.Backing.state c.args.cores.now).held in
    let old : Run = run_seen had.places c.args.self.now in
    let early = c.requires.time.early in
    let most = c.requires.time.most in
    record {
      user = first_user old c.in-Some-None.next.level _ c.requires.going.held.sound c.in-Some-None.ensures.some;
      chosen_is = ap user_of c.in-Some-None.ensures.some;
      ran = omega arith;
      in_time = omega (arith, early, most);
    }

pub returns-in-Some-None-clause-ended : goal.returns-in-Some-None-clause-ended
returns-in-Some-None-clause-ended g c =
    let had : Held = (g.C.Backing.state c.args.cores.now).held in
    let has : Held = (g.C.Backing.state c.attend.new.cores).held in
    let old : Run = run_seen had.places c.args.self.now in
    let x : Waiting = record { user = c.in-Some-None.next.user; left = c.in-Some-None.next.left; since = since_in (chosen old.system.plan.levels) } in
    let v : Service = record { tick = c.args.self.now.clock; user = x.user; level = c.in-Some-None.next.level; ran = 0 } in
    let none = c.in-Some-None.is-1 in
    ends_map c.attend.result _ _ _ _ _ _ _ _
    (go_begin c.args.limit c.in-Some-None.next.level x v old (run_seen has.places c.attend.new.self) had has c.in-Some-None.ensures.some none refl)
    (λ h. h)
    (λ f. (
      f.0,
      f.1,
      load_fails c.in-Some-None.next.level x old had (g.C.Backing.state c.args.cores.now).calls (g.C.Backing.state c.attend.new.cores).calls c.in-Some-None.ensures.some (λ w h. let both = sym none ∙ h in cc) c.requires.going.held.tied
          (first_user old c.in-Some-None.next.level x c.requires.going.held.sound c.in-Some-None.ensures.some)
          f.2.0 f.2.1,
    ))
    (λ h. h)
    c.attend.ensures.ended

pub returns-then-eq-clause-ended : goal.returns-then-eq-clause-ended
returns-then-eq-clause-ended g c =
    let had : Held = (g.C.Backing.state c.args.cores.now).held in
    let has : Held = (g.C.Backing.state c.attend-then-eq.new.cores).held in
    let old : Run = run_seen had.places c.args.self.now in
    let x : Waiting = record { user = c.in-Some-Some.next.user; left = c.in-Some-Some.next.left; since = since_in (chosen old.system.plan.levels) } in
    let v : Service = c.in-Some-Some.v in
    let some = c.in-Some-Some.is-1 in
    let same : v.user ≡ x.user = (let t = c.if-eq.ensures in grind (arith, nat_tests, t)) in
    ends_map c.attend-then-eq.result _ _ _ _ _ _ _ _
    (go_same c.args.limit c.in-Some-Some.next.level x v old (run_seen has.places c.attend-then-eq.new.self) had has c.in-Some-Some.ensures.some some same)
    (λ h. h)
    (λ f. (
      f.0,
      f.1,
      load_fails c.in-Some-Some.next.level x old had (g.C.Backing.state c.args.cores.now).calls (g.C.Backing.state c.attend-then-eq.new.cores).calls c.in-Some-Some.ensures.some
          (λ w h. let both = sym h ∙ some in let e : w ≡ v = cc in ap (λ (s : Service). s.user) e ∙ same)
          c.requires.going.held.tied (first_user old c.in-Some-Some.next.level x c.requires.going.held.sound c.in-Some-Some.ensures.some)
          (subst (λ (k : ℕ). is_loaded had.places k (size_of had.sizes k) ≡ false) same f.2.0)
          (subst (λ (k : ℕ). IsCutOff (g.C.Backing.state c.args.cores.now).calls (g.C.Backing.state c.attend-then-eq.new.cores).calls (calls_to_load k old)) same f.2.1),
    ))
    (λ h. h)
    c.attend-then-eq.ensures.ended
