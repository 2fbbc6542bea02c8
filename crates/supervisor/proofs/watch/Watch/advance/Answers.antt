use Rattle.std.proofs.Common.{◌≡◌, List, length, rules, refl, sym, ap, subst, ◌∙◌, arith}
use Rattle.console_texts.specs.Parts.{Shown}
use Rattle.system_model.specs.Run.{Run}
use Rattle.system_model.specs.Sound.{Sound}
use Rattle.plan_model.specs.Loads.{no_places}
use Rattle.user_cores.specs.Backing.{Held}
use Rattle.supervisor.specs.Seen.{run_seen}
use Rattle.supervisor.proofs.Counting.{counted_same, counted_on}
use Rattle.supervisor.proofs.Doing.{does_fall}
use Rattle.supervisor.proofs.Serving.{fails_map, fails_both, fails_to}
use Rattle.supervisor.proofs.Running.{sound_places, leads_on, part_on, part_none, run_done, held_on, part_but_commons, part_shown, sound_still, stops_at_load}
use Rattle.supervisor.specs.Steps.{IsHeld}
use Rattle.supervisor.specs.Shows.{texts_of, rows_of}
use Rattle.supervisor.proofs.Passing.{pass_leads, pass_part, pass_falls, pass_held, pass_told, pass_texts_lead, pass_texts_part, pass_grow}
use Rattle.supervisor.proofs.Going.{fails_last, held_still}
use Rattle.supervisor.proofs.Growing.{grow_none, grow_trans, step_grow, same_grow}
use Rattle.supervisor.proofs.Seats.{does_seats, many_seats}
use Rattle.supervisor.proofs.Watching.{texts_lead, texts_part, texts_none, texts_end, texts_stop}
use Rattle.faults.proofs.Rises.{rose_later}
use Rattle.supervisor.proofs.watch.Watch.advance.Goals as goal

pub steps-init : goal.steps-init
steps-init g c =
    record {
      leads = λ told. refl;
      part = part_none c.args.limit (run_seen (g.C.Backing.state c.args.cores.now).held.places c.args.self.now.state) (g.C.Backing.state c.args.cores.now).held;
      lead = λ told. refl;
      texts = texts_none c.args.limit (run_seen (g.C.Backing.state c.args.cores.now).held.places c.args.self.now.state) (g.C.Backing.state c.args.cores.now).held (texts_of c.args.self.now.state.sessions.items c.args.self.now.texts);
      grows = grow_none _;
      seats = refl;
      matched = c.requires.watch.matched;
      counted = counted_same _ _ _ _ refl refl;
      tells = refl;
      held = c.requires.watch.going.held;
      ready = λ e. cc;
      usable = c.requires.watch.going.usable;
      keeps = search rules;
      faults_grow = omega arith;
      disk = omega arith;
    }

pub run-ready-requires-clause-going : goal.run-ready-requires-clause-going
run-ready-requires-clause-going g c =
    let had : Held = (g.C.Backing.state c.steps.cores).held in
    let mid : Held = (g.C.Backing.state c.step.new.cores).held in
    let leaves = c.in-Ok.ensures.leaves in
    record {
      usable = leaves.usable;
      held = held_on c.args.limit (run_seen had.places c.steps.self.state) (run_seen mid.places c.step.new.self.state) had mid c.steps-test.true c.steps.invariant.held leaves.tied c.in-Ok.ensures.ended;
    }

pub steps-smaller : goal.steps-smaller
steps-smaller g c =
    let had : Held = (g.C.Backing.state c.steps.cores).held in
    let mid : Held = (g.C.Backing.state c.step.new.cores).held in
    let has : Held = (g.C.Backing.state c.run-ready.new.cores).held in
    let down = does_fall c.args.limit (run_seen had.places c.steps.self.state) (run_seen mid.places c.step.new.self.state) had mid c.steps-test.true c.in-Ok.ensures.ended in
    let more = pass_falls c.args.limit (run_seen mid.places c.step.new.self.state) (run_seen has.places c.run-ready.new.self) mid has c.run-ready.ensures.works.many in
    omega (arith, down, more)

pub steps-preserved : goal.steps-preserved
steps-preserved g c =
    let first : Held = (g.C.Backing.state c.args.cores.now).held in
    let had : Held = (g.C.Backing.state c.steps.cores).held in
    let mid : Held = (g.C.Backing.state c.step.new.cores).held in
    let has : Held = (g.C.Backing.state c.run-ready.new.cores).held in
    let start : Run = run_seen first.places c.args.self.now.state in
    let old : Run = run_seen had.places c.steps.self.state in
    let next : Run = run_seen mid.places c.step.new.self.state in
    let new : Run = run_seen has.places c.run-ready.new.self in
    let inv = c.steps.invariant in
    let up = c.steps-test.true in
    let done = c.in-Ok.ensures.ended in
    let many = c.run-ready.ensures.works.many in
    let rows : List Shown = rows_of c.step.new.self.texts in
    let x = texts_of c.args.self.now.state.sessions.items c.args.self.now.texts in
    let y = texts_of c.steps.self.state.sessions.items c.steps.self.texts in
    let z = texts_of c.step.new.self.state.sessions.items c.step.new.self.texts in
    let tells : mid.tells ≡ first.tells = done.tells ∙ inv.tells in
    let held : IsHeld next mid = held_on c.args.limit old next had mid up inv.held c.in-Ok.ensures.leaves.tied done in
    let told = c.in-Ok.ensures.matched in
    record {
      leads = pass_leads c.args.limit next new mid has many start first tells (leads_on c.args.limit start old next first had mid inv.tells up done inv.leads);
      part = pass_part c.args.limit next new mid has many start first tells (part_on c.args.limit start old next first had mid inv.tells up done inv.part);
      lead = pass_texts_lead c.args.limit next new mid has many rows held.sound told start first x tells (texts_lead c.args.limit start old next first had mid x y z inv.tells up done c.in-Ok.ensures.texts inv.lead);
      texts = pass_texts_part c.args.limit next new mid has many rows held.sound told start first x tells (texts_part c.args.limit start old next first had mid x y z inv.tells up done c.in-Ok.ensures.texts inv.texts);
      grows = grow_trans x z _ (grow_trans x y z inv.grows (step_grow c.args.limit old next had mid y z done c.in-Ok.ensures.texts)) (pass_grow c.args.limit next new mid has many rows held.sound told);
      seats = many_seats c.args.limit next new mid has many ∙ does_seats c.args.limit old next had mid done ∙ inv.seats;
      matched = pass_told c.args.limit next new mid has many rows held.sound told;
      counted = counted_on _ _ _ _ _ _ (counted_on _ _ _ _ _ _ inv.counted c.in-Ok.ensures.leaves.counted) (counted_same _ _ _ _ c.run-ready.ensures.works.entries c.run-ready.ensures.works.calls);
      tells = many.tells ∙ tells;
      held = pass_held c.args.limit next new mid has many held c.run-ready.ensures.works.tied;
      ready = c.run-ready.ensures.ready;
      usable = c.run-ready.ensures.works.usable;
      keeps = g.met.C.Backing.goes_on _ _ _ (g.met.C.Backing.goes_on _ _ _ inv.keeps c.in-Ok.ensures.leaves.keeps) c.run-ready.ensures.works.keeps;
      faults_grow = let a = inv.faults_grow in let b = c.in-Ok.ensures.leaves.faults_grow in let e = c.run-ready.ensures.works.faults in omega (arith, a, b, e);
      disk = let a = inv.disk in let b = c.in-Ok.ensures.leaves.disk in let e = c.run-ready.ensures.works.disk in omega (arith, a, b, e);
    }

pub returns-in-Err-clause-ended : goal.returns-in-Err-clause-ended
returns-in-Err-clause-ended g c =
    let first : Held = (g.C.Backing.state c.args.cores.now).held in
    let had : Held = (g.C.Backing.state c.steps.cores).held in
    let has : Held = (g.C.Backing.state c.step.new.cores).held in
    let start : Run = run_seen first.places c.args.self.now.state in
    let old : Run = run_seen had.places c.steps.self.state in
    let new : Run = run_seen has.places c.step.new.self.state in
    let inv = c.steps.invariant in
    fails_map c.in-Err.fault _ _ _ _ _ _
    (λ s. part_but_commons c.args.limit start old new first had has inv.tells inv.part s)
    (λ f. (stops_at_load c.args.limit start old (run_seen no_places c.step.new.self.state) first had _ _ _ inv.part c.steps-test.true inv.held.sound inv.counted f.2 (ap (λ (r : Run). r.system.entries) f.0) (ap (λ (r : Run). r.system.users) f.0) (ap (λ (r : Run). r.system.clock) f.0), search rules))
    (λ d. (
      part_shown c.args.limit start old (run_seen no_places c.step.new.self.state) first had inv.part (ap (λ (r : Run). r.system.entries) d.0) (ap (λ (r : Run). r.system.users) d.0) (ap (λ (r : Run). r.system.clock) d.0),
      rose_later _ _ _ inv.disk d.1,
    ))
    c.in-Err.ensures.ended

pub returns-clause-ended : goal.returns-clause-ended
returns-clause-ended g c =
    let first : Held = (g.C.Backing.state c.args.cores.now).held in
    let had : Held = (g.C.Backing.state c.steps.cores).held in
    run_done c.args.limit (run_seen first.places c.args.self.now.state) (run_seen had.places c.steps.self.state) first had (omega (arith, c.steps-test.false)) c.steps.invariant.leads

pub returns-clause-texts : goal.returns-clause-texts
returns-clause-texts g c =
    let first : Held = (g.C.Backing.state c.args.cores.now).held in
    let had : Held = (g.C.Backing.state c.steps.cores).held in
    texts_end c.args.limit (run_seen first.places c.args.self.now.state) (run_seen had.places c.steps.self.state) first had _ _ (omega (arith, c.steps-test.false)) c.steps.invariant.lead

pub returns-in-Err-clause-texts : goal.returns-in-Err-clause-texts
returns-in-Err-clause-texts g c =
    let first : Held = (g.C.Backing.state c.args.cores.now).held in
    let had : Held = (g.C.Backing.state c.steps.cores).held in
    let has : Held = (g.C.Backing.state c.step.new.cores).held in
    let start : Run = run_seen first.places c.args.self.now.state in
    let old : Run = run_seen had.places c.steps.self.state in
    let new : Run = run_seen has.places c.step.new.self.state in
    let inv = c.steps.invariant in
    fails_both c.in-Err.fault _ _ _ _ _ _ _ _ _
    (λ s same. texts_stop c.args.limit start old (run_seen no_places c.step.new.self.state) first had _ _ _ inv.texts same (ap (λ (r : Run). r.system.entries) s.run) (ap (λ (r : Run). r.system.users) s.run) (ap (λ (r : Run). r.system.clock) s.run))
    (λ f same. texts_stop c.args.limit start old (run_seen no_places c.step.new.self.state) first had _ _ _ inv.texts same (ap (λ (r : Run). r.system.entries) f.0) (ap (λ (r : Run). r.system.users) f.0) (ap (λ (r : Run). r.system.clock) f.0))
    (λ d same. texts_stop c.args.limit start old (run_seen no_places c.step.new.self.state) first had _ _ _ inv.texts same (ap (λ (r : Run). r.system.entries) d.0) (ap (λ (r : Run). r.system.users) d.0) (ap (λ (r : Run). r.system.clock) d.0))
    c.in-Err.ensures.ended c.in-Err.ensures.texts

pub returns-clause-leaves : goal.returns-clause-leaves
returns-clause-leaves g c =
    let inv = c.steps.invariant in
    record {
      grows = inv.grows;
      seats = inv.seats;
      counted = inv.counted;
      tells = inv.tells;
      held = inv.held;
      usable = inv.usable;
      sound = sound_places no_places (run_seen (g.C.Backing.state c.steps.cores).held.places c.steps.self.state) inv.held.sound;
      matched = inv.matched;
      keeps = inv.keeps;
      faults_grow = inv.faults_grow;
      disk = inv.disk;
    }

pub returns-in-Err-clause-leaves : goal.returns-in-Err-clause-leaves
returns-in-Err-clause-leaves g c =
    let had : Held = (g.C.Backing.state c.steps.cores).held in
    let has : Held = (g.C.Backing.state c.step.new.cores).held in
    let old : Run = run_seen had.places c.steps.self.state in
    let new : Run = run_seen has.places c.step.new.self.state in
    let inv = c.steps.invariant in
    let stopped = c.in-Err.ensures.ended in
    let leaves = c.in-Err.ensures.leaves in
    record {
      grows = grow_trans _ _ _ inv.grows (same_grow c.in-Err.fault _ _ c.in-Err.ensures.texts);
      seats =
          fails_to c.in-Err.fault _ _ _ _ (λ s. ap (λ (r : Run). length r.system.consoles) s.run) (λ f. ap (λ (r : Run). length r.system.consoles) f.0) (λ d. ap (λ (r : Run). length r.system.consoles) d.0) stopped
          ∙ inv.seats;
      counted = fails_map c.in-Err.fault _ _ _ _ _ _ (λ m. counted_on _ _ _ _ _ _ inv.counted m) (λ u. u) (λ m. counted_on _ _ _ _ _ _ inv.counted m) leaves.counted;
      tells = fails_last c.in-Err.fault _ _ _ _ _ (λ s t. s.tells ∙ inv.tells) stopped leaves.tied;
      held = fails_last c.in-Err.fault _ _ _ _ _ (λ s t. held_still old new had has inv.held s t) stopped leaves.tied;
      usable = leaves.usable;
      sound =
          fails_to c.in-Err.fault _ _ _ _
          (λ s. sound_places no_places new (sound_still old new had has inv.held.sound s))
          (λ f. subst Sound (sym f.0) (sound_places no_places old inv.held.sound))
          (λ d. sound_places no_places new (subst Sound (sym d.0) inv.held.sound))
          stopped;
      matched = c.in-Err.ensures.matched;
      keeps = g.met.C.Backing.goes_on _ _ _ inv.keeps leaves.keeps;
      faults_grow = (let a = inv.faults_grow in let b = leaves.faults_grow in omega (arith, a, b));
      disk = (let a = inv.disk in let b = leaves.disk in omega (arith, a, b));
    }
