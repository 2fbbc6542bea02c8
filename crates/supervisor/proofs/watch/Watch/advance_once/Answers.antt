use Rattle.std.proofs.Common.{List, length, refl, sym, ap, subst, ◌∙◌, arith}
use Rattle.console_texts.specs.Parts.{Shown}
use Rattle.system_model.specs.Run.{Run}
use Rattle.system_model.specs.Sound.{Sound}
use Rattle.plan_model.specs.Loads.{no_places}
use Rattle.user_cores.specs.Backing.{Held}
use Rattle.supervisor.specs.Seen.{run_seen}
use Rattle.supervisor.specs.Steps.{IsHeld}
use Rattle.supervisor.specs.Shows.{texts_of, rows_of}
use Rattle.supervisor.proofs.Counting.{counted_same, counted_on}
use Rattle.supervisor.proofs.Serving.{fails_map, fails_both, fails_to}
use Rattle.supervisor.proofs.Running.{sound_places, part_none, held_on, part_but_commons, part_shown, sound_still, stops_at_load}
use Rattle.supervisor.proofs.Passing.{once_run, pass_held, pass_told, pass_texts_part, pass_grow}
use Rattle.supervisor.proofs.Going.{fails_last, held_still}
use Rattle.supervisor.proofs.Growing.{grow_trans, step_grow, same_grow}
use Rattle.supervisor.proofs.Seats.{does_seats, many_seats}
use Rattle.supervisor.proofs.Watching.{texts_part, texts_none, texts_stop}
use Rattle.supervisor.proofs.watch.Watch.advance_once.Goals as goal

pub run-requires-clause-going : goal.run-requires-clause-going
run-requires-clause-going g c =
    let had : Held = (g.C.Backing.state c.args.cores.now).held in
    let mid : Held = (g.C.Backing.state c.look.new.cores).held in
    let leaves = c.in-Ok.ensures.leaves in
    record {
      usable = leaves.usable;
      held = held_on c.args.limit (run_seen had.places c.args.self.now.state) (run_seen mid.places c.look.new.self.state) had mid c.requires.time.early c.requires.watch.going.held leaves.tied c.in-Ok.ensures.ended;
    }

pub returns-clause-once : goal.returns-clause-once
returns-clause-once g c =
    let had : Held = (g.C.Backing.state c.args.cores.now).held in
    let mid : Held = (g.C.Backing.state c.look.new.cores).held in
    let has : Held = (g.C.Backing.state c.run.new.cores).held in
    let old : Run = run_seen had.places c.args.self.now.state in
    let next : Run = run_seen mid.places c.look.new.self.state in
    let new : Run = run_seen has.places c.run.new.self in
    let done = c.in-Ok.ensures.ended in
    let many = c.run.ensures.works.many in
    let rows : List Shown = rows_of c.look.new.self.texts in
    let x = texts_of c.args.self.now.state.sessions.items c.args.self.now.texts in
    let z = texts_of c.look.new.self.state.sessions.items c.look.new.self.texts in
    let held : IsHeld next mid = held_on c.args.limit old next had mid c.requires.time.early c.requires.watch.going.held c.in-Ok.ensures.leaves.tied done in
    record {
      run = once_run c.args.limit old next new had mid has done many;
      texts = pass_texts_part c.args.limit next new mid has many rows held.sound c.in-Ok.ensures.matched old had x done.tells
          (texts_part c.args.limit old old next had had mid x x z refl c.requires.time.early done c.in-Ok.ensures.texts (texts_none c.args.limit old had x));
    }

pub returns-clause-leaves : goal.returns-clause-leaves
returns-clause-leaves g c =
    let had : Held = (g.C.Backing.state c.args.cores.now).held in
    let mid : Held = (g.C.Backing.state c.look.new.cores).held in
    let has : Held = (g.C.Backing.state c.run.new.cores).held in
    let old : Run = run_seen had.places c.args.self.now.state in
    let next : Run = run_seen mid.places c.look.new.self.state in
    let new : Run = run_seen has.places c.run.new.self in
    let done = c.in-Ok.ensures.ended in
    let first = c.in-Ok.ensures.leaves in
    let works = c.run.ensures.works in
    let told = c.in-Ok.ensures.matched in
    let rows : List Shown = rows_of c.look.new.self.texts in
    let held : IsHeld next mid = held_on c.args.limit old next had mid c.requires.time.early c.requires.watch.going.held first.tied done in
    let last : IsHeld new has = pass_held c.args.limit next new mid has works.many held works.tied in
    record {
      grows = grow_trans _ _ _ (step_grow c.args.limit old next had mid _ _ done c.in-Ok.ensures.texts) (pass_grow c.args.limit next new mid has works.many rows held.sound told);
      seats = many_seats c.args.limit next new mid has works.many ∙ does_seats c.args.limit old next had mid done;
      counted = counted_on _ _ _ _ _ _ first.counted (counted_same _ _ _ _ works.entries works.calls);
      tells = works.many.tells ∙ done.tells;
      held = last;
      usable = works.usable;
      sound = sound_places no_places new last.sound;
      matched = pass_told c.args.limit next new mid has works.many rows held.sound told;
      keeps = g.met.C.Backing.goes_on _ _ _ first.keeps works.keeps;
      faults_grow = (let a = first.faults_grow in let b = works.faults in omega (arith, a, b));
      disk = (let a = first.disk in let b = works.disk in omega (arith, a, b));
    }

pub returns-in-Err-clause-fails : goal.returns-in-Err-clause-fails
returns-in-Err-clause-fails g c =
    let had : Held = (g.C.Backing.state c.args.cores.now).held in
    let has : Held = (g.C.Backing.state c.look.new.cores).held in
    let old : Run = run_seen had.places c.args.self.now.state in
    let part = part_none c.args.limit old had in
    fails_map c.in-Err.fault _ _ _ _ _ _
    (λ s. part_but_commons c.args.limit old old (run_seen has.places c.look.new.self.state) had had has refl part s)
    (λ f. (
      stops_at_load c.args.limit old old (run_seen no_places c.look.new.self.state) had had _ _ _ part c.requires.time.early c.requires.watch.going.held.sound
          (counted_same _ _ _ _ refl refl) f.2 (ap (λ (r : Run). r.system.entries) f.0) (ap (λ (r : Run). r.system.users) f.0) (ap (λ (r : Run). r.system.clock) f.0),
      f.1,
    ))
    (λ d. (
      part_shown c.args.limit old old (run_seen no_places c.look.new.self.state) had had part (ap (λ (r : Run). r.system.entries) d.0) (ap (λ (r : Run). r.system.users) d.0) (ap (λ (r : Run). r.system.clock) d.0),
      d.1,
    ))
    c.in-Err.ensures.ended

pub returns-in-Err-clause-fails_texts : goal.returns-in-Err-clause-fails_texts
returns-in-Err-clause-fails_texts g c =
    let had : Held = (g.C.Backing.state c.args.cores.now).held in
    let old : Run = run_seen had.places c.args.self.now.state in
    let new : Run = run_seen no_places c.look.new.self.state in
    let x = texts_of c.args.self.now.state.sessions.items c.args.self.now.texts in
    let none = texts_none c.args.limit old had x in
    fails_both c.in-Err.fault _ _ _ _ _ _ _ _ _
    (λ s same. texts_stop c.args.limit old old new had had _ _ _ none same (ap (λ (r : Run). r.system.entries) s.run) (ap (λ (r : Run). r.system.users) s.run) (ap (λ (r : Run). r.system.clock) s.run))
    (λ f same. texts_stop c.args.limit old old new had had _ _ _ none same (ap (λ (r : Run). r.system.entries) f.0) (ap (λ (r : Run). r.system.users) f.0) (ap (λ (r : Run). r.system.clock) f.0))
    (λ d same. texts_stop c.args.limit old old new had had _ _ _ none same (ap (λ (r : Run). r.system.entries) d.0) (ap (λ (r : Run). r.system.users) d.0) (ap (λ (r : Run). r.system.clock) d.0))
    c.in-Err.ensures.ended c.in-Err.ensures.texts

pub returns-in-Err-clause-leaves : goal.returns-in-Err-clause-leaves
returns-in-Err-clause-leaves g c =
    let had : Held = (g.C.Backing.state c.args.cores.now).held in
    let has : Held = (g.C.Backing.state c.look.new.cores).held in
    let old : Run = run_seen had.places c.args.self.now.state in
    let new : Run = run_seen has.places c.look.new.self.state in
    let held = c.requires.watch.going.held in
    let stopped = c.in-Err.ensures.ended in
    let leaves = c.in-Err.ensures.leaves in
    record {
      grows = same_grow c.in-Err.fault _ _ c.in-Err.ensures.texts;
      seats = fails_to c.in-Err.fault _ _ _ _ (λ s. ap (λ (r : Run). length r.system.consoles) s.run) (λ f. ap (λ (r : Run). length r.system.consoles) f.0) (λ d. ap (λ (r : Run). length r.system.consoles) d.0) stopped;
      counted = leaves.counted;
      tells = fails_last c.in-Err.fault _ _ _ _ _ (λ s t. s.tells) stopped leaves.tied;
      held = fails_last c.in-Err.fault _ _ _ _ _ (λ s t. held_still old new had has held s t) stopped leaves.tied;
      usable = leaves.usable;
      sound =
          fails_to c.in-Err.fault _ _ _ _
          (λ s. sound_places no_places new (sound_still old new had has held.sound s))
          (λ f. subst Sound (sym f.0) (sound_places no_places old held.sound))
          (λ d. sound_places no_places new (subst Sound (sym d.0) held.sound))
          stopped;
      matched = c.in-Err.ensures.matched;
      keeps = leaves.keeps;
      faults_grow = leaves.faults_grow;
      disk = leaves.disk;
    }
