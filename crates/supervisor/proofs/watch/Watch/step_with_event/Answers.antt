use Rattle.std.proofs.Common.{◌≡◌, ◌≤◌, ℕ, List, length, map, sym, ap, subst, ◌∙◌}
use Rattle.time_sharing.specs.System.{Console}
use Rattle.user_model.specs.User.{User}
use Rattle.system_model.specs.Run.{Run}
use Rattle.user_cores.specs.Backing.{Held}
use Rattle.console_texts.specs.Parts.{Shown, text_of}
use Rattle.console_texts.specs.Following.{AreShown, followed}
use Rattle.console_texts.specs.Watching.{transcripts_of, refused_by}
use Rattle.supervisor.specs.Seen.{run_seen}
use Rattle.supervisor.specs.Shows.{GoesOn, rows_of}
use Rattle.supervisor.proofs.Doing.{does_sound}
use Rattle.supervisor.proofs.Watching.{lengths_of, goes_by, told_by, event_rows, event_knows, event_same, some_due}
use Rattle.supervisor.proofs.watch.Watch.step_with_event.Goals as goal

pub lengths-after-requires : goal.lengths-after-requires
lengths-after-requires g c =
    let had : Held = (g.C.Backing.state c.args.cores.now).held in
    let has : Held = (g.C.Backing.state c.step_at.new.cores).held in
    subst (λ (us : List User). length us ≤ 30) (sym c.as_slice-2.ensures.value)
    (does_sound c.args.limit (run_seen had.places c.args.self.now.state) (run_seen has.places c.step_at.new.self) had has c.requires.time.early c.requires.watch.going.held.sound c.in-Ok.ensures.ended).few

pub returns-clause-texts : goal.returns-clause-texts
returns-clause-texts g c =
    let had : Held = (g.C.Backing.state c.args.cores.now).held in
    let has : Held = (g.C.Backing.state c.step_at.new.cores).held in
    let old : Run = run_seen had.places c.args.self.now.state in
    let new : Run = run_seen has.places c.step_at.new.self in
    let rows : List Shown = rows_of c.args.self.now.texts in
    let before : c.as_slice-5.result.now ≡ lengths_of old.system.users = c.as_slice-5.ensures.value ∙ c.lengths-before.ensures ∙ ap lengths_of c.as_slice.ensures.value in
    let after : c.as_slice-6.result.now ≡ lengths_of new.system.users = c.as_slice-6.ensures.value ∙ c.lengths-after.ensures ∙ ap lengths_of c.as_slice-2.ensures.value in
    let refused : c.refused_at.result ≡ refused_by new.system.entries = c.refused_at.ensures ∙ ap refused_by c.as_slice-4.ensures.value in
    let is : rows_of c.follow.new.self ≡ map (event_rows (lengths_of old.system.users) (lengths_of new.system.users) new) rows =
    c.follow.ensures.shown
    ∙ ap (λ (cs : List Console). map (followed cs c.refused_at.result c.as_slice-5.result.now c.as_slice-6.result.now) (rows_of c.reserve.new.self)) c.as_slice-3.ensures.value
    ∙ ap (λ (n : ℕ). map (followed new.system.consoles n c.as_slice-5.result.now c.as_slice-6.result.now) (rows_of c.reserve.new.self)) refused
    ∙ ap (λ (ls : List ℕ). map (followed new.system.consoles (refused_by new.system.entries) ls c.as_slice-6.result.now) (rows_of c.reserve.new.self)) before
    ∙ ap (λ (ls : List ℕ). map (followed new.system.consoles (refused_by new.system.entries) (lengths_of old.system.users) ls) (rows_of c.reserve.new.self)) after
    ∙ ap (map (event_rows (lengths_of old.system.users) (lengths_of new.system.users) new)) c.reserve.ensures.shown in
    let due = some_due _ c.requires.due in
    subst (λ (xs : List Shown). GoesOn c.args.limit old new (map (text_of (transcripts_of old.system.users)) rows) (map (text_of (transcripts_of new.system.users)) xs)) (sym is)
    (goes_by c.args.limit old new rows (event_rows (lengths_of old.system.users) (lengths_of new.system.users)) (event_knows c.args.limit old new rows due.0 due.1 c.requires.watch.going.held.sound c.requires.watch.matched)
    (event_same c.args.limit old new rows (lengths_of old.system.users) (lengths_of new.system.users)))

pub returns-clause-matched : goal.returns-clause-matched
returns-clause-matched g c =
    let had : Held = (g.C.Backing.state c.args.cores.now).held in
    let has : Held = (g.C.Backing.state c.step_at.new.cores).held in
    let old : Run = run_seen had.places c.args.self.now.state in
    let new : Run = run_seen has.places c.step_at.new.self in
    let rows : List Shown = rows_of c.args.self.now.texts in
    let before : c.as_slice-5.result.now ≡ lengths_of old.system.users = c.as_slice-5.ensures.value ∙ c.lengths-before.ensures ∙ ap lengths_of c.as_slice.ensures.value in
    let after : c.as_slice-6.result.now ≡ lengths_of new.system.users = c.as_slice-6.ensures.value ∙ c.lengths-after.ensures ∙ ap lengths_of c.as_slice-2.ensures.value in
    let refused : c.refused_at.result ≡ refused_by new.system.entries = c.refused_at.ensures ∙ ap refused_by c.as_slice-4.ensures.value in
    let is : rows_of c.follow.new.self ≡ map (event_rows (lengths_of old.system.users) (lengths_of new.system.users) new) rows =
    c.follow.ensures.shown
    ∙ ap (λ (cs : List Console). map (followed cs c.refused_at.result c.as_slice-5.result.now c.as_slice-6.result.now) (rows_of c.reserve.new.self)) c.as_slice-3.ensures.value
    ∙ ap (λ (n : ℕ). map (followed new.system.consoles n c.as_slice-5.result.now c.as_slice-6.result.now) (rows_of c.reserve.new.self)) refused
    ∙ ap (λ (ls : List ℕ). map (followed new.system.consoles (refused_by new.system.entries) ls c.as_slice-6.result.now) (rows_of c.reserve.new.self)) before
    ∙ ap (λ (ls : List ℕ). map (followed new.system.consoles (refused_by new.system.entries) (lengths_of old.system.users) ls) (rows_of c.reserve.new.self)) after
    ∙ ap (map (event_rows (lengths_of old.system.users) (lengths_of new.system.users) new)) c.reserve.ensures.shown in
    let due = some_due _ c.requires.due in
    subst (AreShown new.system.consoles (transcripts_of new.system.users)) (sym is)
    (told_by c.args.limit old new rows (event_rows (lengths_of old.system.users) (lengths_of new.system.users)) had has (event_knows c.args.limit old new rows due.0 due.1 c.requires.watch.going.held.sound c.requires.watch.matched)
    (event_same c.args.limit old new rows (lengths_of old.system.users) (lengths_of new.system.users)) c.in-Ok.ensures.ended)
