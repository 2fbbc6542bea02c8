use Rattle.std.proofs.Common.{rules, ◌≡◌, ◌≤◌, List, length, map, sym, ap, subst, ◌∙◌}
use Rattle.time_sharing.specs.System.{Console}
use Rattle.user_model.specs.User.{User}
use Rattle.system_model.specs.Run.{Run}
use Rattle.user_cores.specs.Backing.{Held}
use Rattle.console_texts.specs.Parts.{Shown, text_of}
use Rattle.console_texts.specs.Following.{AreShown, settled_in}
use Rattle.console_texts.specs.Watching.{transcripts_of}
use Rattle.supervisor.specs.Seen.{run_seen}
use Rattle.supervisor.specs.Shows.{GoesOn, rows_of}
use Rattle.supervisor.proofs.Doing.{does_sound}
use Rattle.supervisor.proofs.Watching.{lengths_of, goes_by, told_by, rest_rows, rest_knows, rest_same, served_goes, served_told}
use Rattle.supervisor.proofs.watch.Watch.step_without_event.Goals as goal

pub settle_texts-requires : goal.settle_texts-requires
settle_texts-requires g c =
    let had : Held = (g.C.Backing.state c.args.cores.now).held in
    let has : Held = (g.C.Backing.state c.step_on.new.cores).held in
    subst (λ (us : List User). length us ≤ 30) (sym c.as_slice-2.ensures.value)
    (does_sound c.args.limit (run_seen had.places c.args.self.now.state) (run_seen has.places c.step_on.new.self) had has c.requires.time.early c.requires.watch.going.held.sound c.in-Ok.ensures.ended).few

pub returns-clause-texts : goal.returns-clause-texts
returns-clause-texts g c =
    let had : Held = (g.C.Backing.state c.args.cores.now).held in
    let has : Held = (g.C.Backing.state c.step_on.new.cores).held in
    let old : Run = run_seen had.places c.args.self.now.state in
    let new : Run = run_seen has.places c.step_on.new.self in
    let rows : List Shown = rows_of c.args.self.now.texts in
    let is : rows_of c.settle_texts.new.texts ≡ map (rest_rows (lengths_of new.system.users) new) rows =
    c.settle_texts.ensures ∙ ap (λ (cs : List Console). map (settled_in cs (lengths_of c.as_slice-2.result.now)) rows) c.as_slice.ensures.value
    ∙ ap (λ (us : List User). map (settled_in c.step_on.new.self.consoles.items (lengths_of us)) rows) c.as_slice-2.ensures.value in
    subst (λ (xs : List Shown). GoesOn c.args.limit old new (map (text_of (transcripts_of old.system.users)) rows) (map (text_of (transcripts_of new.system.users)) xs)) (sym is)
    (goes_by c.args.limit old new rows (rest_rows (lengths_of new.system.users)) (rest_knows c.args.limit old new rows c.requires.quiet c.requires.watch.going.held.sound c.requires.watch.matched) (rest_same c.args.limit old new rows (lengths_of new.system.users)))

pub returns-clause-matched : goal.returns-clause-matched
returns-clause-matched g c =
    let had : Held = (g.C.Backing.state c.args.cores.now).held in
    let has : Held = (g.C.Backing.state c.step_on.new.cores).held in
    let old : Run = run_seen had.places c.args.self.now.state in
    let new : Run = run_seen has.places c.step_on.new.self in
    let rows : List Shown = rows_of c.args.self.now.texts in
    let is : rows_of c.settle_texts.new.texts ≡ map (rest_rows (lengths_of new.system.users) new) rows =
    c.settle_texts.ensures ∙ ap (λ (cs : List Console). map (settled_in cs (lengths_of c.as_slice-2.result.now)) rows) c.as_slice.ensures.value
    ∙ ap (λ (us : List User). map (settled_in c.step_on.new.self.consoles.items (lengths_of us)) rows) c.as_slice-2.ensures.value in
    subst (AreShown new.system.consoles (transcripts_of new.system.users)) (sym is)
    (told_by c.args.limit old new rows (rest_rows (lengths_of new.system.users)) had has (rest_knows c.args.limit old new rows c.requires.quiet c.requires.watch.going.held.sound c.requires.watch.matched) (rest_same c.args.limit old new rows (lengths_of new.system.users)) c.in-Ok.ensures.ended)

pub returns-then-is_some-clause-texts : goal.returns-then-is_some-clause-texts
returns-then-is_some-clause-texts g c =
    let had : Held = (g.C.Backing.state c.args.cores.now).held in
    let has : Held = (g.C.Backing.state c.step_on.new.cores).held in
    served_goes c.args.limit (run_seen had.places c.args.self.now.state) (run_seen has.places c.step_on.new.self) (rows_of c.args.self.now.texts) c.requires.quiet c.requires.watch.going.held.sound (search rules) c.requires.watch.matched

pub returns-then-is_some-clause-matched : goal.returns-then-is_some-clause-matched
returns-then-is_some-clause-matched g c =
    let had : Held = (g.C.Backing.state c.args.cores.now).held in
    let has : Held = (g.C.Backing.state c.step_on.new.cores).held in
    served_told c.args.limit (run_seen had.places c.args.self.now.state) (run_seen has.places c.step_on.new.self) had has (rows_of c.args.self.now.texts) c.requires.quiet c.requires.watch.going.held.sound (search rules) c.requires.watch.matched c.in-Ok.ensures.ended
