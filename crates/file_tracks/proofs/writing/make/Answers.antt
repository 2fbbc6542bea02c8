use Rattle.std.proofs.Common.{◌≡◌, ◌+◌, ◌++◌, ◌∷◌, [], ℕ, List, length, ◌∙◌, sym, ap, subst, arith}
use Rattle.ctss_types.specs.declared.file.FileBody.{FileBody}
use Rattle.ctss_types.specs.declared.file.Refusal.TheVariants.{Quota}
use Rattle.file_model.specs.Files.{if_they_fit, with_new}
use Rattle.file_tracks.specs.Tracked.{tracked}
use Rattle.file_tracks.specs.declared.table.Filed.{Filed}
use Rattle.file_tracks.proofs.Made.{made_passes}
use Rattle.file_tracks.proofs.Leaves.{IsDone, writes_refused, writes_done, made_leaves}
use Rattle.file_tracks.proofs.writing.make.Goals as goal

pub returns-in_default-clause-writes : goal.returns-in_default-clause-writes
returns-in_default-clause-writes g c =
    let d = c.args.table.now in
    let over = c.in_default.ensures in
    writes_refused (λ (files : List FileBody). if_they_fit d.quota (with_new c.args.name c.args.words.now files)) (tracked g.F.Medium c.args.store.now) d c.requires.ready Quota
    (made_passes _ _ d.quota d.used c.tracks_for-after.result d.files.items c.args.words.now c.args.name c.requires.ready.directory c.tracks_for-after.ensures.value (omega (arith, over)))

pub returns-clause-writes : goal.returns-clause-writes
returns-clause-writes g c =
    let s = tracked g.F.Medium c.args.store.now in
    let s' = tracked g.F.Medium c.rewritten.new.store in
    let d = c.args.table.now in
    let fs = d.files.items in
    let told = λ (files : List FileBody). if_they_fit d.quota (with_new c.args.name c.args.words.now files) in
    let e = c.in-Ok-rewritten.ensures in
    let new : Filed = record { name = c.args.name; mode = 1; words = length c.args.words.now; tracks = c.in-Ok-rewritten.tracks } in
    let items : c.add_file.new.table.files.items ≡ fs ++ new ∷ [] = c.add_file.ensures.files ∙ ap (λ (xs : List Filed). xs ++ new ∷ []) c.room_for_file.ensures.files in
    let sum : c.in-Some.used ≡ d.used + c.tracks_for-after.result = (let a = c.in-Some.ensures.0 in omega (arith, a)) in
    writes_done g.F.Medium told c.args.store.now c.rewritten.new.store d c.add_file.new.table c.requires.ready c.rewritten.result c.rewritten.ensures.store (c.add_file.ensures.quota ∙ c.room_for_file.ensures.quota)
    (subst (λ (xs : List Filed). IsDone told s.contents s'.contents s.taken s'.taken d.quota d.used fs c.add_file.new.table.used xs) (sym items)
    (subst (λ (u : ℕ). IsDone told s.contents s'.contents s.taken s'.taken d.quota d.used fs u (fs ++ new ∷ [])) (sym c.add_file.ensures.used)
    (made_leaves s d c.requires.ready s'.contents s'.taken c.in-Some.used c.tracks_for-after.result c.in-Ok-rewritten.tracks c.args.words.now c.args.name c.rewritten.ensures.store.many c.in-Some.ensures.1
    c.tracks_for-after.ensures.value e.retaken e.written sum c.requires.absent)))
