use Rattle.std.proofs.lemmas.List.{get_or_default}
use Rattle.std.proofs.Common.{◌≡◌, ◌+◌, ◌<◌, ℕ, List, length, refl, ◌∙◌, sym, ap, subst, arith}
use Rattle.ctss_types.specs.declared.file.Refusal.TheVariants.{Quota}
use Rattle.file_model.specs.Files.{put}
use Rattle.file_tracks.specs.Tracked.{tracked}
use Rattle.file_tracks.specs.Written.{CanRetake, AreRetaken}
use Rattle.file_tracks.specs.declared.table.Filed.{Filed}
use Rattle.file_tracks.proofs.Puts.{within_used, can_retake, put_passes}
use Rattle.file_tracks.proofs.Leaves.{writes_refused, writes_done, put_leaves}
use Rattle.file_tracks.proofs.writing.replace_in.Goals as goal

pub used_after-requires-clause-before : goal.used_after-requires-clause-before
used_after-requires-clause-before g c =
    let a = within_used _ _ _ _ _ c.requires.ready.directory c.args.found.at c.index-file.result.now c.requires.at in
    let b = ap (λ (x : Filed). length x.tracks.items) c.index-file.ensures in
    let e = c.len-before.ensures in
    omega (arith, a, b, e)

pub rewritten-requires-clause-can : goal.rewritten-requires-clause-can
rewritten-requires-clause-can g c =
    let n = c.tracks_for-after.result in
    let ts = c.deref.ensures.value ∙ ap (λ (x : Filed). x.tracks.items) c.index-file.ensures in
    let sum = c.in-Some.ensures.0 in
    let before = c.len-before.ensures in
    let len = ap (λ (x : Filed). length x.tracks.items) c.index-file.ensures in
    subst (λ (us : List ℕ). CanRetake c.args.store.now.tracks.taken.items us n) (sym ts)
    (can_retake _ _ _ _ _ c.requires.ready.directory c.args.found.at c.index-file.result.now c.requires.at c.in-Some.used n (omega (arith, sum, before, len)) c.in-Some.ensures.1)

pub returns-in_default-clause-writes : goal.returns-in_default-clause-writes
returns-in_default-clause-writes g c =
    let d = c.args.table.now in
    let e = c.len-before.ensures in
    let over = c.in_default.ensures in
    writes_refused (put c.args.found.name c.args.words.now d.quota) (tracked g.F.Medium c.args.store.now) d c.requires.ready Quota
    (put_passes _ _ d.quota d.used c.tracks_for-after.result d.files.items c.args.found.at c.index-file.result.now c.args.words.now c.args.found.name c.requires.ready.directory c.requires.at c.index-file.ensures c.requires.found
    (omega (arith, c.if-file-ge2.false)) c.tracks_for-after.ensures.value (omega (arith, over, e)))

pub returns-clause-writes : goal.returns-clause-writes
returns-clause-writes g c =
    let s = tracked g.F.Medium c.args.store.now in
    let s' = tracked g.F.Medium c.rewritten.new.store in
    let d = c.args.table.now in
    let fs = d.files.items in
    let at = c.args.found.at in
    let f = c.index_mut-file.result.now in
    let v = c.in-Ok.tracks in
    let n = c.tracks_for-after.result in
    let is = c.index_mut-file.ensures.value in
    let same : c.index-file.result.now ≡ f = c.index-file.ensures ∙ get_or_default fs at c.index-file.result.now f c.requires.at ∙ sym is in
    let ts : c.deref.result.now ≡ f.tracks.items = c.deref.ensures.value ∙ ap (λ (x : Filed). x.tracks.items) same in
    let sum : c.in-Some.used + length f.tracks.items ≡ d.used + n = (let a = c.in-Some.ensures.0 in let b = c.len-before.ensures in let e = ap (λ (x : Filed). length x.tracks.items) same in omega (arith, a, b, e)) in
    let free : f.mode < 2 = (let a = c.if-file-ge2.false in let e = ap (λ (x : Filed). x.mode) same in omega (arith, a, e)) in
    writes_done g.F.Medium (put c.args.found.name c.args.words.now d.quota) c.args.store.now c.rewritten.new.store d _ c.requires.ready c.rewritten.result c.rewritten.ensures.store refl
    (put_leaves s d c.requires.ready s'.contents s'.taken c.in-Some.used n v c.args.words.now c.args.found.name c.rewritten.ensures.store.many c.in-Some.ensures.1 at f c.requires.at is c.requires.found free
    (subst (λ (us : List ℕ). AreRetaken s.taken s'.taken us v.items n) ts c.in-Ok.ensures.retaken) sum c.tracks_for-after.ensures.value c.in-Ok.ensures.written)
