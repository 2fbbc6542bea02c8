use Rattle.std.specs.Prelude.{max}
use Rattle.std.proofs.Common.{◌≡◌, ◌<◌, ◌≤◌, ◌+◌, ℕ, List, length, take, set, get_or, refl, ◌∙◌, sym, ap, subst, arith}
use Rattle.std.proofs.lemmas.List.{get_or_default}
use Rattle.std.proofs.lemmas.List.Elements.{All-get_or}
use Rattle.ctss_types.specs.declared.file.Refusal.TheVariants.{PastEnd, Quota}
use Rattle.file_model.specs.Files.{written, tracks_of_words}
use Rattle.file_tracks.specs.Stored.{body_on, files_on, HasTracks, IsWhole}
use Rattle.file_tracks.specs.Tracked.{tracked}
use Rattle.file_tracks.specs.Written.{CanRetake, AreRetaken, AreWrittenOver}
use Rattle.file_tracks.specs.declared.table.Filed.{Filed}
use Rattle.file_tracks.proofs.Tables.{content-length}
use Rattle.file_tracks.proofs.Puts.{within_used, words_on, can_retake}
use Rattle.file_tracks.proofs.Wrote.{write_passes}
use Rattle.file_tracks.proofs.Refusals.{written_past}
use Rattle.file_tracks.proofs.Leaves.{IsDone, writes_refused, writes_done, write_leaves}
use Rattle.file_tracks.proofs.writing.write_at.Goals as goal

pub overflow_add-place : goal.overflow_add-place
overflow_add-place g c =
    let w = words_on _ _ _ _ _ c.requires.ready.directory c.args.found.at c.index-file.result.now c.requires.at c.index-file.ensures in
    let small = c.requires.ready.small in
    let below = c.if-place-file.false in
    record { fits = omega (arith, w.0, w.1, small, below) }

pub tracks_for-after-requires : goal.tracks_for-after-requires
tracks_for-after-requires g c =
    let w = words_on _ _ _ _ _ c.requires.ready.directory c.args.found.at c.index-file.result.now c.requires.at c.index-file.ensures in
    let small = c.requires.ready.small in
    let below = c.if-place-file.false in
    let m = c.max-len.ensures in
    omega (arith, w.0, w.1, small, below, m)

pub used_after-requires-clause-before : goal.used_after-requires-clause-before
used_after-requires-clause-before g c =
    let a = within_used _ _ _ _ _ c.requires.ready.directory c.args.found.at c.index-file.result.now c.requires.at in
    let b = ap (λ (x : Filed). length x.tracks.items) c.index-file.ensures in
    let e = c.len-before.ensures in
    omega (arith, a, b, e)

pub returns-then-place-file-clause-writes : goal.returns-then-place-file-clause-writes
returns-then-place-file-clause-writes g c =
    let d = c.args.table.now in
    let fs = d.files.items in
    let at = c.args.found.at in
    let f = c.index-file.result.now in
    let mode = ap (λ (x : Filed). x.mode) c.index-file.ensures in
    let free = c.if-file-ge2.false in
    let words = ap (λ (x : Filed). x.words) c.index-file.ensures in
    let past = c.if-place-file.true in
    writes_refused (written c.args.found.name c.args.place c.args.words.now d.quota) (tracked g.F.Medium c.args.store.now) d c.requires.ready PastEnd
    (λ contents whole.
    let len = content-length contents (get_or fs at f) (All-get_or HasTracks fs at f c.requires.at c.requires.ready.directory.tracked) (All-get_or (IsWhole contents) fs at f c.requires.at whole) in
    written_past c.args.found.name c.args.words.now d.quota (files_on contents fs) (body_on contents (get_or fs at f)) (c.requires.found contents f) c.args.place (omega (arith, mode, free)) (omega (arith, len, words, past)))

pub returns-in_default-clause-writes : goal.returns-in_default-clause-writes
returns-in_default-clause-writes g c =
    let d = c.args.table.now in
    let e = c.len-before.ensures in
    let over = c.in_default.ensures in
    let tracks = c.tracks_for-after.ensures.value ∙ ap tracks_of_words c.max-len.ensures in
    writes_refused (written c.args.found.name c.args.place c.args.words.now d.quota) (tracked g.F.Medium c.args.store.now) d c.requires.ready Quota
    (write_passes _ _ d.quota d.used c.tracks_for-after.result d.files.items c.args.found.at c.index-file.result.now c.args.words.now c.args.place c.args.found.name c.requires.ready.directory c.requires.at c.index-file.ensures c.requires.found
    c.if-file-ge2.false c.if-place-file.false tracks (omega (arith, over, e)))

pub written_over-requires-clause-can : goal.written_over-requires-clause-can
written_over-requires-clause-can g c =
    let n = c.tracks_for-after.result in
    let ts = c.deref.ensures.value ∙ ap (λ (x : Filed). x.tracks.items) c.index-file.ensures in
    let sum = c.in-Some.ensures.0 in
    let before = c.len-before.ensures in
    let len = ap (λ (x : Filed). length x.tracks.items) c.index-file.ensures in
    subst (λ (us : List ℕ). CanRetake c.args.store.now.tracks.taken.items us n) (sym ts)
    (can_retake _ _ _ _ _ c.requires.ready.directory c.args.found.at c.index-file.result.now c.requires.at c.in-Some.used n (omega (arith, sum, before, len)) c.in-Some.ensures.1)

pub written_over-requires-clause-over : goal.written_over-requires-clause-over
written_over-requires-clause-over g c =
    let w = words_on _ _ _ _ _ c.requires.ready.directory c.args.found.at c.index-file.result.now c.requires.at c.index-file.ensures in
    let has = subst HasTracks (sym c.index-file.ensures) (All-get_or HasTracks _ c.args.found.at c.index-file.result.now c.requires.at c.requires.ready.directory.tracked) in
    let ts = ap length c.deref.ensures.value in
    let quota = c.requires.ready.small in
    let below = c.if-place-file.false in
    let m = c.max-len.ensures in
    let n = c.tracks_for-after.ensures in
    record {
      more = (let v = n.value in omega (arith, has, ts, m, v));
      small = (let v = n.small in omega (arith, w.0, w.1, quota, below, m, v));
      inside = (let v = n.enough in omega (arith, m, v));
    }

pub returns-clause-writes : goal.returns-clause-writes
returns-clause-writes g c =
    let s = tracked g.F.Medium c.args.store.now in
    let s' = tracked g.F.Medium c.written_over.new.store in
    let d = c.args.table.now in
    let fs = d.files.items in
    let at = c.args.found.at in
    let f = c.index_mut-file.result.now in
    let v = c.in-Ok.tracks in
    let ws = c.args.words.now in
    let place = c.args.place in
    let n = c.tracks_for-after.result in
    let e = c.in-Ok.ensures in
    let told = written c.args.found.name place ws d.quota in
    let is = c.index_mut-file.ensures.value in
    let same : c.index-file.result.now ≡ f = c.index-file.ensures ∙ get_or_default fs at c.index-file.result.now f c.requires.at ∙ sym is in
    let ts : c.deref.result.now ≡ f.tracks.items = c.deref.ensures.value ∙ ap (λ (x : Filed). x.tracks.items) same in
    let len_is : max f.words (place + length ws) ≡ c.max-len.result = ap (λ (x : Filed). max x.words (place + length ws)) (sym same) ∙ sym c.max-len.ensures in
    let tracks : n ≡ tracks_of_words (max f.words (place + length ws)) = c.tracks_for-after.ensures.value ∙ ap tracks_of_words (sym len_is) in
    let below : place ≤ f.words = (let a = c.if-place-file.false in let b = ap (λ (x : Filed). x.words) same in omega (arith, a, b)) in
    let sum : c.in-Some.used + length f.tracks.items ≡ d.used + n = (let a = c.in-Some.ensures.0 in let b = c.len-before.ensures in let t = ap (λ (x : Filed). length x.tracks.items) same in omega (arith, a, b, t)) in
    let free : f.mode < 2 = (let a = c.if-file-ge2.false in let b = ap (λ (x : Filed). x.mode) same in omega (arith, a, b)) in
    writes_done g.F.Medium told c.args.store.now c.written_over.new.store d _ c.requires.ready c.written_over.result c.written_over.ensures.store refl
    (subst (λ (k : ℕ). IsDone told s.contents s'.contents s.taken s'.taken d.quota d.used fs c.in-Some.used (set fs at (record { name = f.name; mode = f.mode; words = k; tracks = v }))) len_is
    (write_leaves s d c.requires.ready s'.contents s'.taken c.in-Some.used n v ws c.args.found.name c.written_over.ensures.store.many c.in-Some.ensures.1 at f c.requires.at is c.requires.found free
    (subst (λ (us : List ℕ). AreRetaken s.taken s'.taken us v.items n) ts e.retaken) sum place tracks
    (subst (λ (us : List ℕ). take (length us) v.items ≡ us) ts e.front) below (subst (λ (us : List ℕ). AreWrittenOver place ws us v.items s.contents s'.contents) ts e.written)))
