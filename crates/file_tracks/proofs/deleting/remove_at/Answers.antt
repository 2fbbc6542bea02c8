use Rattle.std.specs.Prelude.{Option}
use Rattle.std.specs.List.{All, IsDistinct, remove}
use Rattle.std.proofs.Common.{◌≡◌, ◌≤◌, ◌-◌, ℕ, refl, List, map, length, ◌∙◌, sym, ap, subst, arith}
use Rattle.faults.specs.Faults.{WhereTold}
use Rattle.ctss_types.specs.Names.{NamePair}
use Rattle.file_model.specs.Files.{same_name}
use Rattle.file_tracks.specs.Places.{count_in, bit}
use Rattle.file_tracks.specs.Stored.{occurs, HasTracks, HasMode, IsWhole, IsDirectory}
use Rattle.file_tracks.specs.declared.table.Filed.{Filed}
use Rattle.file_tracks.proofs.Told.{told_map}
use Rattle.file_tracks.proofs.After.{after_taking}
use Rattle.file_tracks.proofs.Puts.{within_used, old_bits}
use Rattle.file_tracks.proofs.Removes.{occurs-remove, used-remove, all-remove, names-remove, distinct-remove}
use Rattle.file_tracks.proofs.deleting.remove_at.Goals as goal

pub overflow_cast-tracks : goal.overflow_cast-tracks
overflow_cast-tracks g c =
    let fs = c.args.table.now.files.items in
    let low = c.requires.at in
    let w = within_used _ _ _ _ fs c.requires.usable c.args.at c.index-file.result.now low in
    let t = ap (λ (x : Filed). length x.tracks.items) c.index-file.ensures in
    let e = c.len-tracks.ensures in
    let small = c.requires.small in
    record { fits = omega (arith, w, t, e, small) }

pub overflow_sub-table : goal.overflow_sub-table
overflow_sub-table g c =
    let fs = c.args.table.now.files.items in
    let low = c.requires.at in
    let w = within_used _ _ _ _ fs c.requires.usable c.args.at c.index-file.result.now low in
    let t = ap (λ (x : Filed). length x.tracks.items) c.index-file.ensures in
    let e = c.len-tracks.ensures in
    omega (arith, w, t, e)

pub give_all-requires : goal.give_all-requires
give_all-requires g c =
    let fs = c.args.table.now.files.items in
    let taken = c.args.store.now.tracks.taken.items in
    let low = c.requires.at in
    let ts = c.deref.ensures.value ∙ ap (λ (x : Filed). x.tracks.items) c.index-file.ensures in
    record { bits = λ t. subst (λ (us : List ℕ). count_in t us ≤ bit taken t) (sym ts) (old_bits _ _ _ _ _ c.requires.usable c.args.at c.index-file.result.now low t) }

pub returns-clause-frees : goal.returns-clause-frees
returns-clause-frees g c =
    let d = c.args.table.now in
    let fs = d.files.items in
    let at = c.args.at in
    let f = c.index-file.result.now in
    let h = c.requires.usable in
    let e = c.give_all.ensures in
    let low = c.requires.at in
    let taken' = c.give_all.new.store.tracks.taken.items in
    let tracks = c.deref.ensures.value ∙ ap (λ (x : Filed). x.tracks.items) c.index-file.ensures in
    let len = c.len-tracks.ensures in
    let lf = ap (λ (x : Filed). length x.tracks.items) c.index-file.ensures in
    let lt = ap length tracks in
    let w = within_used _ _ _ _ fs h at f low in
    let o = g.F.Medium.contents c.args.store.now.disk.now in
    let same : g.F.Medium.contents c.give_all.new.store.disk.now ≡ o = ap g.F.Medium.contents e.now in
    record {
      on =
          subst (λ (xs : List Filed). IsDirectory (g.F.Medium.contents c.give_all.new.store.disk.now) taken' d.quota (d.used - c.len-tracks.result) xs) (sym c.remove.ensures.items)
          (record {
            once = λ t.
                (let a = h.once t in let b = e.bits t in let ts = ap (count_in t) tracks in let r = occurs-remove t fs at f low in omega (arith, a, b, ts, r));
            few = (let a = h.few in omega (arith, a));
            room = (let a = h.room in let b = e.counts in let m = e.many in omega (arith, a, b, m, len, lf, lt, w));
            counted = (let a = h.counted in let u = used-remove fs at f low in omega (arith, a, u, len, lf));
            tracked = all-remove HasTracks fs at h.tracked;
            modes = all-remove HasMode fs at h.modes;
            differ = subst (λ (ns : List NamePair). IsDistinct same_name ns) (sym (names-remove fs at)) (distinct-remove (map (λ (x : Filed). x.name) fs) at h.differ);
            whole = subst (λ (o : Option (List (List ℕ))). WhereTold o (λ contents. All (IsWhole contents) (remove fs at))) (sym same)
                (told_map _ _ _ (λ contents all. all-remove (IsWhole contents) fs at all) h.whole);
          });
      after =
          after_taking o (g.F.Medium.contents c.give_all.new.store.disk.now) c.args.store.now.tracks.taken.items taken' d _ same e.many (let a = e.counts in omega (arith, a, lt, len, lf, w))
          (λ others beside t.
          (let a = beside t in let b = e.bits t in let ts = ap (count_in t) tracks in let r = occurs-remove t fs at f low in let i = ap (occurs t) c.remove.ensures.items in omega (arith, a, b, ts, r, i)));
      quota = refl;
      less = omega arith;
    }
