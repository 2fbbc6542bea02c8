use Rattle.std.proofs.Common.{ap}
use Rattle.file_tracks.specs.Tracked.{tracked}
use Rattle.track_directories.proofs.Tables.{user_within, ready_at, drops_at, sound_then}
use Rattle.track_directories.proofs.Dropped.{one_dropped, left_seen}
use Rattle.track_directories.proofs.all.TrackDirectories.drop_temporary.Goals as goal

pub drop_temporary-requires-clause-usable : goal.drop_temporary-requires-clause-usable
drop_temporary-requires-clause-usable g c =
    let s = tracked g.F.Medium c.args.self.now.store in
    let ts = c.args.self.now.tables.items in
    let low = user_within s ts c.requires.sound _ _ c.number.ensures.value c.requires.user in
    (ready_at s ts c.requires.sound c.number.result low c.index_mut.result.now c.index_mut.ensures.value).directory

pub returns-clause-drops : goal.returns-clause-drops
returns-clause-drops g c =
    let s = tracked g.F.Medium c.args.self.now.store in
    let new = tracked g.F.Medium c.drop_temporary.new.store in
    let ts = c.args.self.now.tables.items in
    let d = c.index_mut.result.now in
    let d' = c.drop_temporary.new.self in
    let value = c.index_mut.ensures.value in
    let low = user_within s ts c.requires.sound _ _ c.number.ensures.value c.requires.user in
    let ready = ready_at s ts c.requires.sound c.number.result low d value in
    let e = c.drop_temporary.ensures in
    let a = c.args.self.now.store in
    let b = c.drop_temporary.new.store in
    drops_at s ts c.requires.sound c.number.result low d value new d'
    (one_dropped g.F.Medium a b d d' ready e.frees e.now) (ap g.F.Medium.faults e.now) (left_seen g.F.Medium a b d d' ready e.frees e.now e.left)
    c.args.user c.number.ensures.value c.number.ensures.range.0

pub returns-clause-sound : goal.returns-clause-sound
returns-clause-sound g c =
    let s = tracked g.F.Medium c.args.self.now.store in
    let new = tracked g.F.Medium c.drop_temporary.new.store in
    let ts = c.args.self.now.tables.items in
    let d = c.index_mut.result.now in
    let d' = c.drop_temporary.new.self in
    let value = c.index_mut.ensures.value in
    let low = user_within s ts c.requires.sound _ _ c.number.ensures.value c.requires.user in
    let ready = ready_at s ts c.requires.sound c.number.result low d value in
    let e = c.drop_temporary.ensures in
    let a = c.args.self.now.store in
    let b = c.drop_temporary.new.store in
    sound_then s ts c.requires.sound c.number.result low d value new d'
    (one_dropped g.F.Medium a b d d' ready e.frees e.now) (ap g.F.Medium.faults e.now) (left_seen g.F.Medium a b d d' ready e.frees e.now e.left)
