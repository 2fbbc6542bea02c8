use Rattle.std.proofs.Common.{◌<◌, length, arith}
use Rattle.file_tracks.specs.Tracked.{tracked}
use Rattle.track_directories.proofs.Tables.{ready_at, sound_at, shares_at}
use Rattle.track_directories.proofs.all.TrackDirectories.share.Goals as goal

pub share_over-requires : goal.share_over-requires
share_over-requires g c =
    let s = tracked g.F.Medium c.args.self.now.store in
    let ts = c.args.self.now.tables.items in
    let low : 0 < length ts = let some = c.requires.sound.some in omega (arith, some) in
    ready_at s ts c.requires.sound 0 low c.index_mut.result.now c.index_mut.ensures.value

pub returns-clause-shares : goal.returns-clause-shares
returns-clause-shares g c =
    let s = tracked g.F.Medium c.args.self.now.store in
    let ts = c.args.self.now.tables.items in
    let low : 0 < length ts = let some = c.requires.sound.some in omega (arith, some) in
    let e = c.share_over.ensures in
    shares_at s ts c.requires.sound low c.index_mut.result.now c.index_mut.ensures.value (tracked g.F.Medium c.share_over.new.store) c.share_over.new.table c.share_over.result e.leaves.one
    c.args.op.now e.done e.fits

pub returns-clause-sound : goal.returns-clause-sound
returns-clause-sound g c =
    let s = tracked g.F.Medium c.args.self.now.store in
    let ts = c.args.self.now.tables.items in
    let low : 0 < length ts = let some = c.requires.sound.some in omega (arith, some) in
    sound_at s ts c.requires.sound 0 low c.index_mut.result.now c.index_mut.ensures.value (tracked g.F.Medium c.share_over.new.store) c.share_over.new.table c.share_over.result c.share_over.ensures.leaves.one
