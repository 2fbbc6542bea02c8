use Rattle.std.proofs.Common.{sym, ap, ◌∙◌}
use Rattle.user_session.specs.Turns.{IsTurn}
use Rattle.file_tracks.specs.Seen.{tells_of}
use Rattle.file_tracks.specs.Tracked.{tracked}
use Rattle.track_directories.specs.Tables.{quota_at}
use Rattle.track_directories.proofs.Tables.{user_within, if_ok_map, ready_at, quota_was, over_for, sound_at, serves_at}
use Rattle.track_directories.proofs.all.TrackDirectories.turn.Goals as goal

pub turn_over-requires-clause-ready : goal.turn_over-requires-clause-ready
turn_over-requires-clause-ready g c =
    let s = tracked g.F.Medium c.args.self.now.store in
    let ts = c.args.self.now.tables.items in
    let low = user_within s ts c.requires.can.directory.sound _ _ c.number.ensures.value c.requires.can.directory.within in
    record {
      ready = ready_at s ts c.requires.can.directory.sound c.number.result low c.index_mut-table.result.now c.index_mut-table.ensures.value;
      quota =
          sym (ap (quota_at ts) (sym c.number.ensures.value) ∙ quota_was s ts c.requires.can.directory.sound c.number.result low c.index_mut-table.result.now c.index_mut-table.ensures.value)
          ∙ c.requires.can.directory.tracks;
    }

pub returns-clause-turn : goal.returns-clause-turn
returns-clause-turn g c =
    let s = tracked g.F.Medium c.args.self.now.store in
    let ts = c.args.self.now.tables.items in
    let low = user_within s ts c.requires.can.directory.sound _ _ c.number.ensures.value c.requires.can.directory.within in
    let e = c.turn_over.ensures in
    if_ok_map c.turn_over.result
    (λ turn h.
    over_for s ts c.requires.can.directory.sound c.number.result low c.index_mut-table.result.now c.index_mut-table.ensures.value
    (tracked g.F.Medium c.turn_over.new.store) c.turn_over.new.table c.args.user c.number.ensures.value
    (tells_of s.contents) (g.M.MemoryPort.words c.args.core.now) (g.M.MemoryPort.words c.turn_over.new.core) (IsTurn turn c.args.now c.args.session.now c.turn_over.new.session) h)
    e.turn

pub returns-clause-served : goal.returns-clause-served
returns-clause-served g c =
    let s = tracked g.F.Medium c.args.self.now.store in
    let ts = c.args.self.now.tables.items in
    let low = user_within s ts c.requires.can.directory.sound _ _ c.number.ensures.value c.requires.can.directory.within in
    let old = c.index_mut-table.result.now in
    let is = c.index_mut-table.ensures.value in
    let new = tracked g.F.Medium c.turn_over.new.store in
    let leaves = c.turn_over.ensures.leaves in
    record {
      sound = sound_at s ts c.requires.can.directory.sound c.number.result low old is new c.turn_over.new.table c.turn_over.result leaves.one;
      same = leaves.same;
      serves = serves_at s ts c.requires.can.directory.sound c.number.result low old is new c.turn_over.new.table c.turn_over.result leaves.one c.args.user c.number.ensures.value c.number.ensures.range.0;
    }
