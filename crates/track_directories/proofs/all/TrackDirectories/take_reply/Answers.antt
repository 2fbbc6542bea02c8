use Rattle.std.proofs.Common.{List, sym, ap, subst, ◌∙◌}
use Rattle.ctss_types.specs.declared.file.CommonOp.{CommonOp}
use Rattle.ctss_types.specs.declared.file.FileBody.{FileBody}
use Rattle.user_session.specs.Stores.{stored, IsToMake}
use Rattle.user_session.specs.Turns.{IsReplied}
use Rattle.file_tracks.specs.Seen.{tells_of}
use Rattle.file_tracks.specs.Tracked.{tracked}
use Rattle.track_directories.specs.Tables.{files_at, quota_at}
use Rattle.track_directories.proofs.Tables.{user_within, if_ok_map, ready_at, quota_was, mine_was, over_for, sound_at, serves_at}
use Rattle.track_directories.proofs.all.TrackDirectories.take_reply.Goals as goal

pub reply_over-requires-clause-ready : goal.reply_over-requires-clause-ready
reply_over-requires-clause-ready g c =
    let s = tracked g.F.Medium c.args.self.now.store in
    let ts = c.args.self.now.tables.items in
    let low = user_within s ts c.requires.can.directory.sound _ _ c.number.ensures.value c.requires.can.directory.within in
    record {
      ready = ready_at s ts c.requires.can.directory.sound c.number.result low c.index_mut-table.result.now c.index_mut-table.ensures.value;
      quota =
          sym (ap (quota_at ts) (sym c.number.ensures.value) ∙ quota_was s ts c.requires.can.directory.sound c.number.result low c.index_mut-table.result.now c.index_mut-table.ensures.value)
          ∙ c.requires.can.directory.tracks;
    }

pub reply_over-requires-clause-asks : goal.reply_over-requires-clause-asks
reply_over-requires-clause-asks g c =
    let s = tracked g.F.Medium c.args.self.now.store in
    let ts = c.args.self.now.tables.items in
    let low = user_within s ts c.requires.can.directory.sound _ _ c.number.ensures.value c.requires.can.directory.within in
    let was = ap (files_at s.contents ts) (sym c.number.ensures.value) ∙ mine_was s ts c.requires.can.directory.sound c.number.result low c.index_mut-table.result.now c.index_mut-table.ensures.value in
    subst (λ (fs : List FileBody). (op : CommonOp) × IsToMake (tells_of s.contents) (stored (g.M.MemoryPort.words c.args.core.now) fs) op c.args.session.now) was c.requires.asks

pub returns-clause-step : goal.returns-clause-step
returns-clause-step g c = λ op makes.
    let s = tracked g.F.Medium c.args.self.now.store in
    let ts = c.args.self.now.tables.items in
    let low = user_within s ts c.requires.can.directory.sound _ _ c.number.ensures.value c.requires.can.directory.within in
    let was = ap (files_at s.contents ts) (sym c.number.ensures.value) ∙ mine_was s ts c.requires.can.directory.sound c.number.result low c.index_mut-table.result.now c.index_mut-table.ensures.value in
    let words = g.M.MemoryPort.words c.args.core.now in
    if_ok_map c.reply_over.result
    (λ step h.
    over_for s ts c.requires.can.directory.sound c.number.result low c.index_mut-table.result.now c.index_mut-table.ensures.value
    (tracked g.F.Medium c.reply_over.new.store) c.reply_over.new.table c.args.user c.number.ensures.value
    (tells_of s.contents) words (g.M.MemoryPort.words c.reply_over.new.core) (IsReplied step op c.args.reply.now c.args.now c.args.session.now c.reply_over.new.session) h)
    (c.reply_over.ensures.step op (subst (λ (fs : List FileBody). IsToMake (tells_of s.contents) (stored words fs) op c.args.session.now) was makes))

pub returns-clause-served : goal.returns-clause-served
returns-clause-served g c =
    let s = tracked g.F.Medium c.args.self.now.store in
    let ts = c.args.self.now.tables.items in
    let low = user_within s ts c.requires.can.directory.sound _ _ c.number.ensures.value c.requires.can.directory.within in
    let old = c.index_mut-table.result.now in
    let is = c.index_mut-table.ensures.value in
    let new = tracked g.F.Medium c.reply_over.new.store in
    let leaves = c.reply_over.ensures.leaves in
    record {
      sound = sound_at s ts c.requires.can.directory.sound c.number.result low old is new c.reply_over.new.table c.reply_over.result leaves.one;
      same = leaves.same;
      serves = serves_at s ts c.requires.can.directory.sound c.number.result low old is new c.reply_over.new.table c.reply_over.result leaves.one c.args.user c.number.ensures.value c.number.ensures.range.0;
    }
