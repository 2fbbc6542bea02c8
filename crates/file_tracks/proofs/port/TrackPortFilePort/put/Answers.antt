use Rattle.std.proofs.Common.{sym, rules}
use Rattle.file_model.specs.Files.{put}
use Rattle.file_tracks.specs.Tracked.{tracked}
use Rattle.file_tracks.proofs.Calls.{writes_left, writes_usable, writes_goes}
use Rattle.file_tracks.proofs.port.TrackPortFilePort.put.Goals as goal

pub returns-clause-left : goal.returns-clause-left
returns-clause-left g c =
    let d = c.args.self.now.table.now in
    writes_left (tracked g.F.Medium c.args.self.now.store.now) (tracked g.F.Medium c.put_in-answer.new.store) _ _ _ c.is_disk-self.result c.requires.usable (put c.args.name c.args.words.now d.quota) c.put_in-answer.result c.put_in-answer.ensures.writes

pub returns-clause-usable : goal.returns-clause-usable
returns-clause-usable g c = writes_usable (tracked g.F.Medium c.args.self.now.store.now) (tracked g.F.Medium c.put_in-answer.new.store) _ _ _ _ c.requires.usable _ c.put_in-answer.result c.put_in-answer.ensures.writes c.is_disk-self.ensures.yes

pub returns-clause-keeps : goal.returns-clause-keeps
returns-clause-keeps g c =
    let e = c.put_in-answer.ensures in (
      search rules,
      search rules,
      sym e.same,
      writes_goes (tracked g.F.Medium c.args.self.now.store.now) (tracked g.F.Medium c.put_in-answer.new.store) _ _ _ _ c.requires.usable _ c.put_in-answer.result e.writes c.is_disk-self.ensures.no,
    )
