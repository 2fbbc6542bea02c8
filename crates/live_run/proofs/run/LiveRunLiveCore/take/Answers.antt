use Rattle.live_run.proofs.Taking.{takes_if, ready_if}
use Rattle.live_run.proofs.run.LiveRunLiveCore.take.Goals as goal

pub returns-clause-ok : goal.returns-clause-ok
returns-clause-ok g c =
    takes_if c.take.result c.args.event c.args.self.now.supervisor c.take.new.self _ _ (g.met.C.Backing.stays c.args.self.now.cores) c.take.ensures.ok c.take.ensures.texts c.take.ensures.same

pub returns-clause-sound : goal.returns-clause-sound
returns-clause-sound g c =
    (c.requires.sound.0, ready_if c.take.result c.args.event c.args.self.now.supervisor c.take.new.self _ c.take.ensures.ok c.take.ensures.err c.requires.sound.1)
