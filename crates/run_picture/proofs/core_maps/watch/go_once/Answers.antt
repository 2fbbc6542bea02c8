use Rattle.run_picture.proofs.Runs.{went, lasts}
use Rattle.run_picture.proofs.core_maps.watch.go_once.Goals as goal

pub returns-clause-usable : goal.returns-clause-usable
returns-clause-usable g c = lasts c.advance_once.result _ c.advance_once.ensures.usable

pub returns-clause-steps : goal.returns-clause-steps
returns-clause-steps g c = went c.args.limit c.advance_once.result _ _ c.requires.tells c.advance_once.ensures.once
