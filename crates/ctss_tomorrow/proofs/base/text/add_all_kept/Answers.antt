use Rattle.std.proofs.Common.{[], ◌++◌, ◌+◌, refl, ap}
use Rattle.std.specs.List.{flat_map}
use Rattle.ctss_tomorrow.specs.Files.{kept_text}
use Rattle.ctss_tomorrow.proofs.KeptFiles.{text_from, owner_more, owners_done}
use Rattle.text_writer.proofs.Added.{◌⨾◌, adds_is, adds_none}
use Rattle.ctss_tomorrow.proofs.base.text.add_all_kept.Goals as goal

pub loop-index-init : goal.loop-index-init
loop-index-init g c = ([], adds_none g.K.Sink c.args.out.now, refl)

pub loop-index-preserved : goal.loop-index-preserved
loop-index-preserved g c = (
  c.loop-index.invariant.0 ++ flat_map (kept_text (c.loop-index.index + 1)) c.index-lists-index.result,
  c.loop-index.invariant.1 ⨾ adds_is (ap (flat_map (kept_text (c.loop-index.index + 1))) c.as_slice.ensures) c.add_kept.ensures,
  owner_more c.args.lists.now c.loop-index.index c.index-lists-index.result c.loop-index.invariant.0 (text_from 1 c.args.lists.now)
      c.loop-index-test.true c.index-lists-index.is c.loop-index.invariant.2,
)

pub returns : goal.returns
returns g c =
    adds_is (owners_done c.args.lists.now c.loop-index.index c.loop-index.invariant.0 (text_from 1 c.args.lists.now) c.loop-index-test.false c.loop-index.invariant.2)
    c.loop-index.invariant.1
