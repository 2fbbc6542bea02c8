use Rattle.std.proofs.Common.{arith}
use Rattle.cmd_program.proofs.Heads.{set_next, set_all}
use Rattle.cmd_program.proofs.saved.set_indexes.Goals as goal

pub loop-tag-preserved : goal.loop-tag-preserved
loop-tag-preserved c =
    set_next c.args.words.now c.args.regs.now _ _ c.loop-tag.tag _ (omega arith) (omega arith) c.requires.seven
    c.loop-tag.invariant c.index_in.ensures.value c.set_xr.ensures

pub returns : goal.returns
returns c = set_all c.args.words.now c.args.regs.now _ c.loop-tag.tag (omega arith) c.requires.seven c.loop-tag.invariant
