use Rattle.std.proofs.Common.{◌∙◌}
use Rattle.std.specs.Slice.Iter.{chunks_rest, chunks_size}
use Rattle.cmd_program.proofs.Groups.{one_line_more}
use Rattle.cmd_program.proofs.lines.lines_of.Goals as goal

pub loop-group-preserved : goal.loop-group-preserved
loop-group-preserved c =
    let steps = c.in-Some.ensures.steps in
    let size = c.loop-group.invariant.size in record {
      size = steps.0 ∙ size;
      lines =
          one_line_more c.loop-group.lines c.push.new.self c.line_of.result (chunks_rest c.loop-group.group-iterator) c.in-Some.group.now
          (chunks_rest c.next.new.self) (chunks_size c.loop-group.group-iterator) c.in_ok-push.ensures.ok c.line_of.ensures steps.1.0 steps.1.1 size steps.1.2
          ∙ c.loop-group.invariant.lines;
    }
