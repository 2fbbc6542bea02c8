use Rattle.std.proofs.Common.{◌<◌, length, ap, set, ◌∙◌, arith}
use Rattle.std.proofs.lemmas.List.Edits.{map_over_more}
use Rattle.time_sharing.specs.System.{out_of}
use Rattle.schedule_notes.proofs.notes.leave_consoles.Goals as goal

pub loop-i-preserved : goal.loop-i-preserved
loop-i-preserved c =
    let within : c.loop-i.i < length c.args.consoles.now.items = omega (arith, c.args.consoles.now.ok, c.loop-i-test.true, c.len-i-end.ensures) in
    record {
      items = ap (set c.loop-i.consoles.items c.loop-i.i) c.left_console.ensures ∙ map_over_more (out_of c.args.user) c.args.consoles.now.items c.loop-i.consoles.items c.loop-i.i c.index.result.now within c.loop-i.invariant.items c.index.ensures;
      len = c.loop-i.invariant.len;
    }
