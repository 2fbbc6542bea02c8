use Rattle.std.proofs.Common.{take}
use Rattle.std.specs.List.{flat_map}
use Rattle.picture_model.specs.Drawing.{level_name}
use Rattle.text_writer.specs.Writing.{Adds}
use Rattle.schedule_drawing.proofs.ruler.add_level_names.Given as goal

abbrev pub invariant-loop-level : goal.invariant-loop-level
invariant-loop-level g l =
    Adds g.K.Sink (flat_map (level_name l.sheet.scale l.sheet.users) (take l.level-index l.levels)) l.fn.out l.out
