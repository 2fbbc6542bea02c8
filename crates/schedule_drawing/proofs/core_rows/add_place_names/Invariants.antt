use Rattle.std.proofs.Common.{take}
use Rattle.std.specs.List.{flat_map}
use Rattle.picture_model.specs.CorePanel.{place_name}
use Rattle.text_writer.specs.Writing.{Adds}
use Rattle.schedule_drawing.proofs.core_rows.add_place_names.Given as goal

abbrev pub invariant-loop-place : goal.invariant-loop-place
invariant-loop-place g l =
    Adds g.K.Sink (flat_map (place_name l.sheet.scale l.sheet.users) (take l.place-index l.places)) l.fn.out l.out
