use Rattle.std.proofs.Common.{ℕ, List, map, ap}
use Rattle.system_model.specs.Record.{record_of}
use Rattle.picture_model.specs.Cores.{owner_in}
use Rattle.picture_model.specs.Picture.{drawing_over, drawing_of}
use Rattle.ctss_modes.specs.Devices.{output_seen}
use Rattle.run_picture.proofs.Drawn.{shows_same, shows_nothing}
use Rattle.run_picture.proofs.text.show_drawing.Goals as goal

pub returns-in-Ok : goal.returns-in-Ok
returns-in-Ok g c =
    let script = c.args.script.now in
    shows_same (drawing_over (map owner_in c.in-Ok.maps)) drawing_of script
    (output_seen g.K.Sink c.args.sink.now) (output_seen g.K.Sink c.run_script.new.sink) c.run_script.result
    (ap (λ (owners : List (ℕ → ℕ)). drawing_over owners script (record_of script)) c.in-Ok.ensures)
    c.run_script.ensures

pub returns-in-Err : goal.returns-in-Err
returns-in-Err g c = shows_nothing drawing_of c.args.script.now (output_seen g.K.Sink c.args.sink.now) c.bare.result c.bare.ensures
