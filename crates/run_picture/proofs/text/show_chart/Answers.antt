use Rattle.std.proofs.Common.{ℕ, List, map, ap}
use Rattle.system_model.specs.Record.{record_of}
use Rattle.picture_model.specs.Cores.{owner_in}
use Rattle.picture_model.specs.CoreLines.{chart_over, chart_with_core}
use Rattle.ctss_modes.specs.Devices.{output_seen}
use Rattle.run_picture.proofs.Drawn.{shows_same, shows_nothing}
use Rattle.run_picture.proofs.text.show_chart.Goals as goal

pub returns-in-Ok : goal.returns-in-Ok
returns-in-Ok g c =
    let script = c.args.script.now in
    shows_same (chart_over (map owner_in c.in-Ok.maps)) chart_with_core script
    (output_seen g.K.Sink c.args.sink.now) (output_seen g.K.Sink c.run_script.new.sink) c.run_script.result
    (ap (λ (owners : List (ℕ → ℕ)). chart_over owners script (record_of script)) c.in-Ok.ensures)
    c.run_script.ensures

pub returns-in-Err : goal.returns-in-Err
returns-in-Err g c = shows_nothing chart_with_core c.args.script.now (output_seen g.K.Sink c.args.sink.now) c.bare.result c.bare.ensures
