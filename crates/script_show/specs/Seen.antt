-- claim: what is seen of the streams that are handed in.
use Rattle.ctss_io.specs.declared.outside.Source.{Ghosts as InputGhosts}
use Rattle.ctss_io.specs.declared.outside.Sink.{Ghosts as OutputGhosts}
use Rattle.ctss_modes.specs.Devices.{input_seen, output_seen}
use Rattle.script_show.specs.Shown.{StreamsSeen}

abbrev pub streams : {S K : Type 0} → InputGhosts S → OutputGhosts K → S → K → StreamsSeen
streams s k input output = record { input = input_seen s input; output = output_seen k output }
