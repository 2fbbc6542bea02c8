-- claim: that the picture has owners for each load of the schedule, and no others.
use Rattle.std.specs.Prelude.{◌≡◌, length}
use Rattle.ctss_types.specs.declared.script.Script.{Script}
use Rattle.system_model.specs.Record.{record_of}
use Rattle.picture_model.specs.Cores.{load_ticks, owners_of}

abbrev pub AsManyAsLoads : Type 0
AsManyAsLoads = (script : Script) → length (owners_of script) ≡ length (load_ticks (record_of script).entries)
