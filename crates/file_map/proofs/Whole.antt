-- Where a disk tells its records, files are known whole.
use Rattle.std.proofs.Common.{◌≡◌, true, List, Ok, Err}
use Rattle.std.specs.declared.result.Result.{Result}
use Rattle.ctss_types.specs.declared.file.FileBody.{FileBody}
use Rattle.ctss_types.specs.declared.file.Refusal.{Refusal}
use Rattle.file_map.specs.declared.fault.PortFault.{PortFault}
use Rattle.file_map.specs.declared.fault.PortFault.TheVariants.{Refused, Disk, NoMemory}
use Rattle.file_map.specs.Answers.{Leaves}
use Rattle.file_map.specs.Known.{known, known_of}

pub leaves_whole : {T : Type 0} (result : Result T PortFault) (told : Result (List FileBody) Refusal) (old new : List FileBody)
    → Leaves result told old new → Leaves result (known_of true told) old new
unfolding known
leaves_whole (Ok x) told old new h = whole told h
  where
    whole : (told : Result (List FileBody) Refusal) → told ≡ Ok new → known_of true told ≡ Ok new
    whole (Ok files) h = h
    whole (Err r) h = h
leaves_whole (Err (Refused r)) told old new h = (whole told h.0, h.1)
  where
    whole : (told : Result (List FileBody) Refusal) → told ≡ Err r → known_of true told ≡ Err r
    whole (Ok files) h = h
    whole (Err s) h = h
leaves_whole (Err Disk) told old new h = tt
leaves_whole (Err NoMemory) told old new h = h
