-- proof: what a call on a directory answers and leaves, by what its definition tells: a call may also fail at the disk or want memory.
use Rattle.std.specs.Prelude.{◌≡◌, List, Ok, Err}
use Rattle.std.specs.declared.result.Result.{Result}
use Rattle.ctss_types.specs.declared.file.FileBody.{FileBody}
use Rattle.ctss_types.specs.declared.file.Refusal.{Refusal}
use Rattle.file_map.specs.declared.fault.PortFault.{PortFault}
use Rattle.file_map.specs.declared.fault.PortFault.TheVariants.{Refused, Disk, NoMemory}

-- an answer is the told one, unless disk or memory failed
abbrev pub Answers : {T : Type 0} → Result T PortFault → Result T Refusal → Type 0
Answers (Ok x) told = told ≡ Ok x
Answers (Err (Refused r)) told = told ≡ Err r
Answers (Err Disk) told = Unit {0}
Answers (Err NoMemory) told = Unit {0}

-- after Ok the files are the told ones; after a refusal, and where memory lacked, they are the old ones
abbrev pub Leaves : {T : Type 0} → Result T PortFault → Result (List FileBody) Refusal → (old new : List FileBody) → Type 0
Leaves (Ok x) told old new = told ≡ Ok new
Leaves (Err (Refused r)) told old new = (told ≡ Err r) × (new ≡ old)
Leaves (Err Disk) told old new = Unit {0}
Leaves (Err NoMemory) told old new = new ≡ old

-- what isn't answered failed at disk or memory; a refusal is an answer
abbrev pub IsNoRefusal : {T : Type 0} → Result T PortFault → Type 0
IsNoRefusal (Ok x) = Unit {0}
IsNoRefusal (Err (Refused r)) = ⊥
IsNoRefusal (Err Disk) = Unit {0}
IsNoRefusal (Err NoMemory) = Unit {0}
