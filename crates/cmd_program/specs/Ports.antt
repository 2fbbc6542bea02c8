-- proof: what a call that only reads leaves of a directory.
use Rattle.std.specs.Prelude.{◌≡◌, IsErrOf}
use Rattle.std.specs.declared.result.Result.{Result}
use Rattle.faults.specs.Faults.{Rose}
use Rattle.file_map.specs.declared.port.FilePort.{Ghosts}

module _ {P : Type 0} (g : Ghosts P) where
  -- unless the disk failed, which is this fault, the files are as before and the directory works on; it stands over the
  -- same objects
  pub record OnlyReads {T E : Type 0} (result : Result T E) (disk : E) (old new : P) : Type 0 where
    pub left : ¬ IsErrOf result disk → g.files new ≡ g.files old
    pub telling : ¬ IsErrOf result disk → g.tells new ≡ g.tells old
    pub usable : ¬ IsErrOf result disk → g.Usable new
    pub keeps : g.Keeps old new
    pub cause : IsErrOf result disk → Rose (g.faults old) (g.faults new)
