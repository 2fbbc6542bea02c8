-- proof: an operation on the common files, and its reply; what a call that does one answers and leaves.
use Rattle.std.specs.Prelude.{◌≡◌, ℕ, Bool, List, IfOk, IsErrOf}
use Rattle.std.specs.declared.result.Result.{Result}
use Rattle.faults.specs.Faults.{Rose}
use Rattle.ctss_types.specs.declared.file.FileBody.{FileBody}
use Rattle.ctss_types.specs.declared.file.CommonOp.{CommonOp}
use Rattle.ctss_types.specs.declared.file.Reply.{Reply}
use Rattle.file_model.specs.Commons.{ReplyFits, reply_to, files_after}
use Rattle.file_map.specs.Answers.{IsNoRefusal}
use Rattle.file_map.specs.Known.{known}
use Rattle.file_map.specs.declared.fault.PortFault.{PortFault}
use Rattle.file_map.specs.declared.fault.PortFault.TheVariants.{Disk, NoMemory}
use Rattle.file_map.specs.declared.port.FilePort.{Ghosts}

-- an operation was done on some files that are known as the common ones, of which it left what is known as these
pub record IsApplied (tells : Bool) (quota : ℕ) (op : CommonOp) (reply : Reply) (old new : List FileBody) : Type 0 where
  pub files : List FileBody
  pub was : known tells files ≡ old
  pub answer : reply ≡ reply_to quota files op
  pub now : known tells (files_after quota files op) ≡ new

module _ {P : Type 0} (g : Ghosts P) where
  -- A call does an operation on a directory's files, and answers its reply, which may be a refusal, or a fault. Want of
  -- memory changes none of the files, and unless the disk failed the directory works on. It stands over the same
  -- objects.
  pub record Applies (op : CommonOp) (result : Result Reply PortFault) (old new : P) : Type 0 where
    pub done : IfOk result (λ reply. IsApplied (g.tells old) (g.quota old) op reply (g.files old) (g.files new))
    pub fits : IfOk result ReplyFits
    pub memory : IsErrOf result NoMemory → g.files new ≡ g.files old
    pub fault : IsNoRefusal result
    pub telling : ¬ IsErrOf result Disk → g.tells new ≡ g.tells old
    pub usable : ¬ IsErrOf result Disk → g.Usable new
    pub keeps : g.Keeps old new
    pub cause : IsErrOf result Disk → Rose (g.faults old) (g.faults new)
