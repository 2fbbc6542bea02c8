-- claim: the common files, by the operations of a record alone.
use Rattle.std.specs.Prelude.{List, [], ◌∷◌}
use Rattle.time_sharing.specs.Machine.{CommonOp, Reply}
use Rattle.time_sharing.specs.System.{World, Entry, Common}

abbrev pub operations_of : List Entry → List CommonOp
operations_of [] = []
operations_of (Common user op reply ∷ es) = op ∷ operations_of es
operations_of (_ ∷ es) = operations_of es

abbrev pub replies_of : List Entry → List Reply
replies_of [] = []
replies_of (Common user op reply ∷ es) = reply ∷ replies_of es
replies_of (_ ∷ es) = replies_of es

module _ {S P F : Type 0} (w : World S P F) where
  -- the replies of one list of files to the operations, in order
  abbrev pub common_run : F → List CommonOp → List Reply
  common_run files [] = []
  common_run files (op ∷ ops) = w.reply_to files op ∷ common_run (w.files_after files op) ops

  abbrev pub files_left : F → List CommonOp → F
  files_left files [] = files
  files_left files (op ∷ ops) = files_left (w.files_after files op) ops
