use Rattle.std.proofs.Common.{◌≤◌, ◌++◌, take, length, arith, length-append, length-take}
use Rattle.std.proofs.lemmas.Result.{err_from_is_err_and}
use Rattle.ctss_io.proofs.Pieces.{before_trans}
use Rattle.ctss_io.proofs.whole.read_bytes.Goals as goal

-- the piece that there was no memory for has gone too
pub returns-in_err-extend_from_slice-in-Bytes-clause-prefix :
    goal.returns-in_err-extend_from_slice-in-Bytes-clause-prefix
returns-in_err-extend_from_slice-in-Bytes-clause-prefix g c =
    let error = err_from_is_err_and c.from_residual.result c.from_residual.ensures.1 in
    let piece = take c.in-Bytes.count c.read.new.into in
    let room : length c.read.new.into ≤ c.min-room.result = rw c.read.auto.into (simp length-take (omega arith)) in
    let size : length (c.reading.bytes.items ++ piece) ≤ 4194305 = simp (length-append, length-take) (omega arith) in
    rw error.1
    (c.reading.bytes.items ++ piece, size, before_trans _ _ _ _ _ c.reading.invariant.taken c.in-Bytes.ensures.moved)
