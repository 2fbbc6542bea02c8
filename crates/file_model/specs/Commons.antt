-- claim: the common directory: what each operation answers, and the files behind it.
use Rattle.std.specs.Prelude.{ℕ, ◌<◌, ◌^◌, ◌+◌, ◌*◌, List, Ok, Err}
use Rattle.std.specs.declared.result.Result.{Result}
use Rattle.ctss_types.specs.declared.file.FileBody.{FileBody}
use Rattle.ctss_types.specs.declared.file.CommonOp.{CommonOp}
use Rattle.ctss_types.specs.declared.file.CommonOp.TheVariants as op
use Rattle.ctss_types.specs.declared.file.Reply.{Reply}
use Rattle.ctss_types.specs.declared.file.Reply.TheVariants.{Done, Size, Words, Refused}
use Rattle.ctss_types.specs.declared.file.Refusal.{Refusal}
use Rattle.file_model.specs.declared.Stat.{Stat}
use Rattle.file_model.specs.Files.{stat, read, got, written, put, deleted}

-- the size that a reply tells is one that a program gets
abbrev pub ReplyFits : Reply → Type 0
ReplyFits Done = Unit {0}
ReplyFits (Size n) = n < 2 ^ 35
ReplyFits (Words words) = Unit {0}
ReplyFits (Refused r) = Unit {0}

abbrev pub size_reply : Result Stat Refusal → Reply
size_reply (Ok s) = Size (4 * s.words + s.mode)
size_reply (Err r) = Refused r

abbrev pub words_reply : Result (List ℕ) Refusal → Reply
words_reply (Ok ws) = Words ws
words_reply (Err r) = Refused r

abbrev pub done_reply : Result (List FileBody) Refusal → Reply
done_reply (Ok files) = Done
done_reply (Err r) = Refused r

abbrev pub left_by : Result (List FileBody) Refusal → List FileBody → List FileBody
left_by (Ok files) old = files
left_by (Err r) old = old

abbrev pub reply_to : ℕ → List FileBody → CommonOp → Reply
reply_to quota files (op.Stat name) = size_reply (stat name files)
reply_to quota files (op.Read name place count) = words_reply (read name place count files)
reply_to quota files (op.Write name place words) = done_reply (written name place words quota files)
reply_to quota files (op.Delete name) = done_reply (deleted name files)
reply_to quota files (op.Put name words) = done_reply (put name words quota files)
reply_to quota files (op.Get name) = words_reply (got name files)

abbrev pub files_after : ℕ → List FileBody → CommonOp → List FileBody
files_after quota files (op.Stat name) = files
files_after quota files (op.Read name place count) = files
files_after quota files (op.Write name place words) = left_by (written name place words quota files) files
files_after quota files (op.Delete name) = left_by (deleted name files) files
files_after quota files (op.Put name words) = left_by (put name words quota files) files
files_after quota files (op.Get name) = files
