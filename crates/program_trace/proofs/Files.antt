-- What a call on a directory in memory leaves.
use Rattle.std.proofs.Common.{◌≡◌, ℕ, Bool, true, false, List, [], Ok, Err, refl, sym, ap, ◌∙◌, true≢false}
use Rattle.std.specs.declared.result.Result.{Result}
use Rattle.ctss_types.specs.declared.file.FileBody.{FileBody}
use Rattle.ctss_types.specs.declared.file.Refusal.{Refusal}
use Rattle.file_map.specs.Known.{known, known_of, whole_is_known}
use Rattle.ctss_types.specs.declared.file.CommonOp.{CommonOp}
use Rattle.ctss_types.specs.declared.file.Reply.{Reply}
use Rattle.file_model.specs.Commons.{left_by, reply_to, files_after}
use Rattle.file_map.specs.Applied.{IsApplied}

files_in : Result (List FileBody) Refusal → List FileBody
files_in (Ok files) = files
files_in (Err r) = []

is_done : Result (List FileBody) Refusal → Bool
is_done (Ok files) = true
is_done (Err r) = false

-- the files of a call that was done
pub left_done : (r : Result (List FileBody) Refusal) (new : List FileBody) → known_of true r ≡ Ok new → new ≡ left_by r []
unfolding files_in known
left_done (Ok files) new h = sym (ap files_in h) ∙ whole_is_known files
left_done (Err e) new h = sym (ap files_in h)

-- and those of one that was refused
pub left_refused : (r : Result (List FileBody) Refusal) (e : Refusal) → known_of true r ≡ Err e → left_by r [] ≡ []
unfolding is_done
left_refused (Ok files) e h = absurd (true≢false (ap is_done h))
left_refused (Err r) e h = refl

-- an operation on the common files of a directory in memory
pub replied : (quota : ℕ) (op : CommonOp) (reply : Reply) (old new : List FileBody) → IsApplied true quota op reply old new → reply ≡ reply_to quota old op
replied quota op reply old new a = a.answer ∙ ap (λ (fs : List FileBody). reply_to quota fs op) (sym (whole_is_known a.files) ∙ a.was)

pub files_left : (quota : ℕ) (op : CommonOp) (reply : Reply) (old new : List FileBody) → IsApplied true quota op reply old new → new ≡ files_after quota old op
files_left quota op reply old new a =
    sym a.now ∙ whole_is_known (files_after quota a.files op) ∙ ap (λ (fs : List FileBody). files_after quota fs op) (sym (whole_is_known a.files) ∙ a.was)
