-- What a run leaves whose users' words and files lie behind it.
use Rattle.std.proofs.Common.{◌≡◌, ℕ, suc, List, [], ◌∷◌, length, map, refl, sym, ap, ◌∙◌}
use Rattle.ctss_types.specs.declared.file.FileBody.{FileBody}
use Rattle.user_model.specs.User.{User}
use Rattle.user_model.specs.Inner.{Stored}
use Rattle.track_directories.specs.Directories.{lists_from}
use Rattle.system_model.specs.Run.{Run, ended}
use Rattle.system_model.specs.Cases.{closed}
use Rattle.system_model.specs.Record.{record_from}
use Rattle.system_model.specs.Joined.{joined, with_stores}
use Rattle.system_model.proofs.CaseLaws.{closes}
use Rattle.supervisor.specs.Closes.{record_with}
use Rattle.supervisor.proofs.Running.{transcripts_same}

abbrev pub files_in : (ℕ → Stored) → ℕ → List FileBody
files_in stores u = (stores u).files

files_same : (k : ℕ) (stores : ℕ → Stored) (ps : List User) → lists_from k (length ps) (files_in stores) ≡ map (λ (p : User). p.inner.files) (with_stores k stores ps)
files_same k stores [] = refl
files_same k stores (p ∷ ps) = ap (λ (fs : List (List FileBody)). (stores k).files ∷ fs) (files_same (suc k) stores ps)

pub closed_with : (stores : ℕ → Stored) (r : Run) → record_with (lists_from 1 (length r.system.users) (files_in stores)) (stores 0).files (closed r) ≡ record_from (ended (joined stores r))
unfolding closed joined
closed_with stores r =
    (λ j. record {
      entries = (closed r).system.entries;
      transcripts = transcripts_same 1 stores r.system.users j;
      files = files_same 1 stores r.system.users j;
      common = (stores 0).files;
      clock = r.system.clock;
    })
    ∙ ap record_from (sym (closes (joined stores r)))
