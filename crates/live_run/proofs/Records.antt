-- The end of a record adds no load.
use Rattle.std.proofs.Common.{◌≡◌, ℕ, List, [], ◌++◌, Option, Some, None, refl, sym, ap, ◌∙◌, arith}
use Rattle.medium.specs.Medium.{CallList}
use Rattle.time_sharing.specs.System.{Entry, Service}
use Rattle.time_sharing.specs.Sums.{dumped_in, read_in}
use Rattle.user_model.specs.Inner.{Stored}
use Rattle.system_model.specs.Run.{Run, ended}
use Rattle.system_model.specs.Cases.{closed, end_notes, idle_notes}
use Rattle.system_model.specs.Joined.{joined}
use Rattle.supervisor.specs.Seen.{without_files}
use Rattle.supervisor.proofs.Running.{transcripts_same}
use Rattle.system_model.specs.Record.{record_from}
use Rattle.system_model.proofs.CaseLaws.{closes}
use Rattle.system_model.proofs.SwapLaws.{dumped-append, read-append}
use Rattle.supervisor.specs.Counts.{IsCounted}

dumped_at_end : (v : Option Service) (i : Option ℕ) (now : ℕ) → dumped_in (end_notes v ++ idle_notes i now) ≡ 0
dumped_at_end None None now = refl
dumped_at_end None (Some from) now = refl
dumped_at_end (Some v) None now = refl
dumped_at_end (Some v) (Some from) now = refl

read_at_end : (v : Option Service) (i : Option ℕ) (now : ℕ) → read_in (end_notes v ++ idle_notes i now) ≡ 0
read_at_end None None now = refl
read_at_end None (Some from) now = refl
read_at_end (Some v) None now = refl
read_at_end (Some v) (Some from) now = refl

closed_counts : (r : Run) → (dumped_in (closed r).system.entries ≡ dumped_in r.system.entries) × (read_in (closed r).system.entries ≡ read_in r.system.entries)
unfolding closed
closed_counts r =
    let more : List Entry = end_notes r.system.service ++ idle_notes r.system.idling r.system.clock in (
      omega (arith, dumped-append r.system.entries more, dumped_at_end r.system.service r.system.idling r.system.clock),
      omega (arith, read-append r.system.entries more, read_at_end r.system.service r.system.idling r.system.clock),
    )

pub counted_at_end : (had : List Entry) (r : Run) (was now : Option CallList) → IsCounted had r.system.entries was now → IsCounted had (record_from (ended r)).entries was now
counted_at_end had r was now h =
    let counts = closed_counts r in
    let end : ended r ≡ closed r = closes r in
    record {
      calls = h.calls;
      made = h.made;
      writes = ap (λ (q : Run). dumped_in q.system.entries) end ∙ counts.0 ∙ h.writes;
      reads = ap (λ (q : Run). read_in q.system.entries) end ∙ counts.1 ∙ h.reads;
    }

-- what a run leaves but for files doesn't hang on its users' words and files
pub ends_joined : (stores : ℕ → Stored) (r : Run) → without_files (record_from (ended r)) ≡ without_files (record_from (ended (joined stores r)))
unfolding joined closed
ends_joined stores r =
    ap (λ (q : Run). without_files (record_from q)) (closes r)
    ∙ (λ j. record { entries = (closed r).system.entries; transcripts = transcripts_same 1 stores r.system.users j; files = []; common = []; clock = r.system.clock })
    ∙ ap (λ (q : Run). without_files (record_from q)) (sym (closes (joined stores r)))
