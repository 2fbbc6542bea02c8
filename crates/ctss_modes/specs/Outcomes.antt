-- claim: outcomes that need no record.
use Rattle.std.specs.Prelude.{◌≡◌, ℕ, true, nat_eq, List, []}
use Rattle.std.specs.List.{list_any}
use Rattle.ctss_types.specs.declared.history.Record.{Record}
use Rattle.ctss_modes.specs.declared.outcome.Outcome.{Outcome}

abbrev pub empty_record : Record
empty_record = record { entries = []; transcripts = []; files = []; common = []; clock = 0 }

abbrev pub bare : ℕ → ℕ → ℕ → Outcome
bare status card cause = record { status = status; card = card; cause = cause; run = empty_record }

abbrev pub failed : ℕ → Record → Outcome
failed status run = record { status = status; card = 0; cause = 0; run = run }

abbrev pub cut_off : Outcome → Outcome
cut_off o = record { status = 4; card = 0; cause = 0; run = o.run }

abbrev pub IsOneOf : ℕ → List ℕ → Type 0
IsOneOf status statuses = list_any (nat_eq status) statuses ≡ true
