-- claim: what a run hands out at its end.
use Rattle.std.specs.Prelude.{◌≡◌, ℕ, true, List, map}
use Rattle.faults.specs.Faults.{Rose}
use Rattle.ctss_types.specs.declared.file.FileBody.{FileBody}
use Rattle.ctss_types.specs.declared.history.Record.{Record}
use Rattle.plan_model.specs.Loads.{Places}
use Rattle.system_model.specs.Run.{Run, ended}
use Rattle.system_model.specs.Record.{record_from}
use Rattle.system_model.specs.Joined.{joined}
use Rattle.user_cores.specs.Backing.{Held, BackState}
use Rattle.supervisor.specs.Seen.{Bare, run_with, without_files}
use Rattle.supervisor.specs.declared.finish.Closed.{Closed}
use Rattle.supervisor.specs.declared.finish.Closed.TheVariants.{Complete, WithoutFiles}

-- the record of a run with these files
abbrev pub record_with : List (List FileBody) → List FileBody → Run → Record
record_with files common r =
    record {
      entries = r.system.entries;
      transcripts = map (λ p. p.transcript) r.system.users;
      files = files;
      common = common;
      clock = r.system.clock;
    }

-- The record of the ended run: with its users' files and the common ones, where drum and disk tell their records, and in any case but
-- for files.
pub record EndsComplete (b : Bare) (held : Held) (rec : Record) : Type 0 where
  pub said : (places : Places) → without_files rec ≡ without_files (record_from (ended (run_with places b)))
  pub record_is : held.tells ≡ true → (places : Places) → rec ≡ record_from (ended (joined held.stores (run_with places b)))

-- the record of the ended run without files: the disk failed
pub record EndsWithoutFiles (b : Bare) (faults_were faults_are : ℕ) (rec : Record) : Type 0 where
  pub said : (places : Places) → rec ≡ without_files (record_from (ended (run_with places b)))
  pub cause : Rose faults_were faults_are

abbrev pub Closes : Bare → (old new : BackState) → Closed → Type 0
Closes b old new (Complete rec) = EndsComplete b old.held rec
Closes b old new (WithoutFiles rec) = EndsWithoutFiles b old.disk_faults new.disk_faults rec

abbrev pub IfComplete : Closed → (Record → Type 0) → Type 0
IfComplete (Complete rec) P = P rec
IfComplete (WithoutFiles rec) P = Unit {0}
