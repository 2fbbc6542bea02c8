-- claim: what is seen of drum and disk.
use Rattle.std.specs.Prelude.{ℕ, Bool, ◌&&◌, List, Option}
use Rattle.std.specs.Option.{is_some}
use Rattle.medium.specs.Medium.{CallList}
use Rattle.medium.specs.declared.medium.Medium.{Ghosts}

-- whether both tell their records, what the disk's records hold, where told, the calls of each, where told, and how many of them failed
pub record MediaSeen : Type 0 where
  pub tells : Bool
  pub disk_contents : Option (List (List ℕ))
  pub drum_calls : Option CallList
  pub disk_calls : Option CallList
  pub drum_faults : ℕ
  pub disk_faults : ℕ

abbrev pub media_seen : {D F : Type 0} → Ghosts D → Ghosts F → D → F → MediaSeen
media_seen d f drum disk =
    record {
      tells = is_some (d.contents drum) && is_some (f.contents disk);
      disk_contents = f.contents disk;
      drum_calls = d.calls drum;
      disk_calls = f.calls disk;
      drum_faults = d.faults drum;
      disk_faults = f.faults disk;
    }
