-- proof: what a port over a directory on tracks shows.
use Rattle.std.specs.Prelude.{◌≡◌, ℕ, ◌++◌, ◌%◌, Bool, List, take, drop, length, Option, IsErrOf}
use Rattle.std.specs.declared.result.Result.{Result}
use Rattle.ctss_types.specs.declared.file.FileBody.{FileBody}
use Rattle.file_map.specs.declared.fault.PortFault.{PortFault}
use Rattle.file_map.specs.declared.fault.PortFault.TheVariants.{Disk}
use Rattle.medium.specs.Medium.{CallList}
use Rattle.medium.specs.declared.medium.Medium.{Ghosts}
use Rattle.track_store.specs.Words.{Gave}
use Rattle.file_tracks.specs.Seen.{tells_of, files_seen}
use Rattle.file_tracks.specs.Kept.{IsPort, CallsLeave}
use Rattle.file_tracks.specs.declared.port.TrackPort.{TrackPort}

module _ {F : Type 0} (g : Ghosts F) where
  -- its files, as the disk tells them; whether the disk tells its records, its calls where told, and how many failed
  abbrev pub files_in : TrackPort F → List FileBody
  files_in p = files_seen (g.contents p.store.now.disk.now) p.table.now.files.items

  abbrev pub tells_in : TrackPort F → Bool
  tells_in p = tells_of (g.contents p.store.now.disk.now)

  abbrev pub calls_in : TrackPort F → Option CallList
  calls_in p = g.calls p.store.now.disk.now

  abbrev pub faults_in : TrackPort F → ℕ
  faults_in p = g.faults p.store.now.disk.now

  -- no call has failed at the disk
  abbrev pub Usable : TrackPort F → Type 0
  Usable p = IsPort (g.contents p.store.now.disk.now) (g.record_count p.store.now.disk.now) (g.words_each p.store.now.disk.now) p.store.now.tracks.taken.items p.table.now p.has_failed

  -- the second stands over the same table, store and disk, after calls
  abbrev pub Keeps : TrackPort F → TrackPort F → Type 0
  Keeps a b =
      (a.table.ghost_name ≡ b.table.ghost_name) × (a.store.ghost_name ≡ b.store.ghost_name) × (a.store.now.disk.ghost_name ≡ b.store.now.disk.ghost_name)
      × CallsLeave (g.contents a.store.now.disk.now) (g.contents b.store.now.disk.now) a.store.now.tracks.taken.items b.store.now.tracks.taken.items
      (g.faults a.store.now.disk.now) (g.faults b.store.now.disk.now) a.table.now b.table.now a.has_failed b.has_failed

  -- Unless the disk failed, a call left the files as they were, the disk tells its records as before, and no call has failed there.
  pub record StaysUsable {T : Type 0} (result : Result T PortFault) (old new : TrackPort F) : Type 0 where
    pub left : ¬ IsErrOf result Disk → files_in new ≡ files_in old
    pub telling : ¬ IsErrOf result Disk → tells_in new ≡ tells_in old
    pub usable : ¬ IsErrOf result Disk → Usable new

-- all words of a file are the first that the disk's reads gave between two moments
abbrev pub GaveFirst : (was now : Option CallList) → List ℕ → Type 0
GaveFirst was now words = (more : List ℕ) × Gave was now (words ++ more)

-- words from a place on are those there of what the disk's reads gave, track by track
abbrev pub GavePart : ℕ → (was now : Option CallList) → List ℕ → Type 0
GavePart place was now words = (given : List ℕ) × Gave was now given × (words ≡ take (length words) (drop (place % 432) given))
