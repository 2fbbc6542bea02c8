-- claim: what a call leaves of a table of blocks on a drum.
use Rattle.std.specs.Prelude.{◌≡◌, ◌≤◌, ℕ, false, true, List, None, Some, slice_set, is_err, OnOk, OnErr}
use Rattle.std.specs.declared.result.Result.{Result}
use Rattle.faults.specs.Faults.{Rose}
use Rattle.medium.specs.Medium.{read_call, write_call, with_call}
use Rattle.medium.specs.declared.medium.Medium.{Ghosts}
use Rattle.drum_slots.specs.Kept.{with_copy, HasCopy, ChangesCopy, ServesSlots}
use Rattle.drum_slots.specs.Table.{slots_of, free_of, records_of, next_of, place_of, record_of, copies_in}
use Rattle.drum_slots.specs.declared.table.SlotTable.{SlotTable}

module _ {D : Type 0} (g : Ghosts D) where
  -- the drum serves the slots
  abbrev pub IsServed : SlotTable D → Type 0
  IsServed t = ServesSlots (g.contents t.drum.now) (g.record_count t.drum.now) (g.words_each t.drum.now) (records_of t.slots)

  -- A call of the drum leaves, done or not: the same drum of as many records, which serves the slots, and users' quotas. The count of
  -- the drum's faults doesn't fall. Where the call failed, each block has the record that it had, and the count rose.
  pub record KeepsDrum {T E : Type 0} (result : Result T E) (old new : SlotTable D) : Type 0 where
    pub same : new.drum.ghost_name ≡ old.drum.ghost_name
    pub serves : IsServed new
    pub count : g.record_count new.drum.now ≡ g.record_count old.drum.now
    pub quotas : new.slots.quotas ≡ old.slots.quotas
    pub slots : OnErr result (new.slots ≡ old.slots)
    pub faults_grow : g.faults old.drum.now ≤ g.faults new.drum.now
    pub cause : OnErr result (Rose (g.faults old.drum.now) (g.faults new.drum.now))

  -- A copy of a user's block went into the least free record, by one write there. Where that failed, every copy is as before.
  pub record PutsBlock (user block : ℕ) (from : List ℕ) {T E : Type 0} (result : Result T E) (old new : SlotTable D) : Type 0 where
    pub keeps : KeepsDrum result old new
    pub ok : OnOk result (copies_in (g.contents new.drum.now) new.slots
        ≡ with_copy (copies_in (g.contents old.drum.now) old.slots) (place_of old.slots user block) (Some from))
    pub slot : OnOk result (slots_of new.slots ≡ slice_set (slots_of old.slots) (place_of old.slots user block) (Some (next_of old.slots)))
    pub free : OnOk result (free_of new.slots ≡ slice_set (free_of old.slots) (next_of old.slots) false)
    pub err : OnErr result (copies_in (g.contents new.drum.now) new.slots ≡ copies_in (g.contents old.drum.now) old.slots)
    pub calls : g.calls new.drum.now ≡ with_call (g.calls old.drum.now) (write_call (next_of old.slots) (is_err result))

  -- The copy of a user's block came back, by one read of its record, and is kept no more: the record is free. Where that failed it is
  -- kept, but its words are unknown.
  pub record GetsBlock (user block : ℕ) (into : List ℕ) {T E : Type 0} (result : Result T E) (old new : SlotTable D) : Type 0 where
    pub keeps : KeepsDrum result old new
    pub given : OnOk result (HasCopy (copies_in (g.contents old.drum.now) old.slots) (place_of old.slots user block) into)
    pub ok : OnOk result (copies_in (g.contents new.drum.now) new.slots
        ≡ with_copy (copies_in (g.contents old.drum.now) old.slots) (place_of old.slots user block) None)
    pub slot : OnOk result (slots_of new.slots ≡ slice_set (slots_of old.slots) (place_of old.slots user block) None)
    pub free : (at : ℕ) → record_of old.slots user block ≡ Some at → OnOk result (free_of new.slots ≡ slice_set (free_of old.slots) at true)
    pub err : OnErr result (ChangesCopy (copies_in (g.contents old.drum.now) old.slots) (copies_in (g.contents new.drum.now) new.slots)
        (place_of old.slots user block))
    pub calls : (at : ℕ) → record_of old.slots user block ≡ Some at
        → g.calls new.drum.now ≡ with_call (g.calls old.drum.now) (read_call at (is_err result) into)
