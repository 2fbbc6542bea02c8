-- claim: what a call leaves of a medium.
use Rattle.std.specs.Prelude.{◌≡◌, ◌≤◌, ℕ, List, Option, is_err, OnOk, OnErr}
use Rattle.std.specs.declared.result.Result.{Result}
use Rattle.faults.specs.Faults.{Rose}
use Rattle.medium.specs.Medium.{AreWords, Call, CallList, read_call, write_call, with_call, with_record, Reads, ChangesOnly}

-- what is seen of a medium: what its records hold, where told, how many they are and of how many words, the calls made, where told,
-- and how often one has failed
pub record MediumSeen : Type 0 where
  pub contents : Option (List (List ℕ))
  pub count : ℕ
  pub each : ℕ
  pub calls : Option CallList
  pub faults : ℕ

-- it, by what tells each of these
abbrev pub seen_by : {M : Type 0} → (M → Option (List (List ℕ))) → (count each : M → ℕ) → (M → Option CallList) → (faults : M → ℕ) → M → MediumSeen
seen_by contents count each calls faults m =
    record { contents = contents m; count = count m; each = each m; calls = calls m; faults = faults m }

-- One call was made, of a record. It is listed, the medium has as many records of as many words, and the count of its faults
-- doesn't fall. Where the call failed, that record alone may hold other words, and the count rose.
pub record HasCalled (at : ℕ) (call : Call) {T E : Type 0} (result : Result T E) (old new : MediumSeen) : Type 0 where
  pub calls : new.calls ≡ with_call old.calls call
  pub count : new.count ≡ old.count
  pub each : new.each ≡ old.each
  pub faults_grow : old.faults ≤ new.faults
  pub err : OnErr result (ChangesOnly old.contents new.contents at)
  pub cause : OnErr result (Rose old.faults new.faults)

-- A record was read: these are words, those that it holds where records are told, and unless the read failed every record
-- holds what it held.
pub record ReadsRecord (at : ℕ) (into : List ℕ) {T E : Type 0} (result : Result T E) (old new : MediumSeen) : Type 0 where
  pub words : AreWords into
  pub honest : OnOk result (Reads old.contents at into)
  pub contents : OnOk result (new.contents ≡ old.contents)
  pub called : HasCalled at (read_call at (is_err result) into) result old new

-- A record was written: it holds these words, unless the write failed.
pub record WritesRecord (at : ℕ) (from : List ℕ) {T E : Type 0} (result : Result T E) (old new : MediumSeen) : Type 0 where
  pub contents : OnOk result (new.contents ≡ with_record old.contents at from)
  pub called : HasCalled at (write_call at (is_err result)) result old new
