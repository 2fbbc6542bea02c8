use Rattle.std.specs.Prelude.{None}
use Rattle.std.proofs.Common.{◌≡◌, ◌≢◌, ℕ, ◌<◌, ◌≤◌, length}
use Rattle.drum_slots.specs.Keys.{key, quota_of}
use Rattle.drum_slots.specs.Slots.{slot_of}
use Rattle.drum_slots.proofs.slots.Slots.free_from.Given as goal

abbrev pub invariant-giving : goal.invariant-giving
invariant-giving l = record {
  gone : (b : ℕ) → l.fn.block ≤ b → b < l.b → slot_of l.self.slots.items (key l.fn.self.quotas.items l.fn.user b) ≡ None;
  others : (k : ℕ) → ((b : ℕ) → l.fn.block ≤ b → b < quota_of l.fn.self.quotas.items l.fn.user → k ≢ key l.fn.self.quotas.items l.fn.user b)
      → slot_of l.self.slots.items k ≡ slot_of l.fn.self.slots.items k;
  records : length l.self.free.items ≡ length l.fn.self.free.items;
  quotas : l.self.quotas ≡ l.fn.self.quotas;
}
