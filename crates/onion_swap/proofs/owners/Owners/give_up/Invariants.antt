use Rattle.std.proofs.Common.{◌≡◌, ◌≢◌, ℕ, ◌+◌, ◌<◌, ◌≤◌, length}
use Rattle.onion_swap.specs.Places.{owner_of, base_of}
use Rattle.onion_swap.proofs.owners.Owners.give_up.Given as goal

abbrev pub invariant-giving : goal.invariant-giving
invariant-giving l = record {
  gone : (q : ℕ) → base_of l.fn.self.bases l.fn.user + l.fn.from ≤ q → q < l.place → owner_of l.fn.self.owners q ≡ l.fn.user → owner_of l.self-inside.owners q ≡ 0;
  others : (q : ℕ) → owner_of l.fn.self.owners q ≢ l.fn.user → owner_of l.self-inside.owners q ≡ owner_of l.fn.self.owners q;
  below : (q : ℕ) → q < base_of l.fn.self.bases l.fn.user + l.fn.from → owner_of l.self-inside.owners q ≡ owner_of l.fn.self.owners q;
  rest : (q : ℕ) → l.place ≤ q → owner_of l.self-inside.owners q ≡ owner_of l.fn.self.owners q;
  len : length l.self-inside.owners ≡ length l.fn.self.owners;
  bases : l.self-inside.bases ≡ l.fn.self.bases;
}
