use Rattle.std.proofs.Common.{◌≡◌, ◌≤◌, ◌-◌, ℕ, get_or}
use Rattle.std.specs.Prelude.{vec_len, vec_capacity}
use Rattle.medium.specs.Medium.{AreWords}
use Rattle.medium.proofs.pages.reach.Given as goal

abbrev pub invariant-reaching : goal.invariant-reaching
invariant-reaching l = record {
  same : (q : ℕ) → get_or l.words.items q 0 ≡ get_or l.fn.words.items q 0;
  capacity : vec_capacity l.fn.words ≤ vec_capacity l.words;
  words : AreWords l.words.items;
}

abbrev pub decreases-reaching : goal.decreases-reaching
decreases-reaching l = l.end - vec_len l.words
