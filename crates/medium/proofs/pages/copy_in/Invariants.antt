use Rattle.std.proofs.Common.{◌≡◌, ◌<◌, ◌≤◌, ◌+◌, ℕ, length, get_or}
use Rattle.std.specs.Prelude.{vec_capacity}
use Rattle.medium.specs.Medium.{AreWords}
use Rattle.medium.proofs.pages.copy_in.Given as goal

abbrev pub invariant-copying : goal.invariant-copying
invariant-copying l = record {
  size : length l.words.items ≡ length l.fn.words.items;
  here : (j : ℕ) → j < l.i → get_or l.words.items (l.place + j) 0 ≡ get_or l.from j 0;
  before : (q : ℕ) → q < l.place → get_or l.words.items q 0 ≡ get_or l.fn.words.items q 0;
  behind : (q : ℕ) → l.place + l.i ≤ q → get_or l.words.items q 0 ≡ get_or l.fn.words.items q 0;
  capacity : vec_capacity l.fn.words ≤ vec_capacity l.words;
  words : AreWords l.words.items;
}
