use Rattle.std.proofs.Common.{◌≡◌, ◌<◌, ◌+◌, ℕ, length, get_or}
use Rattle.medium.proofs.pages.copy_out.Given as goal

abbrev pub invariant-copying : goal.invariant-copying
invariant-copying l = record {
  size : length l.into ≡ length l.fn.into;
  here : (j : ℕ) → j < l.i → get_or l.into j 0 ≡ get_or l.words (l.place + j) 0;
}
