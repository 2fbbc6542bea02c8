use Rattle.std.proofs.Common.{◌≡◌, ◌+◌, ◌*◌, ◌^◌, ◌≤◌, drop}
use Rattle.fap_listing.specs.Listing.{row_words}
use Rattle.fap_listing.proofs.listing.row_words.Given as goal

abbrev pub invariant-loop-row : goal.invariant-loop-row
invariant-loop-row l = record {
  rest : l.words + row_words (drop l.row-index l.rows) ≡ row_words l.rows;
  within : l.words ≤ 2 ^ 64 * l.row-index;
}
