use Rattle.std.proofs.Common.{◌≡◌, ◌≤◌, ◌+◌, length}
use Rattle.std.specs.Str.Lines.{lines}
use Rattle.text_model.specs.Drafts.{empty_draft}
use Rattle.script_read.specs.Bases.{cards_from}
use Rattle.script_read.specs.Drafts.{draft_of}
use Rattle.script_read.proofs.read.script_from.Given as goal

abbrev pub invariant-cards : goal.invariant-cards
invariant-cards l = record {
  same : cards_from l.fn.is_base l.number (draft_of l.draft) (lines l.rest) ≡ cards_from l.fn.is_base 1 empty_draft (lines l.fn.bytes);
  within : l.number + length l.rest ≤ 1 + length l.fn.bytes;
}

abbrev pub decreases-cards : goal.decreases-cards
decreases-cards l = length l.rest
