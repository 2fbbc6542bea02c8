use Rattle.std.proofs.Common.{◌<◌, ◌^◌, ◌+◌, ℕ, List, set, ◌∙◌, ap}
use Rattle.std.proofs.lemmas.List.{get_or_read}
use Rattle.std.proofs.lemmas.List.Elements.{All-set}
use Rattle.file_tracks.proofs.Overs.{over_more}
use Rattle.file_tracks.proofs.words.overlay.Goals as goal

pub laying-preserved : goal.laying-preserved
laying-preserved c = record {
  over =
      ap (λ (xs : List ℕ). set xs (c.args.place + c.laying.i) c.bits.result) c.laying.invariant.over
      ∙ over_more c.args.into.now c.args.words.now c.args.place c.laying.i c.bits.result c.laying-test.true c.requires.inside
      (c.bits.ensures.bits ∙ get_or_read c.args.words.now c.laying.i c.index-words-i.result c.laying-test.true c.index-words-i.is 0);
  all = All-set (λ (n : ℕ). n < 2 ^ 36) _ _ _ c.bits.ensures.below c.laying.invariant.all;
}
