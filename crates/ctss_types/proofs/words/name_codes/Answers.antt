use Rattle.std.proofs.Common.{ℕ, ◌<◌, arith}
use Rattle.std.proofs.lemmas.List.Elements.{All-set}
use Rattle.ctss_types.proofs.NameCodes.{next_codes}
use Rattle.ctss_types.proofs.words.name_codes.Goals as goal

pub codes-preserved : goal.codes-preserved
codes-preserved c = record {
  codes = next_codes _ _ _ _ c.codes.invariant.codes (omega arith) c.requires c.code_for.ensures.value;
  below = All-set (λ (code : ℕ). code < 64) _ _ _ c.code_for.ensures.below c.codes.invariant.below;
}
