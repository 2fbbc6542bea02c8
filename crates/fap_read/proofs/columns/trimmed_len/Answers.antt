use Rattle.std.proofs.Common.{◌-◌, ◌<◌, length, ◌∙◌, arith}
use Rattle.ctss_types.proofs.Trim.{trims, stops}
use Rattle.fap_read.proofs.columns.trimmed_len.Goals as goal

pub trimming-preserved : goal.trimming-preserved
trimming-preserved c =
    let inside : c.trimming.end - 1 < length c.args.text.now = omega (arith, c.trimming.invariant.within) in
    record { within = omega (arith, inside); same = trims _ _ c.trimming-test.true inside c.if-text-end-eq32.true ∙ c.trimming.invariant.same }

pub returns-else-text-end-eq32-clause-value : goal.returns-else-text-end-eq32-clause-value
returns-else-text-end-eq32-clause-value c =
    let inside : c.trimming.end - 1 < length c.args.text.now = omega (arith, c.trimming.invariant.within) in
    stops _ _ c.trimming-test.true inside c.if-text-end-eq32.false ∙ c.trimming.invariant.same
