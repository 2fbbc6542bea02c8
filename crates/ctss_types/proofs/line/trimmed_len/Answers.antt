use Rattle.std.proofs.Common.{◌-◌, ◌<◌, length, ◌∙◌, arith}
use Rattle.ctss_types.proofs.Trim.{trims, stops}
use Rattle.ctss_types.proofs.line.trimmed_len.Goals as goal

pub trimming-preserved : goal.trimming-preserved
trimming-preserved c =
    let inside : c.trimming.end - 1 < length c.args.bytes.now = omega (arith, c.trimming.invariant.within) in
    record { within = omega (arith, inside); same = trims _ _ c.trimming-test.true inside c.if-bytes-end-eq32.true ∙ c.trimming.invariant.same }

pub returns-else-bytes-end-eq32-clause-value : goal.returns-else-bytes-end-eq32-clause-value
returns-else-bytes-end-eq32-clause-value c =
    let inside : c.trimming.end - 1 < length c.args.bytes.now = omega (arith, c.trimming.invariant.within) in
    stops _ _ c.trimming-test.true inside c.if-bytes-end-eq32.false ∙ c.trimming.invariant.same
