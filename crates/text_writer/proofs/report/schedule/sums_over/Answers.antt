use Rattle.std.proofs.Common.{◌≡◌, ◌+◌, ◌-◌, ◌*◌, ◌^◌, ℕ, List, drop, length, subst, sym, arith}
use Rattle.ctss_types.specs.declared.history.Entry.{Entry}
use Rattle.text_writer.specs.Sums.{AreSums, AreBelow}
use Rattle.text_writer.proofs.Entries.{entry_dropped}
use Rattle.text_writer.proofs.report.schedule.sums_over.Goals as goal

pub entries-preserved : goal.entries-preserved
entries-preserved c =
    let bound : 2 ^ 64 * (length c.args.entries.now - c.entries.at) + 2 ^ 64 ≡ 2 ^ 64 * (length c.args.entries.now - (c.entries.at - 1)) = omega arith in
    record {
      within = omega arith;
      sums =
          subst (λ (es : List Entry). AreSums c.with_entry-sums.result es)
          (sym (entry_dropped c.args.entries.now c.entries.at c.index-entries-at.result (omega arith) c.entries.invariant.within c.index-entries-at.is))
          (c.with_entry-sums.ensures.sums (drop c.entries.at c.args.entries.now) c.entries.invariant.sums);
      below =
          subst (λ (n : ℕ). AreBelow n c.with_entry-sums.result) bound
          (c.with_entry-sums.ensures.below (2 ^ 64 * (length c.args.entries.now - c.entries.at)) c.entries.invariant.below);
    }
