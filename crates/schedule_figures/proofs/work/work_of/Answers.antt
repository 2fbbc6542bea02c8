use Rattle.std.proofs.Common.{◌≡◌, ◌+◌, ◌-◌, ◌*◌, ◌^◌, ℕ, List, drop, length, subst, sym, arith}
use Rattle.ctss_types.specs.declared.history.Entry.{Entry}
use Rattle.schedule_figures.specs.Work.{IsWork, AreBelow}
use Rattle.schedule_figures.proofs.Worked.{entry_dropped}
use Rattle.schedule_figures.proofs.work.work_of.Goals as goal

pub entries-preserved : goal.entries-preserved
entries-preserved c =
    let bound : 2 ^ 64 * (length c.args.entries.now - c.entries.at) + 2 ^ 64 ≡ 2 ^ 64 * (length c.args.entries.now - (c.entries.at - 1)) = omega arith in
    record {
      within = omega arith;
      work =
          subst (λ (es : List Entry). IsWork c.args.user c.with_entry-work.result es)
          (sym (entry_dropped c.args.entries.now c.entries.at c.index-entries-at.result (omega arith) c.entries.invariant.within c.index-entries-at.is))
          (c.with_entry-work.ensures.work (drop c.entries.at c.args.entries.now) c.entries.invariant.work);
      below =
          subst (λ (n : ℕ). AreBelow n c.with_entry-work.result) bound
          (c.with_entry-work.ensures.below (2 ^ 64 * (length c.args.entries.now - c.entries.at)) c.entries.invariant.below);
    }
