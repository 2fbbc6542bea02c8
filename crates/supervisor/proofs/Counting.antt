-- The drum's calls of a part of a run, counted by the loads of the schedule.
use Rattle.std.proofs.Common.{◌≡◌, ℕ, ◌+◌, List, [], ◌∷◌, ◌++◌, Option, sym, ◌∙◌, ap, arith}
use Rattle.time_sharing.specs.System.{Entry}
use Rattle.medium.specs.Medium.{Call, CallList}
use Rattle.image_map.specs.Loads.{with_calls, cut, count_writes, count_reads}
use Rattle.image_map.proofs.Calls.{with_calls-append}
use Rattle.user_cores.specs.Swaps.{IsMade, IsCutOff}
use Rattle.system_model.specs.Run.{Run}
use Rattle.time_sharing.specs.Sums.{dumped_in, read_in}
use Rattle.system_model.proofs.SwapLaws.{Moves}
use Rattle.supervisor.specs.Counts.{IsCounted, IsCountedToLoad}

writes-append : (one two : List Call) → count_writes (one ++ two) ≡ count_writes one + count_writes two
writes-append [] two = omega arith
writes-append (c ∷ one) two = omega (arith, writes-append one two)

reads-append : (one two : List Call) → count_reads (one ++ two) ≡ count_reads one + count_reads two
reads-append [] two = omega arith
reads-append (c ∷ one) two = omega (arith, reads-append one two)

-- nothing was noted and nothing called
pub counted_same : (had has : List Entry) (was now : Option CallList) → has ≡ had → now ≡ was → IsCounted had has was now
counted_same had has was now is calls =
    record { calls = []; made = calls; writes = let e = ap dumped_in is in omega (arith, e); reads = let e = ap read_in is in omega (arith, e) }

-- no load was noted, and nothing called
pub counted_none : (old s new : Run) (was now : Option CallList) → new ≡ s → Moves old.system.entries s.system.entries 0 0 → now ≡ was → IsCounted old.system.entries new.system.entries was now
counted_none old s new was now is moves calls =
    record {
      calls = [];
      made = calls;
      writes = ap (λ (r : Run). dumped_in r.system.entries) is ∙ moves.out;
      reads = ap (λ (r : Run). read_in r.system.entries) is ∙ moves.back;
    }

-- a load was noted, and its calls were made
pub counted_load : (old s new : Run) (was now : Option CallList) (dumped read : ℕ) → new ≡ s → Moves old.system.entries s.system.entries dumped read → IsMade was now dumped read
    → IsCounted old.system.entries new.system.entries was now
counted_load old s new was now dumped read is moves made =
    record {
      calls = made.calls;
      made = made.made;
      writes = ap (λ (r : Run). dumped_in r.system.entries) is ∙ moves.out ∙ ap (λ (n : ℕ). dumped_in old.system.entries + n) (sym made.writes_are);
      reads = ap (λ (r : Run). read_in r.system.entries) is ∙ moves.back ∙ ap (λ (n : ℕ). read_in old.system.entries + n) (sym made.reads_are);
    }

-- one part of a run after another
pub counted_on : (es fs gs : List Entry) (a b c : Option CallList) → IsCounted es fs a b → IsCounted fs gs b c → IsCounted es gs a c
counted_on es fs gs a b c one two =
    record {
      calls = one.calls ++ two.calls;
      made = two.made ∙ ap (λ (o : Option CallList). with_calls o two.calls) one.made ∙ sym (with_calls-append a one.calls two.calls);
      writes = let x = one.writes in let y = two.writes in omega (arith, x, y, writes-append one.calls two.calls);
      reads = let x = one.reads in let y = two.reads in omega (arith, x, y, reads-append one.calls two.calls);
    }

-- a load that was cut off, after a part of a run
pub counted_to_load : (es fs gs : List Entry) (a b c : Option CallList) (most few : ℕ) → IsCounted es fs a b → IsCutOff b c few → most ≡ few → gs ≡ fs → IsCountedToLoad es gs a c most
counted_to_load es fs gs a b c most few one off same is =
    record {
      calls = one.calls;
      load = off.calls;
      at = off.at;
      within = off.within;
      few = off.few ∙ sym same;
      made = off.made ∙ ap (λ (o : Option CallList). with_calls o (cut off.calls off.at)) one.made ∙ sym (with_calls-append a one.calls (cut off.calls off.at));
      writes = ap dumped_in is ∙ one.writes;
      reads = ap read_in is ∙ one.reads;
    }
