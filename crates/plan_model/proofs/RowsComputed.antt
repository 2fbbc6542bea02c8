-- The worked rows by computing.
use Rattle.std.proofs.Common.{refl}
use Rattle.plan_model.specs.Levels.{greatest, level_of_words, chosen, waits, entered, dropped, ticked, sunk, charged, woken, preempted, riser, risen, sum_of_levels}
use Rattle.plan_model.specs.Loads.{core_places, base_for, based, loaded, dumps, reads, clears}
use Rattle.plan_model.specs.Rows.{RowOfLevels, RowOfQueues, RowOfRises, RowOfLoads, RowOfMoves}

pub row_of_levels : RowOfLevels
unfolding greatest level_of_words
row_of_levels = record { one = refl; four = refl; some = refl; all = refl; most = refl }

pub row_of_queues : RowOfQueues
unfolding greatest level_of_words chosen waits entered dropped ticked sunk charged woken riser
row_of_queues = record { first = refl; second = refl; again = refl; sunk = refl; woken = refl; never = refl }

pub row_of_rises : RowOfRises
unfolding greatest level_of_words chosen entered dropped preempted riser risen sum_of_levels
row_of_rises = record { early = refl; due = refl; once = refl; alone = refl; lower = refl; preempted = refl; least = refl; sums = (refl, refl) }

pub row_of_loads : RowOfLoads
unfolding core_places base_for based loaded dumps reads clears
row_of_loads =
    record {
      first = record { dumps_are = refl; reads_are = refl; clears_are = refl; at = refl; is_moved_is = refl };
      second = record { dumps_are = refl; reads_are = refl; clears_are = refl; at = refl; is_moved_is = refl };
      third = record { dumps_are = refl; reads_are = refl; clears_are = refl; at = refl; is_moved_is = refl };
      left = (refl, refl, refl);
      fourth = record { dumps_are = refl; reads_are = refl; clears_are = refl; at = refl; is_moved_is = refl };
      back = refl;
      gone = refl;
      fifth = record { dumps_are = refl; reads_are = refl; clears_are = refl; at = refl; is_moved_is = refl };
    }

pub row_of_moves : RowOfMoves
unfolding core_places base_for based loaded dumps reads clears
row_of_moves =
    record {
      behind = record { dumps_are = refl; reads_are = refl; clears_are = refl; at = refl; is_moved_is = refl };
      over = record { dumps_are = refl; reads_are = refl; clears_are = refl; at = refl; is_moved_is = refl };
      moved = record { dumps_are = refl; reads_are = refl; clears_are = refl; at = refl; is_moved_is = refl };
      left = (refl, refl);
    }
