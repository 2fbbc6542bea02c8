-- The row of specs/Rows, by computing.
use Rattle.std.proofs.Common.{refl}
use Rattle.std.specs.Fmt.{digits}
use Rattle.ctss_types.specs.Words.{name_of, text_of_name}
use Rattle.plan_model.specs.Levels.{greatest, level_of_words, chosen, waits, entered, dropped, ticked, sunk, charged, woken, preempted, riser, risen, sum_of_levels}
use Rattle.plan_model.specs.Loads.{core_places, base_for, based, loaded, dumps, reads, clears}
use Rattle.program_model.specs.Decks.{filled}
use Rattle.user_model.specs.Texts.{time_text, logged_in_text, logged_out_text, ready_text}
use Rattle.user_model.specs.Requests.{command_of}
use Rattle.system_model.specs.World.{asked, check}
use Rattle.system_model.specs.Run.{run_to, ended}
use Rattle.system_model.specs.Record.{record_of, start_of}
use Rattle.fair_laws.specs.Rows.{RowOfWaits}

pub row_of_waits : RowOfWaits
unfolding record_of run_to ended start_of name_of text_of_name greatest level_of_words chosen waits entered dropped ticked sunk charged woken preempted riser risen sum_of_levels core_places base_for based loaded dumps reads clears filled asked check digits time_text logged_in_text logged_out_text ready_text command_of
row_of_waits = record { without = refl; with_age = refl; bound = refl }
