-- The worked rows by computing.
use Rattle.std.proofs.Common.{refl}
use Rattle.std.specs.Fmt.{digits}
use Rattle.ctss_types.specs.Words.{name_of, text_of_name}
use Rattle.plan_model.specs.Levels.{greatest, level_of_words, chosen, waits, entered, dropped, ticked, sunk, charged, woken, preempted, riser, risen, sum_of_levels}
use Rattle.plan_model.specs.Loads.{core_places, base_for, based, loaded, dumps, reads, clears}
use Rattle.user_model.specs.Texts.{time_text, logged_in_text, logged_out_text, ready_text}
use Rattle.program_model.specs.Decks.{filled}
use Rattle.opcode_table.specs.Table.{place_with_number}
use Rattle.user_model.specs.Requests.{command_of}
use Rattle.system_model.specs.World.{asked, check}
use Rattle.system_model.specs.Run.{run_to, ended}
use Rattle.system_model.specs.Record.{record_of, start_of}
use Rattle.system_model.specs.Rows.{RowOfNobody, RowOfOneUser, RowOfLateUser, RowOfRises}

pub row_of_nobody : RowOfNobody
unfolding record_of run_to ended start_of chosen riser sum_of_levels
row_of_nobody = refl

pub row_of_one_user : RowOfOneUser
unfolding record_of run_to ended start_of name_of text_of_name greatest level_of_words chosen waits entered dropped ticked sunk charged woken riser sum_of_levels asked check digits time_text logged_in_text logged_out_text ready_text command_of
row_of_one_user = refl

pub row_of_late_user : RowOfLateUser
unfolding record_of run_to ended start_of name_of text_of_name greatest level_of_words chosen waits entered dropped ticked sunk charged woken riser sum_of_levels asked check digits time_text logged_in_text logged_out_text ready_text command_of
row_of_late_user = refl

pub row_of_rises : RowOfRises
unfolding record_of run_to ended start_of name_of text_of_name greatest level_of_words chosen waits entered dropped ticked sunk charged woken preempted riser risen sum_of_levels asked check digits time_text logged_in_text logged_out_text ready_text command_of filled place_with_number core_places base_for based loaded dumps reads clears
row_of_rises = refl
