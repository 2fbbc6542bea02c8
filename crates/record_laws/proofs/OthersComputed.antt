-- The row of specs/Others, by computing; that ALFA sees the same is the law, at these two scripts.
use Rattle.std.proofs.Common.{◌≡◌, refl, arith}
use Rattle.std.specs.Fmt.{digits}
use Rattle.ctss_types.specs.Words.{name_of, text_of_name}
use Rattle.plan_model.specs.Levels.{greatest, level_of_words, chosen, waits, entered, dropped, ticked, sunk, charged, woken, riser, sum_of_levels}
use Rattle.user_model.specs.Texts.{time_text, logged_in_text, logged_out_text, ready_text}
use Rattle.user_model.specs.Requests.{command_of}
use Rattle.system_model.specs.World.{asked, check}
use Rattle.system_model.specs.Run.{run_to, ended}
use Rattle.system_model.specs.Record.{record_of, start_of}
use Rattle.system_model.proofs.AloneLaws.{feeds_decide}
use Rattle.record_laws.specs.Others.{quiet, later, feed_in, RowOfOthers}

feeds_are : feed_in quiet 1 ≡ feed_in later 1
unfolding record_of run_to ended start_of name_of text_of_name greatest level_of_words chosen waits entered dropped ticked sunk charged woken riser sum_of_levels asked check digits time_text logged_in_text logged_out_text ready_text command_of
feeds_are = refl

pub row_of_others : RowOfOthers
unfolding record_of run_to ended start_of name_of text_of_name greatest level_of_words chosen waits entered dropped ticked sunk charged woken riser sum_of_levels asked check digits time_text logged_in_text logged_out_text ready_text command_of
row_of_others = record {
  feeds = feeds_are;
  sees = (feeds_decide quiet later 1 1 (omega arith) (omega arith) (omega arith) (omega arith) refl feeds_are).0;
  quiet_is = refl;
  later_is = refl;
  told = refl;
  told_late = refl;
}
