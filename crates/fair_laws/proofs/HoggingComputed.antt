-- The row of specs/Unbounded, by computing.
use Rattle.std.proofs.Common.{refl}
use Rattle.ctss_types.specs.Words.{name_of}
use Rattle.plan_model.specs.Levels.{greatest, level_of_words, chosen, waits, entered, dropped, sunk, charged, woken, riser, sum_of_levels}
use Rattle.plan_model.specs.Loads.{core_places, base_for, based, loaded, dumps, reads}
use Rattle.program_model.specs.CommandLines.{command_lines}
use Rattle.user_model.specs.Requests.{command_of}
use Rattle.system_model.specs.World.{asked, check}
use Rattle.system_model.specs.Run.{run_to, ended}
use Rattle.system_model.specs.Record.{record_of, start_of}
use Rattle.fair_laws.specs.Unbounded.{RowOfHogging}

pub row_of_hogging : RowOfHogging
unfolding record_of run_to ended start_of name_of greatest level_of_words chosen waits entered dropped sunk charged woken riser sum_of_levels asked check command_of command_lines loaded based core_places base_for dumps reads
row_of_hogging = record { first = refl; second = refl }
