-- The worked rows by computing.
use Rattle.std.proofs.Common.{refl}
use Rattle.word36.specs.Octal.{octal_digits}
use Rattle.ctss_types.specs.Words.{name_of}
use Rattle.program_model.specs.Decks.{filled}
use Rattle.program_model.specs.DebugLines.{debug_of}
use Rattle.program_model.specs.Rows.{RowOfCalls, RowOfFileCalls, RowOfCommonCalls, RowOfLines, RowOfDecks, RowOfSaved, RowOfDebugLines, RowOfCommandLines}

pub row_of_calls : RowOfCalls
unfolding name_of
row_of_calls = record { reads = refl; writes = refl; past = refl; long = refl; none = refl; argument = refl; size = refl; time = refl; dead = refl; unknown = refl; behind = refl; round = refl; reply = refl; value = refl }

pub row_of_file_calls : RowOfFileCalls
unfolding name_of
row_of_file_calls = record { stat = refl; delete = refl; rename = refl; mode = refl; read = refl; written = refl; minus = refl; argument = refl; names = refl; place = refl; buffer = refl; second = refl }

pub row_of_common_calls : RowOfCommonCalls
unfolding name_of
row_of_common_calls = record { stat = refl; delete = refl; read = refl; written = refl; buffer = refl; unknown = refl }

pub row_of_lines : RowOfLines
unfolding name_of
row_of_lines = record { padded = refl; cut = refl; line = refl; zeros = refl; lines = refl; no_lines = refl; part = refl; within = refl }

pub row_of_decks : RowOfDecks
unfolding filled
row_of_decks = record { deck_is = refl; absent = refl; empty = refl; no_blocks = refl; start = refl; short = refl; none = refl; past = refl; at_end = refl; large = refl; larger = refl; filled_is = refl }

pub row_of_saved : RowOfSaved
unfolding octal_digits
row_of_saved = record { head = refl; back = refl; size = refl; large = refl; short = refl; none = refl; minus = refl; empty = refl; absent = refl; lines = refl; word = refl; outside = refl }

pub row_of_debug_lines : RowOfDebugLines
unfolding debug_of
row_of_debug_lines = record { break_at = refl; clear = refl; long_place = refl; no_octal = refl; no_place = refl; go = refl; go_on = refl; registers = refl; set = refl; long_word = refl; over = refl; empty = refl; command = refl }

pub row_of_command_lines : RowOfCommandLines
row_of_command_lines = record { both = refl; blanks = refl; inside = refl; none = refl; many = refl; long = refl }
