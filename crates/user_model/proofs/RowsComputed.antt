-- The worked rows by computing.
use Rattle.std.proofs.Common.{refl}
use Rattle.std.specs.Fmt.{digits}
use Rattle.ctss_types.specs.Words.{name_of}
use Rattle.fap_model.specs.Decks.{assembled}
use Rattle.link_model.specs.Links.{link_of}
use Rattle.link_model.specs.ModuleCards.{module_made}
use Rattle.user_model.specs.Requests.{command_of}
use Rattle.user_model.specs.Texts.{time_text, ready_text, fault_text}
use Rattle.user_model.specs.Rows.{RowOfRequests, RowOfInput, RowOfAssembly, RowOfLinking, RowOfCopies}
use Rattle.user_model.specs.Sessions.{RowOfSessions}
use Rattle.user_model.specs.Texts.{logged_in_text, stop_text}
use Rattle.ctss_types.specs.Words.{text_of_name}
use Rattle.word36.specs.Octal.{octal_digits}
use Rattle.program_model.specs.Decks.{filled}
use Rattle.program_model.specs.DebugLines.{debug_of}
use Rattle.program_model.specs.CommandLines.{command_lines}

pub row_of_requests : RowOfRequests
unfolding command_of name_of
row_of_requests = record { empty = refl; list = refl; list_of = refl; print = refl; rename = refl; rename_to = refl; delete = refl; long = refl; long_second = refl; mode = refl; digits = refl; letter = refl; input = refl; load = refl; start = refl; save = refl; resume = refl; registers = refl; place = refl; long_place = refl; no_octal = refl; out = refl; unknown = refl }

pub row_of_input : RowOfInput
unfolding name_of digits time_text ready_text
row_of_input = record { begun = refl; there = refl; no_track = refl; typed = refl; full = refl; over = refl; quit = refl; shown = refl; gone = refl; absent = refl; mode = refl }

pub row_of_assembly : RowOfAssembly
unfolding command_of name_of digits time_text ready_text fault_text assembled
row_of_assembly = record { asked = refl; names = refl; made = refl; no_room = refl; faults = refl; absent = refl }

pub row_of_linking : RowOfLinking
unfolding command_of name_of digits time_text ready_text module_made link_of
row_of_linking = record { asked = refl; none = refl; eight = refl; nine = refl; long = refl; made = refl; linked = refl; no_room = refl; absent = refl }

pub row_of_copies : RowOfCopies
unfolding command_of name_of digits time_text ready_text
row_of_copies = record { to = refl; from = refl; neither = refl; alone = refl; put = refl; got = refl; none = refl; absent = refl; done = refl; refused = refl; copied = refl; full = refl }

pub row_of_sessions : RowOfSessions
unfolding command_of debug_of command_lines name_of text_of_name digits time_text ready_text logged_in_text stop_text octal_digits filled
row_of_sessions = record { break_at = refl; set = refl; refused = refl; quit = refl; no_program = refl; run = refl; before = refl; no_argument = refl; no_file = refl }
