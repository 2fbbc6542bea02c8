-- The worked rows by computing.
use Rattle.std.proofs.Common.{refl}
use Rattle.std.specs.Fmt.{digits}
use Rattle.word36.specs.Octal.{octal_digits}
use Rattle.ctss_types.specs.Words.{name_of, text_of_name}
use Rattle.text_model.specs.Canonical.{script_text_of}
use Rattle.text_model.specs.Reading.{script_of}
use Rattle.text_model.specs.Report.{report_of}
use Rattle.text_model.specs.Made.{made_script}
use Rattle.text_model.specs.Summary.{summary_of}
use Rattle.text_model.specs.Rows.{RowOfScript, RowOfRefusals, RowOfFile, RowOfFileRefusals, RowOfTrack, RowOfModes, RowOfServing, RowOfReport, RowOfMade, RowOfSummary}

pub row_of_script : RowOfScript
unfolding script_text_of script_of name_of text_of_name digits
row_of_script = record { written = refl; read = refl; loose = refl }

pub row_of_refusals : RowOfRefusals
unfolding script_of name_of
row_of_refusals =
    record {
      form = refl;
      falls = refl;
      unknown = refl;
      limit = refl;
      drum = refl;
      disk = refl;
      no_end = refl;
      behind_end = refl;
      no_cards = refl;
      no_params = refl;
      common = refl;
      end_falls = refl;
      name_first = refl;
      limit_first = refl;
      number_first = refl;
      owner_first = refl;
      text_first = refl;
      character_first = refl;
      indented = refl;
      ten_digits = refl;
      seven_letters = refl;
      param_twice = refl;
      letters_are_capitals = refl;
    }

pub row_of_file : RowOfFile
unfolding script_text_of script_of name_of text_of_name digits octal_digits
row_of_file = record { written = refl; read = refl; apart = refl; text = refl; blank_text = refl; second_blank = refl }

pub row_of_file_refusals : RowOfFileRefusals
unfolding script_of name_of
row_of_file_refusals =
    record {
      twice = refl;
      mode = refl;
      no_room = refl;
      user_behind = refl;
      file_behind = refl;
      words_behind = refl;
      text_behind = refl;
      no_file = refl;
      no_words = refl;
      six_words = refl;
      digit = refl;
      digits = refl;
      long_text = refl;
    }

pub row_of_track : RowOfTrack
row_of_track = record { last = refl; more = refl }

pub row_of_modes : RowOfModes
row_of_modes =
    record {
      replay = refl;
      dump = refl;
      asm = refl;
      load = refl;
      most = refl;
      more = refl;
      bare_load = refl;
      number = refl;
      option = refl;
      dashes = refl;
      negative = refl;
      nothing = refl;
      three = refl;
    }

pub row_of_serving : RowOfServing
row_of_serving =
    record {
      behind = refl;
      other_order = refl;
      before = refl;
      around = refl;
      no_turns = refl;
      no_port = refl;
      twice = refl;
      port_0 = refl;
      port_more = refl;
      turns_more = refl;
      no_value = refl;
      empty_value = refl;
      option_as_value = refl;
      other_option = refl;
      part_of_option = refl;
      one_more = refl;
      for_another = refl;
      bare = refl;
    }

pub row_of_report : RowOfReport
unfolding report_of name_of text_of_name digits octal_digits
row_of_report = refl

pub row_of_made : RowOfMade
unfolding made_script
row_of_made = record { users = refl; most_users = refl; blocks = refl; counts = refl; events = refl }

pub row_of_summary : RowOfSummary
unfolding summary_of digits
row_of_summary = refl
