-- The lines of a command file are added as the row of RUNCOM says.
use Rattle.std.proofs.Common.{◌≡◌, ℕ, ◌-◌, List, drop, Ok, Err, ap}
use Rattle.std.specs.declared.result.Result.{Result}
use Rattle.ctss_types.specs.Words.{words_of}
use Rattle.ctss_types.specs.declared.file.Refusal.{Refusal}
use Rattle.program_model.specs.Lines.{lines_of_words}
use Rattle.program_model.specs.CommandLines.{lines_with, command_lines}
use Rattle.cmd_program.specs.Lines.{lines_got}
use Rattle.user_model.specs.Commands.{CommandLine, lines_added, file_run}

pub lines_fed : (file : Result (List ℕ) Refusal) (lines : List (List ℕ)) (x : CommandLine) → Ok lines ≡ lines_got file
    → file_run file x ≡ lines_added (lines_with lines (drop 2 (words_of x.line)) (256 - x.fed))
unfolding command_lines
lines_fed (Ok ws) lines x h =
    let same : lines_of_words ws ≡ lines = cc in
    ap (λ (ls : List (List ℕ)). lines_added (lines_with ls (drop 2 (words_of x.line)) (256 - x.fed))) same
lines_fed (Err r) lines x h = absurd cc
