-- proof: a file's words as lines, or why there are none.
use Rattle.std.specs.Prelude.{ℕ, List, Ok, Err}
use Rattle.std.specs.declared.result.Result.{Result}
use Rattle.ctss_types.specs.declared.file.Refusal.{Refusal}
use Rattle.program_model.specs.Lines.{lines_of_words}

abbrev pub lines_got : Result (List ℕ) Refusal → Result (List (List ℕ)) Refusal
lines_got (Ok words) = Ok (lines_of_words words)
lines_got (Err r) = Err r
