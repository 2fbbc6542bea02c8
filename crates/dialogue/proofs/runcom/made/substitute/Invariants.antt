use Rattle.std.proofs.Common.{map, take}
use Rattle.ctss_types.specs.Words.{words_of}
use Rattle.program_model.specs.CommandLines.{with_arguments, all_of}
use Rattle.dialogue.proofs.LinesMade.{IsMade}
use Rattle.dialogue.proofs.runcom.made.substitute.Given as goal

abbrev pub invariant-lines : goal.invariant-lines
invariant-lines l = record {
  made : IsMade l.fits l.room l.made (all_of (map (with_arguments (words_of l.arguments)) (take l.line-index l.lines)));
}
