use Rattle.std.proofs.Common.{◌≡◌, ◌<◌, ◌^◌, drop}
use Rattle.program_model.specs.Octals.{octal_from}
use Rattle.dialogue.proofs.octals.octal_value.Given as goal

abbrev pub invariant-digits : goal.invariant-digits
invariant-digits l = record {
  value : octal_from l.number (drop l.digit-index l.word) ≡ octal_from 0 l.word;
  below : l.number < 8 ^ l.digit-index;
}
