-- claim: the number of a cause.
use Rattle.std.specs.Prelude.{ℕ}
use Rattle.text_model.specs.declared.cause.ScriptCause.{ScriptCause}
use Rattle.text_model.specs.declared.cause.ScriptCause.TheVariants.{NotACard, TimeFalls, UnknownNumber, OverLimit, DrumSmall, DiskSmall, NoEnd, TooLong}

abbrev pub cause_number : ScriptCause → ℕ
cause_number NotACard = 1
cause_number TimeFalls = 2
cause_number UnknownNumber = 3
cause_number OverLimit = 4
cause_number DrumSmall = 5
cause_number DiskSmall = 6
cause_number NoEnd = 7
cause_number TooLong = 8
