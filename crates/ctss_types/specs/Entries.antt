-- claim: the words of an entry's line.
use Rattle.std.specs.Prelude.{ℕ, List, codes}
use Rattle.ctss_types.specs.declared.history.Cause.{Cause}
use Rattle.ctss_types.specs.declared.history.Cause.TheVariants as cause
use Rattle.ctss_types.specs.declared.history.EventKind.{EventKind}
use Rattle.ctss_types.specs.declared.history.EventKind.TheVariants as kind

abbrev pub cause_text : Cause → List ℕ
cause_text cause.Time = codes "TIME"
cause_text cause.Wait = codes "WAIT"
cause_text cause.Stop = codes "STOP"
cause_text cause.Size = codes "SIZE"
cause_text cause.Preempt = codes "PREEMPT"
cause_text cause.End = codes "END"

abbrev pub kind_text : EventKind → List ℕ
kind_text kind.Dial = codes "DIAL"
kind_text kind.Line = codes "LINE"
kind_text kind.Quit = codes "QUIT"
kind_text kind.Hang = codes "HANG"
kind_text kind.Spent = codes "SPENT"
