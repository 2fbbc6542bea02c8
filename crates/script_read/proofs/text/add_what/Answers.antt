use Rattle.std.proofs.Common.{sym, ap}
use Rattle.text_model.specs.Canonical.{event_text}
use Rattle.text_writer.proofs.Added.{◌⨾◌, adds_is}
use Rattle.script_read.proofs.text.add_what.Goals as goal

pub returns-in-Line : goal.returns-in-Line
returns-in-Line g c = adds_is (ap event_text (sym c.in-Line.is)) (c.blank-in-Line.ensures ⨾ c.typed.ensures)
