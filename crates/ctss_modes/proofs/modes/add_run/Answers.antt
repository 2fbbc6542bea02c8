use Rattle.std.proofs.Common.{sym, ap}
use Rattle.ctss_modes.specs.Modes.{ModeAsked, text_for}
use Rattle.text_writer.proofs.Added.{◌⨾◌, adds_is, adds_none}
use Rattle.ctss_modes.proofs.modes.add_run.Goals as goal

pub returns-in-Serve : goal.returns-in-Serve
returns-in-Serve g c =
    adds_is (ap (λ (m : ModeAsked). text_for m c.args.script.now c.args.run.now) (sym c.in-Serve.is))
    (c.add_to-in-Serve.ensures ⨾ c.add_report-in-Serve.ensures)

pub returns-in-Asm : goal.returns-in-Asm
returns-in-Asm g c =
    adds_is (ap (λ (m : ModeAsked). text_for m c.args.script.now c.args.run.now) (sym c.in-Asm.is)) (adds_none g.K.Sink c.args.out.now)
