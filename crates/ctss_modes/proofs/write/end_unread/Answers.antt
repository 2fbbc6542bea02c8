use Rattle.std.proofs.Common.{sym, subst}
use Rattle.ctss_io.specs.declared.whole.ReadEnd.{ReadEnd}
use Rattle.ctss_modes.specs.Devices.{output_seen}
use Rattle.ctss_modes.specs.Unread.{EndsBy}
use Rattle.ctss_modes.proofs.write.end_unread.Goals as goal

pub returns-in-TooLong : goal.returns-in-TooLong
returns-in-TooLong g c =
    let e = c.refuse_script.ensures in
    subst (λ (end : ReadEnd). EndsBy end (output_seen g.K.Sink c.args.sink.now) (output_seen g.K.Sink c.refuse_script.new.sink) c.refuse_script.result) (sym c.in-TooLong.is)
    (record { statuses = e.status; refused = e.refused; written = e.written; cut = e.cut; part = e.part; unwritten = e.cause; memory = e.memory; silent = e.silent })
