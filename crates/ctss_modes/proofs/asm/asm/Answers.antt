use Rattle.std.proofs.Common.{ap, subst, Err, List, ℕ}
use Rattle.ctss_modes.specs.Devices.{output_seen}
use Rattle.ctss_modes.specs.Statuses.{WritesCards}
use Rattle.ctss_modes.proofs.Cards.{cards_assemble}
use Rattle.ctss_modes.proofs.Unread.{ends_unread, unread_assembles}
use Rattle.ctss_modes.proofs.asm.asm.Goals as goal

pub returns-in-Ok : goal.returns-in-Ok
returns-in-Ok g c = λ media link.
    cards_assemble _ _ c.in-Ok.bytes.items c.write_assembled.result c.in-Ok.ensures.bytes c.in-Ok.ensures.end c.in-Ok.ensures.size
    (subst (λ (b : List ℕ). WritesCards b (output_seen g.K.Sink c.args.sink.now) (output_seen g.K.Sink c.write_assembled.new.sink) c.write_assembled.result) c.deref.ensures.value c.write_assembled.ensures)

pub returns-in-Err : goal.returns-in-Err
returns-in-Err g c = λ media link.
    unread_assembles _ _ _ _ c.end_unread.result (ends_unread c.in-Err.end _ _ _ _ _ (λ e. c.in-Err.ensures.too_long (ap Err e)) (λ e. c.in-Err.ensures.stopped (ap Err e)) (λ e. c.in-Err.ensures.fault (ap Err e)) c.end_unread.ensures) media link
