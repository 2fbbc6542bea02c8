use Rattle.std.proofs.Common.{◌≡◌, Err, List, ℕ, ap, subst}
use Rattle.ctss_modes.specs.Devices.{input_seen, output_seen}
use Rattle.ctss_modes.proofs.Unread.{ends_unread}
use Rattle.script_show.specs.Input.{ShowsBytes}
use Rattle.script_show.specs.Seen.{streams}
use Rattle.script_show.proofs.Bytes.{input_unread, input_shown}
use Rattle.script_show.proofs.input.show_input.Goals as goal

pub returns-in-Err : goal.returns-in-Err
returns-in-Err g c =
    input_unread (g.T.InputShow.text c.args.text.now) (g.T.InputShow.status c.args.text.now) (streams g.S.Source g.K.Sink c.args.input.now c.args.output.now)
    (streams g.S.Source g.K.Sink c.read_bytes.new.source c.end_unread.new.sink) c.end_unread.result
    (ends_unread c.in-Err.end (input_seen g.S.Source c.args.input.now) (input_seen g.S.Source c.read_bytes.new.source)
    (output_seen g.K.Sink c.args.output.now) (output_seen g.K.Sink c.end_unread.new.sink) c.end_unread.result
    (λ e. c.in-Err.ensures.too_long (ap Err e)) (λ e. c.in-Err.ensures.stopped (ap Err e)) (λ e. c.in-Err.ensures.fault (ap Err e)) c.end_unread.ensures)

pub returns-in-Ok : goal.returns-in-Ok
returns-in-Ok g c =
    let text = g.T.InputShow.text c.args.text.now in
    let status = g.T.InputShow.status c.args.text.now in
    input_shown text status (streams g.S.Source g.K.Sink c.args.input.now c.args.output.now)
    (streams g.S.Source g.K.Sink c.read_bytes.new.source c.show.new.sink) c.show.result c.in-Ok.bytes.items c.in-Ok.ensures.bytes c.in-Ok.ensures.end c.in-Ok.ensures.size
    (subst (λ (b : List ℕ). ShowsBytes text status b (output_seen g.K.Sink c.args.output.now) (output_seen g.K.Sink c.show.new.sink) c.show.result) c.deref.ensures.value c.show.ensures)
