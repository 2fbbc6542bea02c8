use Rattle.std.proofs.Common.{◌≡◌, sym, ◌∙◌, Err, Ok, ap, subst}
use Rattle.ctss_io.specs.Outside.{after}
use Rattle.ctss_io.specs.Whole.{GrewByProperPrefix}
use Rattle.script_read.specs.Answers.{Reads}
use Rattle.script_read.specs.declared.fault.ScriptFault.{ScriptFault}
use Rattle.text_model.specs.declared.cause.ScriptRefusal.{ScriptRefusal}
use Rattle.text_model.specs.Causes.{cause_number}
use Rattle.text_model.specs.Words.{script_refused}
use Rattle.text_model.specs.Reading.{script_of}
use Rattle.text_model.proofs.LawfulLaws.{scripts_are_lawful}
use Rattle.ctss_modes.specs.Outcomes.{bare}
use Rattle.ctss_modes.specs.Devices.{input_seen, output_seen}
use Rattle.ctss_modes.proofs.Unread.{ends_unread}
use Rattle.script_show.specs.Seen.{streams}
use Rattle.script_show.proofs.Shows.{shows_unread, shows_refused, shows_run}
use Rattle.script_show.proofs.show.show_script.Goals as goal

pub show-requires : goal.show-requires
show-requires g c = scripts_are_lawful _ _ c.in-Ok-read_script.ensures

pub returns-in-Err : goal.returns-in-Err
returns-in-Err g c =
    shows_unread (g.T.RunShow.bytes c.args.text.now) (streams g.S.Source g.K.Sink c.args.input.now c.args.output.now)
    (streams g.S.Source g.K.Sink c.read_bytes.new.source c.end_unread.new.sink) c.end_unread.result
    (ends_unread c.in-Err.end (input_seen g.S.Source c.args.input.now) (input_seen g.S.Source c.read_bytes.new.source)
    (output_seen g.K.Sink c.args.output.now) (output_seen g.K.Sink c.end_unread.new.sink) c.end_unread.result
    (λ e. c.in-Err.ensures.too_long (ap Err e)) (λ e. c.in-Err.ensures.stopped (ap Err e)) (λ e. c.in-Err.ensures.fault (ap Err e)) c.end_unread.ensures)

pub returns-in-Ok-read_script : goal.returns-in-Ok-read_script
returns-in-Ok-read_script g c =
    let read : script_of c.in-Ok.bytes.items ≡ Ok c.in-Ok-read_script.script = ap script_of (sym c.deref.ensures.value) ∙ c.in-Ok-read_script.ensures in
    let run = c.show.ensures in
    shows_run (g.T.RunShow.bytes c.args.text.now) (streams g.S.Source g.K.Sink c.args.input.now c.args.output.now)
    (streams g.S.Source g.K.Sink c.read_bytes.new.source c.show.new.sink) c.show.result c.in-Ok.bytes.items c.in-Ok-read_script.script c.in-Ok.ensures.bytes c.in-Ok.ensures.end read
    (scripts_are_lawful _ _ read)
    run.status run.run run.numbers run.text run.part run.cause run.memory run.silent

pub returns-in-Err-Refused : goal.returns-in-Err-Refused
returns-in-Err-Refused g c =
    let read : script_of c.deref.result.now ≡ Err c.in-Err-Refused.refusal = subst (λ (f : ScriptFault). Reads (Err f) (script_of c.deref.result.now)) c.in-Err-Refused.field-0-is c.in-Err-Refused.ensures in
    let said = c.refuse_script.ensures in
    shows_refused (g.T.RunShow.bytes c.args.text.now) (streams g.S.Source g.K.Sink c.args.input.now c.args.output.now)
    (streams g.S.Source g.K.Sink c.read_bytes.new.source c.refuse_script.new.sink) c.refuse_script.result c.in-Ok.bytes.items c.in-Err-Refused.refusal c.number.result c.in-Ok.ensures.bytes c.in-Ok.ensures.end
    (ap script_of (sym c.deref.ensures.value) ∙ read)
    (c.number.ensures ∙ ap (λ (r : ScriptRefusal). cause_number r.cause) c.in-Err-Refused.refusal-is)
    said.status
    (λ h. said.refused h ∙ ap (λ (r : ScriptRefusal). bare 2 r.card c.number.result) c.in-Err-Refused.refusal-is)
    (λ h. said.written h ∙ ap (λ (r : ScriptRefusal). after (g.K.Sink.held c.args.output.now) (script_refused r.card c.number.result)) c.in-Err-Refused.refusal-is)
    (λ h. subst (λ (r : ScriptRefusal). GrewByProperPrefix (g.K.Sink.held c.args.output.now) (script_refused r.card c.number.result) (g.K.Sink.held c.refuse_script.new.sink)) c.in-Err-Refused.refusal-is (said.part h))
    said.cause said.memory said.silent
