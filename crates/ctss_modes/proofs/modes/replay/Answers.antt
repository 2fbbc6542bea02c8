use Rattle.std.proofs.Common.{◌≡◌, ℕ, refl, sym, ◌∙◌, Err, Ok, ap, subst}
use Rattle.ctss_io.specs.Outside.{after}
use Rattle.ctss_io.specs.Whole.{GrewByProperPrefix}
use Rattle.script_read.specs.Answers.{Reads}
use Rattle.script_read.specs.declared.fault.ScriptFault.{ScriptFault}
use Rattle.text_model.specs.declared.cause.ScriptRefusal.{ScriptRefusal}
use Rattle.text_model.specs.Causes.{cause_number}
use Rattle.text_model.specs.Words.{script_refused}
use Rattle.ctss_modes.specs.Outcomes.{bare}
use Rattle.text_model.specs.Reading.{script_of}
use Rattle.text_model.proofs.LawfulLaws.{scripts_are_lawful}
use Rattle.ctss_modes.proofs.Ending.{answers_performed, answers_refused, answers_no_memory}
use Rattle.ctss_modes.proofs.Says.{refused_short, cut_short, comes_read, replays_runs, replays_reads, replays_script, replays_alone, unbegun}
use Rattle.ctss_modes.proofs.Unread.{ends_unread, unread_answers, unread_told}
use Rattle.ctss_modes.proofs.modes.replay.Goals as goal

pub returns-in-Err-clause-answers : goal.returns-in-Err-clause-answers
returns-in-Err-clause-answers g c = λ link.
    unread_answers _ _ _ _ c.end_unread.result (ends_unread c.in-Err.end _ _ _ _ _ (λ e. c.in-Err.ensures.too_long (ap Err e)) (λ e. c.in-Err.ensures.stopped (ap Err e)) (λ e. c.in-Err.ensures.fault (ap Err e)) c.end_unread.ensures)
    c.args.mode (replays_reads c.args.mode c.requires.mode) _ link (unbegun c.args.mode (replays_alone c.args.mode c.requires.mode) (replays_runs c.args.mode c.requires.mode) _ _ refl refl)

pub returns-in-Err-clause-statuses : goal.returns-in-Err-clause-statuses
returns-in-Err-clause-statuses g c = unread_told _ _ _ _ c.end_unread.result (ends_unread c.in-Err.end _ _ _ _ _ (λ e. c.in-Err.ensures.too_long (ap Err e)) (λ e. c.in-Err.ensures.stopped (ap Err e)) (λ e. c.in-Err.ensures.fault (ap Err e)) c.end_unread.ensures)

pub perform-requires-clause-lawful : goal.perform-requires-clause-lawful
perform-requires-clause-lawful g c = scripts_are_lawful _ _ c.in-Ok-read_script.ensures

pub returns-in-Ok-read_script-clause-answers : goal.returns-in-Ok-read_script-clause-answers
returns-in-Ok-read_script-clause-answers g c = λ link.
    let spelled : script_of c.in-Ok.bytes.items ≡ Ok c.in-Ok-read_script.script = ap script_of (sym c.deref.ensures.value) ∙ c.in-Ok-read_script.ensures in
    answers_performed c.args.mode _ _ c.perform.result (replays_alone c.args.mode c.requires.mode) (replays_runs c.args.mode c.requires.mode) c.in-Ok-read_script.script
    (comes_read c.args.mode c.requires.mode _ _ c.in-Ok.bytes.items c.in-Ok-read_script.script c.in-Ok.ensures.bytes c.in-Ok.ensures.end spelled)
    c.perform.ensures

pub returns-in-Err-Refused-clause-answers : goal.returns-in-Err-Refused-clause-answers
returns-in-Err-Refused-clause-answers g c = λ link.
    let mode = c.args.mode in
    let reads = replays_reads mode c.requires.mode in
    let did = c.refuse_script.ensures in
    let number : ℕ = c.number.result in
    let refusal : ScriptRefusal = c.in-Err-Refused.refusal in
    let read : script_of c.deref.result.now ≡ Err refusal = subst (λ (f : ScriptFault). Reads (Err f) (script_of c.deref.result.now)) c.in-Err-Refused.field-0-is c.in-Err-Refused.ensures in
    let why = c.number.ensures ∙ ap (λ (r : ScriptRefusal). cause_number r.cause) c.in-Err-Refused.refusal-is in
    let said = replays_script mode c.requires.mode c.in-Ok.bytes.items ∙ ap script_of (sym c.deref.ensures.value) ∙ read in
    answers_refused mode _ _ c.refuse_script.result (unbegun mode (replays_alone mode c.requires.mode) (replays_runs mode c.requires.mode) _ _ refl refl) did.status
    (λ h.
    refused_short mode _ _ c.refuse_script.result c.in-Ok.bytes.items refusal number c.in-Ok.ensures.bytes c.in-Ok.ensures.end said why
    (did.refused h ∙ ap (λ (r : ScriptRefusal). bare 2 r.card number) c.in-Err-Refused.refusal-is)
    (did.written h ∙ ap (λ (r : ScriptRefusal). after (g.K.Sink.held c.args.sink.now) (script_refused r.card number)) c.in-Err-Refused.refusal-is)
    refl refl)
    (λ words asked h.
    cut_short words mode asked reads _ _ c.refuse_script.result c.in-Ok.bytes.items refusal number c.in-Ok.ensures.bytes c.in-Ok.ensures.end said why
    (did.cut h)
    (subst (λ (r : ScriptRefusal). GrewByProperPrefix (g.K.Sink.held c.args.sink.now) (script_refused r.card number) (g.K.Sink.held c.refuse_script.new.sink)) c.in-Err-Refused.refusal-is (did.part h))
    refl refl)
    did.cause did.memory did.silent

pub returns-clause-answers : goal.returns-clause-answers
returns-clause-answers g c = λ link.
    answers_no_memory c.args.mode _ _ c.bare.result (unbegun c.args.mode (replays_alone c.args.mode c.requires.mode) (replays_runs c.args.mode c.requires.mode) _ _ refl refl) c.bare.ensures refl
