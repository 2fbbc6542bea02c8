use Rattle.std.proofs.Common.{◌≡◌, ℕ, ◌∙◌, Err, refl, sym, ap, subst, arith}
use Rattle.std.proofs.lemmas.Bool.Decides.{nat_tests}
use Rattle.ctss_io.specs.Outside.{after}
use Rattle.ctss_io.specs.Whole.{GrewByProperPrefix}
use Rattle.script_read.specs.Answers.{Reads}
use Rattle.script_read.specs.Bases.{base_of}
use Rattle.script_read.specs.declared.fault.ScriptFault.{ScriptFault}
use Rattle.script_read.proofs.Bases.{bases_are_scripts}
use Rattle.text_model.specs.declared.cause.ScriptRefusal.{ScriptRefusal}
use Rattle.text_model.specs.declared.mode.Mode.{Mode}
use Rattle.text_model.specs.declared.mode.Mode.TheVariants.{Serve}
use Rattle.text_model.specs.Causes.{cause_number}
use Rattle.text_model.specs.Words.{script_refused}
use Rattle.text_model.proofs.LawfulLaws.{scripts_are_lawful}
use Rattle.ctss_modes.specs.Devices.{input_seen}
use Rattle.ctss_modes.specs.Outcomes.{bare}
use Rattle.ctss_modes.specs.Top.{NotServed}
use Rattle.ctss_modes.proofs.Ending.{answers_refused, answers_no_memory}
use Rattle.ctss_modes.proofs.Says.{refused_short, cut_short}
use Rattle.ctss_modes.proofs.Unread.{ends_unread, unread_answers, unread_told_live}
use Rattle.ctss_modes.proofs.live.serve_consoles.Goals as goal

pub returns-in-Err-clause-answers : goal.returns-in-Err-clause-answers
returns-in-Err-clause-answers g c =
    unread_answers _ _ _ _ c.end_unread.result (ends_unread c.in-Err.end _ _ _ _ _ (λ e. c.in-Err.ensures.too_long (ap Err e)) (λ e. c.in-Err.ensures.stopped (ap Err e)) (λ e. c.in-Err.ensures.fault (ap Err e)) c.end_unread.ensures)
    (Serve c.args.listening.port c.args.listening.turns) refl _ _ (NotServed refl refl)

pub returns-in-Err-clause-statuses : goal.returns-in-Err-clause-statuses
returns-in-Err-clause-statuses g c = unread_told_live _ _ _ _ c.end_unread.result (ends_unread c.in-Err.end _ _ _ _ _ (λ e. c.in-Err.ensures.too_long (ap Err e)) (λ e. c.in-Err.ensures.stopped (ap Err e)) (λ e. c.in-Err.ensures.fault (ap Err e)) c.end_unread.ensures)

pub host-requires-clause-lawful : goal.host-requires-clause-lawful
host-requires-clause-lawful g c = scripts_are_lawful _ _ (bases_are_scripts _ _ c.in-Ok-read_base.ensures)

pub returns-in-Ok-read_base-clause-answers : goal.returns-in-Ok-read_base-clause-answers
returns-in-Ok-read_base-clause-answers g c =
    let did = c.host.ensures in
    let cause = did.cause (input_seen g.S.Source c.read_bytes.new.source) in
    record {
      ends = did.ends _ _ (record { bytes = c.in-Ok.bytes.items; came = c.in-Ok.ensures.bytes; whole = c.in-Ok.ensures.end; spelled = ap base_of (sym c.deref.ensures.value) ∙ c.in-Ok-read_base.ensures });
      refused = λ h. absurd (grind (arith, h, did.status, nat_tests));
      cause = record { reading = λ h. absurd (grind (arith, h, did.status, nat_tests)); writing = cause.writing; drum = cause.drum; disk = cause.disk; link = cause.link };
      silent = λ h. did.silent _ _ (grind (arith, h, did.status, nat_tests));
    }

pub returns-in-Err-Refused-clause-answers : goal.returns-in-Err-Refused-clause-answers
returns-in-Err-Refused-clause-answers g c =
    let mode : Mode = Serve c.args.listening.port c.args.listening.turns in
    let did = c.refuse_script.ensures in
    let number : ℕ = c.number.result in
    let refusal : ScriptRefusal = c.in-Err-Refused.refusal in
    let read : base_of c.deref.result.now ≡ Err refusal = subst (λ (f : ScriptFault). Reads (Err f) (base_of c.deref.result.now)) c.in-Err-Refused.field-0-is c.in-Err-Refused.ensures in
    let why = c.number.ensures ∙ ap (λ (r : ScriptRefusal). cause_number r.cause) c.in-Err-Refused.refusal-is in
    let said = ap base_of (sym c.deref.ensures.value) ∙ read in
    answers_refused mode _ _ c.refuse_script.result (NotServed refl refl) did.status
    (λ h.
    refused_short mode _ _ c.refuse_script.result c.in-Ok.bytes.items refusal number c.in-Ok.ensures.bytes c.in-Ok.ensures.end said why
    (did.refused h ∙ ap (λ (r : ScriptRefusal). bare 2 r.card number) c.in-Err-Refused.refusal-is)
    (did.written h ∙ ap (λ (r : ScriptRefusal). after (g.K.Sink.held c.args.sink.now) (script_refused r.card number)) c.in-Err-Refused.refusal-is)
    refl refl)
    (λ words asked h.
    cut_short words mode asked refl _ _ c.refuse_script.result c.in-Ok.bytes.items refusal number c.in-Ok.ensures.bytes c.in-Ok.ensures.end said why
    (did.cut h)
    (subst (λ (r : ScriptRefusal). GrewByProperPrefix (g.K.Sink.held c.args.sink.now) (script_refused r.card number) (g.K.Sink.held c.refuse_script.new.sink)) c.in-Err-Refused.refusal-is (did.part h))
    refl refl)
    did.cause did.memory did.silent

pub returns-clause-answers : goal.returns-clause-answers
returns-clause-answers g c = answers_no_memory (Serve c.args.listening.port c.args.listening.turns) _ _ c.bare.result (NotServed refl refl) c.bare.ensures refl
