use Rattle.std.proofs.Common.{refl}
use Rattle.text_model.specs.declared.mode.Mode.TheVariants.{Load}
use Rattle.ctss_modes.proofs.Ending.{answers_performed, answers_no_memory}
use Rattle.ctss_modes.proofs.Says.{unbegun}
use Rattle.ctss_modes.proofs.modes.load.Goals as goal

pub returns-in-Ok-clause-answers : goal.returns-in-Ok-clause-answers
returns-in-Ok-clause-answers g c = λ input link.
    answers_performed (Load c.args.n) _ _ c.perform.result refl refl c.in-Ok.script (record { unread = refl; made = c.in-Ok.ensures.value }) c.perform.ensures

pub returns-in-Err-clause-answers : goal.returns-in-Err-clause-answers
returns-in-Err-clause-answers g c = λ input link.
    answers_no_memory (Load c.args.n) _ _ c.bare.result (unbegun (Load c.args.n) refl refl _ _ refl refl) c.bare.ensures refl
