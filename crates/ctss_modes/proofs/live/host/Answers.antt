use Rattle.std.proofs.Common.{ℕ, ◌≡◌, ◌*◌, [], ◌∷◌, refl, sym, ap, subst, arith}
use Rattle.std.proofs.lemmas.Bool.Decides.{nat_tests}
use Rattle.ctss_types.specs.declared.script.Script.{Script}
use Rattle.ctss_io.specs.Outside.{after}
use Rattle.ctss_io.specs.Whole.{GrewByProperPrefix}
use Rattle.text_model.specs.declared.mode.Mode.TheVariants.{Serve}
use Rattle.ctss_modes.specs.declared.outcome.Outcome.{Outcome}
use Rattle.ctss_modes.specs.Outcomes.{IsOneOf}
use Rattle.ctss_modes.specs.Modes.{text_for}
use Rattle.ctss_modes.proofs.Ending.{ends_stopped, ends_lost, ends_spent}
use Rattle.ctss_modes.proofs.Says.{all_served, drum_ended, disk_ended, live_run, live_cut, live_stopped, live_lost, live_spent_when_done}
use Rattle.ctss_modes.specs.Top.{Serving}
use Rattle.ctss_modes.proofs.live.host.Goals as goal

pub returns-in-Ok-Done-clause-ends : goal.returns-in-Ok-Done-clause-ends
returns-in-Ok-Done-clause-ends g c = λ was now spelled.
    let both = all_served c.args.base c.args.listening.port c.args.listening.turns _ _ _ _ c.in-Ok-Done.field-0 c.in-Ok-Done.ensures.served c.in-Ok-Done.events c.in-Ok-Done.record c.in-Ok-Done.field-0-is in
    let script : ℕ → Script = λ n. record c.args.base { events = c.in-Ok-Done.events; end = 1000 * n } in
    let wrote = c.write_run.ensures in
    record {
      done = λ h.
          live_run c.args.listening.port c.args.listening.turns _ _ c.write_run.result c.args.base c.in-Ok-Done.events c.in-Ok-Done.record spelled both.0 both.1 (wrote.run (grind (arith, h, nat_tests))) wrote.numbers
          (subst (λ (n : ℕ). g.K.Sink.held c.write_run.new.sink ≡ after (g.K.Sink.held c.args.sink.now) (text_for (Serve c.args.listening.port c.args.listening.turns) (script n) c.write_run.result.run)) c.from.ensures (wrote.text h));
      part = λ words asked h.
          live_cut words c.args.listening.port c.args.listening.turns asked _ _ c.write_run.result c.args.base c.in-Ok-Done.events c.in-Ok-Done.record spelled both.0 both.1 (wrote.run (grind (arith, h, nat_tests))) wrote.numbers
          (subst (λ (n : ℕ). GrewByProperPrefix (g.K.Sink.held c.args.sink.now) (text_for (Serve c.args.listening.port c.args.listening.turns) (script n) c.write_run.result.run) (g.K.Sink.held c.write_run.new.sink)) c.from.ensures (wrote.part h));
      stopped = λ words asked h. absurd (grind (arith, h, wrote.status, nat_tests));
      lost = λ words asked h. absurd (grind (arith, h, wrote.status, nat_tests));
      spent = λ h. Serving c.args.base spelled (live_spent_when_done c.args.base c.args.listening.port c.args.listening.turns _ _ _ _ c.in-Ok-Done.events c.in-Ok-Done.record both);
    }

pub returns-in-Ok-DrumFailed-clause-ends : goal.returns-in-Ok-DrumFailed-clause-ends
returns-in-Ok-DrumFailed-clause-ends g c = λ was now spelled.
    ends_stopped (Serve c.args.listening.port c.args.listening.turns) _ _ c.failed.result (ap (λ (o : Outcome). o.status) c.failed.ensures)
    (λ words asked.
    live_stopped words c.args.listening.port c.args.listening.turns asked _ _ c.failed.result c.args.base c.in-Ok-DrumFailed.run' spelled refl
    (drum_ended c.args.base c.args.listening.port c.args.listening.turns _ _ _ _ c.in-Ok-DrumFailed.field-0 c.in-Ok-DrumFailed.ensures.served c.in-Ok-DrumFailed.run' c.in-Ok-DrumFailed.field-0-is) c.failed.ensures)

pub returns-in-Ok-DiskFailed-clause-ends : goal.returns-in-Ok-DiskFailed-clause-ends
returns-in-Ok-DiskFailed-clause-ends g c = λ was now spelled.
    ends_lost (Serve c.args.listening.port c.args.listening.turns) _ _ c.failed-in-Ok-DiskFailed.result (ap (λ (o : Outcome). o.status) c.failed-in-Ok-DiskFailed.ensures)
    (λ words asked.
    live_lost words c.args.listening.port c.args.listening.turns asked _ _ c.failed-in-Ok-DiskFailed.result c.args.base c.in-Ok-DiskFailed.run' spelled refl
    (disk_ended c.args.base c.args.listening.port c.args.listening.turns _ _ _ _ c.in-Ok-DiskFailed.field-0 c.in-Ok-DiskFailed.ensures.served c.in-Ok-DiskFailed.run' c.in-Ok-DiskFailed.field-0-is) c.failed-in-Ok-DiskFailed.ensures)

pub returns-in-Err-Link-clause-ends : goal.returns-in-Err-Link-clause-ends
returns-in-Err-Link-clause-ends g c = λ was now spelled.
    ends_spent (Serve c.args.listening.port c.args.listening.turns) _ _ c.bare.result (subst (λ (o : Outcome). IsOneOf o.status (7 ∷ 8 ∷ [])) (sym c.bare.ensures) refl) (Serving c.args.base spelled c.in-Err-Link.ensures.spent)

pub returns-clause-ends : goal.returns-clause-ends
returns-clause-ends g c = λ was now spelled.
    ends_spent (Serve c.args.listening.port c.args.listening.turns) _ _ c.bare-in-Err-NoMemory.result (subst (λ (o : Outcome). IsOneOf o.status (7 ∷ 8 ∷ [])) (sym c.bare-in-Err-NoMemory.ensures) refl) (Serving c.args.base spelled c.in-Err-NoMemory.ensures.spent)
