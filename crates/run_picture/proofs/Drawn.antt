-- What shows a run by one text shows it by another that is the same of that run.
use Rattle.std.proofs.Common.{◌≡◌, ℕ, List, refl, ap, subst, arith}
use Rattle.std.proofs.lemmas.Bool.Decides.{nat_tests}
use Rattle.ctss_types.specs.declared.script.Script.{Script}
use Rattle.ctss_io.specs.Outside.{after}
use Rattle.ctss_io.specs.Whole.{GrewByProperPrefix}
use Rattle.system_model.specs.Record.{record_of}
use Rattle.ctss_modes.specs.declared.outcome.Outcome.{Outcome}
use Rattle.ctss_modes.specs.Outcomes.{bare}
use Rattle.ctss_modes.specs.Devices.{OutputSeen}
use Rattle.ctss_modes.specs.Modes.{TextOfRun}
use Rattle.script_show.specs.Shown.{ShowsRun}

pub shows_same : (one other : TextOfRun) (script : Script) (old new : OutputSeen) (result : Outcome)
    → one script (record_of script) ≡ other script (record_of script) → ShowsRun one script old new result → ShowsRun other script old new result
shows_same one other script old new result is h = record {
  status = h.status;
  run = h.run;
  numbers = h.numbers;
  text = λ done. subst (λ (bytes : List ℕ). new.held ≡ after old.held bytes) is (h.text done);
  part = λ cut. subst (λ (bytes : List ℕ). GrewByProperPrefix old.held bytes new.held) is (h.part cut);
  cause = h.cause;
  memory = h.memory;
  silent = h.silent;
}

-- without memory nothing is written
pub shows_nothing : (text : TextOfRun) (script : Script) (seen : OutputSeen) (result : Outcome) → result ≡ bare 8 0 0 → ShowsRun text script seen seen result
shows_nothing text script seen result is =
    let eight : result.status ≡ 8 = ap (λ (o : Outcome). o.status) is in
    record {
      status = grind (arith, eight, nat_tests);
      run = λ h. absurd (grind (arith, h, eight, nat_tests));
      numbers = (ap (λ (o : Outcome). o.card) is, ap (λ (o : Outcome). o.cause) is);
      text = λ h. absurd (omega (arith, h, eight));
      part = λ h. absurd (omega (arith, h, eight));
      cause = λ h. absurd (omega (arith, h, eight));
      memory = λ h. is;
      silent = λ h. refl;
    }
