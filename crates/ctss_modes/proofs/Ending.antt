-- What a mode answers, by how that ends which it does.
use Rattle.std.proofs.Common.{◌≡◌, ◌≢◌, ℕ, true, false, List, [], ◌∷◌, Some, refl, sym, ap, subst, ◌∙◌, arith}
use Rattle.std.proofs.lemmas.Bool.Decides.{nat_tests}
use Rattle.faults.specs.Faults.{Rose}
use Rattle.ctss_io.specs.Outside.{after}
use Rattle.ctss_io.specs.Whole.{GrewByProperPrefix}
use Rattle.ctss_types.specs.declared.script.Script.{Script}
use Rattle.ctss_types.specs.declared.history.Record.{Record}
use Rattle.text_model.specs.declared.mode.Mode.{Mode}
use Rattle.text_model.specs.Words.{mode_of}
use Rattle.live_run.specs.Media.{MediaSeen}
use Rattle.ctss_modes.specs.declared.outcome.Outcome.{Outcome}
use Rattle.ctss_modes.specs.Outcomes.{bare, failed, IsOneOf}
use Rattle.ctss_modes.specs.Devices.{OutputSeen, DevicesSeen}
use Rattle.ctss_modes.specs.Played.{IsDone, IsCut, IsLost, HasSpent}
use Rattle.ctss_modes.specs.Modes.{TextOfRun, Comes, text_for, runs_script, serves}
use Rattle.ctss_modes.specs.Statuses.{Performs, EndsFor, AnswersFor}
use Rattle.ctss_modes.specs.Top.{RunIsStopped, RunLosesFiles, ScriptIsRefused, IsCutOff, IsSilent, SpendsFor}
use Rattle.ctss_modes.proofs.Says.{is_run, cut_run, is_stopped, is_lost, script_spends, spent_when_done}

status_is : (o p : Outcome) → o ≡ p → o.status ≡ p.status
status_is o p is = ap (λ (x : Outcome). x.status) is

-- what was performed, by how the script's run ended, or where no record of it came

module _ (bytes : TextOfRun) (script : Script) (was now : MediaSeen) (had : OutputSeen) (o : Outcome) where
  pub done_performs : (has : OutputSeen) (rec : Record) → IsDone script was now rec → IsOneOf o.status (0 ∷ 4 ∷ 8 ∷ [])
      → (o.status ≢ 8 → o.run ≡ rec) → (o.card ≡ 0) × (o.cause ≡ 0) → (o.status ≡ 0 → has.held ≡ after had.held (bytes script o.run))
      → (o.status ≡ 4 → GrewByProperPrefix had.held (bytes script o.run) has.held) → (o.status ≡ 4 → Rose had.faults has.faults)
      → (o.status ≡ 8 → o ≡ bare 8 0 0) → (o.status ≡ 8 → has.held ≡ had.held) → Performs bytes script was now had has o
  done_performs has rec done status run numbers text part cause memory silent =
      record {
        status = grind (arith, status, nat_tests);
        done = λ h. subst (IsDone script was now) (sym (run (grind (arith, h, nat_tests)))) done;
        stopped = λ h. absurd (grind (arith, h, status, nat_tests));
        lost = λ h. absurd (grind (arith, h, status, nat_tests));
        numbers = numbers;
        text = text;
        part = part;
        cause = cause;
        memory = memory;
        spent = λ h. spent_when_done script was now rec done;
        silent = λ h. silent (grind (arith, h, status, nat_tests));
      }

  pub drum_performs : (rec : Record) → o ≡ failed 5 rec → IsCut script was now rec → Performs bytes script was now had had o
  drum_performs rec is cut =
      subst (Performs bytes script was now had had) (sym is)
      (record {
        status = refl;
        done = λ h. absurd (let wrong = h in cc);
        stopped = λ h. cut;
        lost = λ h. absurd (omega (arith, h));
        numbers = (refl, refl);
        text = λ h. absurd (omega (arith, h));
        part = λ h. absurd (omega (arith, h));
        cause = λ h. absurd (omega (arith, h));
        memory = λ h. absurd (omega (arith, h));
        spent = λ h. absurd (omega (arith, h));
        silent = λ h. refl;
      })

  pub disk_performs : (rec : Record) → o ≡ failed 6 rec → IsLost script was now rec → Performs bytes script was now had had o
  disk_performs rec is lost =
      subst (Performs bytes script was now had had) (sym is)
      (record {
        status = refl;
        done = λ h. absurd (let wrong = h in cc);
        stopped = λ h. absurd (omega (arith, h));
        lost = λ h. lost;
        numbers = (refl, refl);
        text = λ h. absurd (omega (arith, h));
        part = λ h. absurd (omega (arith, h));
        cause = λ h. absurd (omega (arith, h));
        memory = λ h. absurd (omega (arith, h));
        spent = λ h. absurd (omega (arith, h));
        silent = λ h. refl;
      })

  pub memory_performs : o ≡ bare 8 0 0 → HasSpent script was now → Performs bytes script was now had had o
  memory_performs is spent =
      subst (Performs bytes script was now had had) (sym is)
      (record {
        status = refl;
        done = λ h. absurd (let wrong = h in cc);
        stopped = λ h. absurd (omega (arith, h));
        lost = λ h. absurd (omega (arith, h));
        numbers = (refl, refl);
        text = λ h. absurd (omega (arith, h));
        part = λ h. absurd (omega (arith, h));
        cause = λ h. absurd (omega (arith, h));
        memory = λ h. refl;
        spent = λ h. spent;
        silent = λ h. refl;
      })

module _ (mode : Mode) (old new : DevicesSeen) (o : Outcome) where
  -- by one status alone

  pub ends_stopped : o.status ≡ 5 → ((words : List (List ℕ)) → mode_of words ≡ Some mode → RunIsStopped words old new o) → EndsFor mode old new o
  ends_stopped is stopped =
      record {
        done = λ h. absurd (omega (arith, h, is));
        part = λ words asked h. absurd (omega (arith, h, is));
        stopped = λ words asked h. stopped words asked;
        lost = λ words asked h. absurd (omega (arith, h, is));
        spent = λ h. absurd (grind (arith, h, is, nat_tests));
      }

  pub ends_lost : o.status ≡ 6 → ((words : List (List ℕ)) → mode_of words ≡ Some mode → RunLosesFiles words old new o) → EndsFor mode old new o
  ends_lost is lost =
      record {
        done = λ h. absurd (omega (arith, h, is));
        part = λ words asked h. absurd (omega (arith, h, is));
        stopped = λ words asked h. absurd (omega (arith, h, is));
        lost = λ words asked h. lost words asked;
        spent = λ h. absurd (grind (arith, h, is, nat_tests));
      }

  pub ends_spent : IsOneOf o.status (7 ∷ 8 ∷ []) → SpendsFor mode old new → EndsFor mode old new o
  ends_spent is spends =
      record {
        done = λ h. absurd (grind (arith, h, is, nat_tests));
        part = λ words asked h. absurd (grind (arith, h, is, nat_tests));
        stopped = λ words asked h. absurd (grind (arith, h, is, nat_tests));
        lost = λ words asked h. absurd (grind (arith, h, is, nat_tests));
        spent = λ h. spends;
      }

  memory_silent : o ≡ bare 8 0 0 → new.output.held ≡ old.output.held → IsSilent o.status old new o
  memory_silent is same =
      let at : o.status ≡ 8 = status_is o (bare 8 0 0) is in
      record {
        outcome = is ∙ ap (λ (n : ℕ). bare n 0 0) (sym at);
        same = same;
        media = λ h. absurd (omega (arith, h, at));
        link = λ h. absurd (omega (arith, h, at));
      }

  -- a script that came was performed, whose text is the mode's

  ends_performed : serves mode ≡ false → runs_script mode ≡ true → (script : Script) → Comes mode old new script
      → Performs (text_for mode) script old.media new.media old.output new.output o → EndsFor mode old new o
  ends_performed alone runs script comes p =
      record {
        done = λ h. is_run mode old new o script comes (p.done (grind (arith, h, nat_tests))) p.numbers (p.text h);
        part = λ words asked h. cut_run words mode asked old new o script comes (p.done (grind (arith, h, nat_tests))) p.numbers (p.part h);
        stopped = λ words asked h. is_stopped words mode alone old new o script asked comes (p.silent (grind (arith, h, nat_tests))) (p.stopped h) p.numbers;
        lost = λ words asked h. is_lost words mode alone old new o script asked comes (p.silent (grind (arith, h, nat_tests))) (p.lost h) p.numbers;
        spent = λ h. script_spends mode alone runs old new script comes (p.spent (grind (arith, h, p.status, nat_tests)));
      }

  pub answers_performed : serves mode ≡ false → runs_script mode ≡ true → (script : Script) → Comes mode old new script
      → Performs (text_for mode) script old.media new.media old.output new.output o → AnswersFor mode old new o
  answers_performed alone runs script comes p =
      record {
        ends = ends_performed alone runs script comes p;
        refused = λ h. absurd (grind (arith, h, p.status, nat_tests));
        cause = record {
          reading = λ h. absurd (grind (arith, h, p.status, nat_tests));
          writing = p.cause;
          drum = λ h. (p.stopped h).cause;
          disk = λ h. (p.lost h).cause;
          link = λ h. absurd (grind (arith, h, p.status, nat_tests));
        };
        silent = λ h.
            (let is : o.status ≡ 8 = grind (arith, h, p.status, nat_tests) in
            memory_silent (p.memory is) (p.silent (grind (arith, is, nat_tests))));
      }

  -- the script was refused, and so it was written, or not as memory lacked
  pub answers_refused : SpendsFor mode old new → IsOneOf o.status (2 ∷ 4 ∷ 8 ∷ []) → (o.status ≡ 2 → ScriptIsRefused mode old new o)
      → ((words : List (List ℕ)) → mode_of words ≡ Some mode → o.status ≡ 4 → IsCutOff words old new o)
      → (o.status ≡ 4 → Rose old.output.faults new.output.faults)
      → (o.status ≡ 8 → o ≡ bare 8 0 0) → (o.status ≡ 8 → new.output.held ≡ old.output.held) → AnswersFor mode old new o
  answers_refused spends status refused part cause memory silent =
      record {
        ends = record {
          done = λ h. absurd (grind (arith, h, status, nat_tests));
          part = part;
          stopped = λ words asked h. absurd (grind (arith, h, status, nat_tests));
          lost = λ words asked h. absurd (grind (arith, h, status, nat_tests));
          spent = λ h. spends;
        };
        refused = refused;
        cause = record {
          reading = λ h. absurd (grind (arith, h, status, nat_tests));
          writing = cause;
          drum = λ h. absurd (grind (arith, h, status, nat_tests));
          disk = λ h. absurd (grind (arith, h, status, nat_tests));
          link = λ h. absurd (grind (arith, h, status, nat_tests));
        };
        silent = λ h.
            (let is : o.status ≡ 8 = grind (arith, h, status, nat_tests) in
            memory_silent (memory is) (silent is));
      }

  -- memory lacked before the script was run
  pub answers_no_memory : SpendsFor mode old new → o ≡ bare 8 0 0 → new.output.held ≡ old.output.held → AnswersFor mode old new o
  answers_no_memory spends is same =
      let at : o.status ≡ 8 = status_is o (bare 8 0 0) is in
      answers_refused spends (grind (arith, at, nat_tests)) (λ h. absurd (omega (arith, h, at)))
      (λ words asked h. absurd (omega (arith, h, at))) (λ h. absurd (omega (arith, h, at))) (λ h. is) (λ h. same)
