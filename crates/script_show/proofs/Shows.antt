-- What follows from what was read and written, where a run's text is shown.
use Rattle.std.proofs.Common.{◌≡◌, ℕ, false, nat_eq, List, [], ◌∷◌, length, Option, Some, None, Ok, Err, refl, sym, ap, subst, ◌∙◌, arith}
use Rattle.std.specs.declared.result.Result.{Result}
use Rattle.std.proofs.lemmas.Bool.Decides.{nat_tests}
use Rattle.faults.specs.Faults.{Rose, WhereTold}
use Rattle.ctss_types.specs.declared.script.Script.{Script}
use Rattle.ctss_types.specs.declared.history.Record.{Record}
use Rattle.ctss_io.specs.Outside.{prepended, after, IsAtEnd}
use Rattle.ctss_io.specs.Whole.{GrewByProperPrefix}
use Rattle.text_model.specs.declared.mode.Mode.TheVariants.{Replay}
use Rattle.text_model.specs.declared.cause.ScriptRefusal.{ScriptRefusal}
use Rattle.text_model.specs.Causes.{cause_number}
use Rattle.text_model.specs.Words.{script_refused}
use Rattle.text_model.specs.Reading.{script_of}
use Rattle.text_model.specs.Lawful.{IsLawful}
use Rattle.system_model.specs.Record.{record_of}
use Rattle.live_run.specs.Media.{MediaSeen}
use Rattle.ctss_modes.specs.declared.outcome.Outcome.{Outcome}
use Rattle.ctss_modes.specs.Outcomes.{bare, IsOneOf}
use Rattle.ctss_modes.specs.Modes.{TextOfRun, IsSpelled, IsRefused}
use Rattle.ctss_modes.specs.Played.{IsCut, IsLost}
use Rattle.ctss_modes.specs.Top.{statuses_for as statuses_of_replay}
use Rattle.ctss_modes.specs.Unread.{EndsUnread}
use Rattle.ctss_modes.proofs.Says.{Allows, long_is_refused, too_long, of_told}
use Rattle.ctss_modes.proofs.Unread.{unread_told}
use Rattle.script_show.specs.Shown.{StreamsSeen, OfRun, OfRefusal, statuses_for, IsShowing}

differs : (a b : ℕ) → (a ≡ b → ⊥) → nat_eq a b ≡ false
differs a b h = grind (arith, nat_tests)

-- no status says that drum or disk failed
pub never_failed : (status : ℕ) → IsOneOf status (0 ∷ 4 ∷ 5 ∷ 6 ∷ 8 ∷ []) → (status ≡ 5 → ⊥) → (status ≡ 6 → ⊥)
    → IsOneOf status (0 ∷ 4 ∷ 8 ∷ [])
never_failed status h drum disk =
    let no_drum = differs status 5 drum in
    let no_disk = differs status 6 disk in
    grind (arith, h, no_drum, no_disk, nat_tests)

-- so the statuses are those of `replay` but for these two
narrowed : (status : ℕ) (said : Result Script ScriptRefusal) → nat_eq status 5 ≡ false → nat_eq status 6 ≡ false
    → IsOneOf status (statuses_of_replay said) → IsOneOf status (statuses_for said)
narrowed status (Ok script) drum disk h = grind (arith, h, drum, disk, nat_tests)
narrowed status (Err refusal) drum disk h = h

all_narrowed : (status : ℕ) (left : Option (List ℕ)) → nat_eq status 5 ≡ false → nat_eq status 6 ≡ false
    → WhereTold left (Allows status) → WhereTold left (λ bytes. IsOneOf status (statuses_for (script_of bytes)))
all_narrowed status None drum disk h = tt
all_narrowed status (Some bytes) drum disk h = narrowed status (script_of bytes) drum disk h

-- more came than may
long_read : (left rest : Option (List ℕ)) (bytes : List ℕ) → length bytes ≡ 4194305 → left ≡ prepended bytes rest
    → IsRefused Replay left rest bytes too_long
long_read left rest bytes size came =
    record { came = came; whole = λ h. absurd (omega (arith, size, h)); refused = long_is_refused bytes (omega (arith, size)) }

-- the input was too long, or could not be read
pub shows_unread : (text : TextOfRun) (old new : StreamsSeen) (o : Outcome)
    → EndsUnread old.input new.input old.output new.output o → IsShowing text old new o
shows_unread text old new o u =
    let five : nat_eq o.status 5 ≡ false = grind (arith, u.statuses, nat_tests) in
    let six : nat_eq o.status 6 ≡ false = grind (arith, u.statuses, nat_tests) in
    record {
      statuses = grind (arith, u.statuses, nat_tests);
      told = all_narrowed o.status old.input.left five six (unread_told old.input new.input old.output new.output o u);
      shown = λ h. absurd (grind (arith, h, u.statuses, nat_tests));
      refused = λ h.
          (let gone = u.gone (grind (arith, h, nat_tests)) in
          record {
            bytes = gone.0;
            refusal = too_long;
            read = long_read old.input.left new.input.left gone.0 gone.1 gone.2;
            outcome = u.refused h;
            written = u.written h;
          });
      unread = u.unread;
      unwritten = u.unwritten;
      part = λ h.
          (let gone = u.gone (grind (arith, h, nat_tests)) in
          record {
            due = script_refused 0 8;
            is_due = OfRefusal gone.0 too_long (long_read old.input.left new.input.left gone.0 gone.1 gone.2) refl;
            part = u.part h;
          });
      silent = λ h. record { outcome = u.bare_is h; same = u.silent h };
    }

-- the bytes are no script
module _ (text : TextOfRun) (old new : StreamsSeen) (o : Outcome) (bytes : List ℕ) (refusal : ScriptRefusal) (number : ℕ)
    (came : old.input.left ≡ prepended bytes new.input.left) (whole : IsAtEnd new.input.left)
    (refused : script_of bytes ≡ Err refusal) (why : number ≡ cause_number refusal.cause) where
  is_read : IsRefused Replay old.input.left new.input.left bytes refusal
  is_read = record { came = came; whole = λ h. whole; refused = refused }

  said_so : IsOneOf o.status (2 ∷ 4 ∷ 8 ∷ []) → IsOneOf o.status (statuses_for (script_of bytes))
  said_so h = subst (λ (r : Result Script ScriptRefusal). IsOneOf o.status (statuses_for r)) (sym refused) (grind (arith, h, nat_tests))

  pub shows_refused : IsOneOf o.status (2 ∷ 4 ∷ 8 ∷ []) → (o.status ≡ 2 → o ≡ bare 2 refusal.card number)
      → (o.status ≡ 2 → new.output.held ≡ after old.output.held (script_refused refusal.card number))
      → (o.status ≡ 4 → GrewByProperPrefix old.output.held (script_refused refusal.card number) new.output.held)
      → (o.status ≡ 4 → Rose old.output.faults new.output.faults)
      → (o.status ≡ 8 → o ≡ bare 8 0 0) → (o.status ≡ 8 → new.output.held ≡ old.output.held)
      → IsShowing text old new o
  shows_refused statuses is written part cause memory same =
      record {
        statuses = grind (arith, statuses, nat_tests);
        told = of_told old.input.left new.input.left bytes (λ bs. IsOneOf o.status (statuses_for (script_of bs))) came whole (said_so statuses);
        shown = λ h. absurd (grind (arith, h, statuses, nat_tests));
        refused = λ h. record {
          bytes = bytes;
          refusal = refusal;
          read = is_read;
          outcome = is h ∙ ap (bare 2 refusal.card) why;
          written = written h ∙ ap (λ (n : ℕ). after old.output.held (script_refused refusal.card n)) why;
        };
        unread = λ h. absurd (grind (arith, h, statuses, nat_tests));
        unwritten = cause;
        part = λ h. record {
          due = script_refused refusal.card number;
          is_due = OfRefusal bytes refusal is_read (ap (script_refused refusal.card) why);
          part = part h;
        };
        silent = λ h.
            (let eight : o.status ≡ 8 = grind (arith, h, statuses, nat_tests) in
            record { outcome = memory eight ∙ ap (λ (n : ℕ). bare n 0 0) (sym eight); same = same eight });
      }

-- the script was run
module _ (text : TextOfRun) (old new : StreamsSeen) (o : Outcome) (bytes : List ℕ) (script : Script)
    (came : old.input.left ≡ prepended bytes new.input.left) (whole : IsAtEnd new.input.left)
    (read : script_of bytes ≡ Ok script) (lawful : IsLawful script) where
  is_spelled : IsSpelled Replay old.input.left new.input.left script
  is_spelled = record { bytes = bytes; came = came; whole = whole; spelled = read }

  run_so : IsOneOf o.status (0 ∷ 4 ∷ 8 ∷ []) → IsOneOf o.status (statuses_for (script_of bytes))
  run_so h = subst (λ (r : Result Script ScriptRefusal). IsOneOf o.status (statuses_for r)) (sym read) (grind (arith, h, nat_tests))

  pub shows_run : IsOneOf o.status (0 ∷ 4 ∷ 8 ∷ []) → (IsOneOf o.status (0 ∷ 4 ∷ []) → o.run ≡ record_of script)
      → (o.card ≡ 0) × (o.cause ≡ 0)
      → (o.status ≡ 0 → new.output.held ≡ after old.output.held (text script (record_of script)))
      → (o.status ≡ 4 → GrewByProperPrefix old.output.held (text script (record_of script)) new.output.held)
      → (o.status ≡ 4 → Rose old.output.faults new.output.faults)
      → (o.status ≡ 8 → o ≡ bare 8 0 0) → (o.status ≡ 8 → new.output.held ≡ old.output.held)
      → IsShowing text old new o
  shows_run statuses run numbers written part cause memory same =
      record {
        statuses = grind (arith, statuses, nat_tests);
        told = of_told old.input.left new.input.left bytes (λ bs. IsOneOf o.status (statuses_for (script_of bs))) came whole (run_so statuses);
        shown = λ h. record {
          script = script;
          spelled = is_spelled;
          lawful = lawful;
          run = run (grind (arith, h, nat_tests));
          written = written h;
          card = numbers.0;
          cause = numbers.1;
        };
        refused = λ h. absurd (grind (arith, h, statuses, nat_tests));
        unread = λ h. absurd (grind (arith, h, statuses, nat_tests));
        unwritten = cause;
        part = λ h. record {
          due = text script (record_of script);
          is_due = OfRun script is_spelled refl;
          part = part h;
        };
        silent = λ h.
            (let eight : o.status ≡ 8 = grind (arith, h, statuses, nat_tests) in
            record { outcome = memory eight ∙ ap (λ (n : ℕ). bare n 0 0) (sym eight); same = same eight });
      }

-- a run over a drum and a disk that never failed

pub drum_stands : (script : Script) (was now : MediaSeen) (rec : Record) → now.drum_faults ≡ 0 → was.drum_faults ≡ 0 → IsCut script was now rec → ⊥
drum_stands script was now rec none zero cut = absurd (let rose = cut.cause in omega (arith, rose, none, zero))

pub disk_stands : (script : Script) (was now : MediaSeen) (rec : Record) → now.disk_faults ≡ 0 → was.disk_faults ≡ 0 → IsLost script was now rec → ⊥
disk_stands script was now rec none zero lost = absurd (let rose = lost.cause in omega (arith, rose, none, zero))
