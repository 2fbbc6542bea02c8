-- Where nothing failed, the answer is the one that words and bytes define, or want of memory.
use Rattle.std.proofs.Common.{◌≡◌, ℕ, Bool, true, false, nat_eq, nat_le, List, [], ◌∷◌, length, Option, Some, None, Ok, Err, sym, subst, arith}
use Rattle.std.specs.Prelude.{if◌then◌else◌}
use Rattle.std.specs.declared.result.Result.{Result}
use Rattle.std.proofs.lemmas.Bool.Decides.{nat_tests}
use Rattle.faults.specs.Faults.{Rose, WhereTold}
use Rattle.ctss_types.specs.declared.script.Script.{Script}
use Rattle.text_model.specs.declared.mode.Mode.{Mode}
use Rattle.text_model.specs.declared.mode.Mode.TheVariants.{Replay, Dump, Load, Asm, Serve}
use Rattle.text_model.specs.declared.cause.ScriptRefusal.{ScriptRefusal}
use Rattle.text_model.specs.Words.{mode_of}
use Rattle.text_model.specs.Reading.{script_of, max_bytes}
use Rattle.script_read.specs.Bases.{base_of}
use Rattle.fap_model.specs.Decks.{Assembled, deck, faulty}
use Rattle.ctss_modes.specs.declared.outcome.Outcome.{Outcome}
use Rattle.ctss_modes.specs.Outcomes.{bare, IsOneOf}
use Rattle.ctss_modes.specs.Devices.{DevicesSeen, Stands}
use Rattle.ctss_modes.specs.Asm.{assembled_from, statuses_by, status_by}
use Rattle.ctss_modes.specs.Top.{HasCause, IsAllowed, NothingFailed, IsComplete, statuses_asked, statuses_of, statuses_for, statuses_live, status_of_script, status_due, answers_to}

-- a count that stands has not risen
not_risen : (n m : ℕ) → Stands n m → Rose n m → ⊥
not_risen n m stands rose = absurd (omega arith)

-- the status of an outcome is none of the faults
record Unfailed (status : ℕ) : Type 0 where
  reading : nat_eq status 3 ≡ false
  writing : nat_eq status 4 ≡ false
  drum : nat_eq status 5 ≡ false
  disk : nat_eq status 6 ≡ false
  link : nat_eq status 7 ≡ false

differs : (a b : ℕ) → (a ≡ b → ⊥) → nat_eq a b ≡ false
differs a b h = grind (arith, nat_tests)

unfailed : (old new : DevicesSeen) (o : Outcome) → HasCause old new o → NothingFailed old new → Unfailed o.status
unfailed old new o cause none =
    record {
      reading = differs o.status 3 (λ e. not_risen old.input.faults new.input.faults none.input (cause.reading e));
      writing = differs o.status 4 (λ e. not_risen old.output.faults new.output.faults none.output (cause.writing e));
      drum = differs o.status 5 (λ e. not_risen old.media.drum_faults new.media.drum_faults none.drum (cause.drum e));
      disk = differs o.status 6 (λ e. not_risen old.media.disk_faults new.media.disk_faults none.disk (cause.disk e));
      link = differs o.status 7 (λ e. not_risen old.link.faults new.link.faults none.link (cause.link e));
    }

-- what is left of the statuses that the words allow
left_of : (status : ℕ) (mode : Option Mode) → Unfailed status → IsOneOf status (statuses_asked mode) → IsOneOf status (answers_to mode)
left_of status None u h = grind (arith, h, u.reading, u.writing, u.drum, u.disk, u.link, nat_tests)
left_of status (Some Replay) u h = grind (arith, h, u.reading, u.writing, u.drum, u.disk, u.link, nat_tests)
left_of status (Some Dump) u h = grind (arith, h, u.reading, u.writing, u.drum, u.disk, u.link, nat_tests)
left_of status (Some (Load n)) u h = grind (arith, h, u.reading, u.writing, u.drum, u.disk, u.link, nat_tests)
left_of status (Some Asm) u h = grind (arith, h, u.reading, u.writing, u.drum, u.disk, u.link, nat_tests)
left_of status (Some (Serve port turns)) u h = grind (arith, h, u.reading, u.writing, u.drum, u.disk, u.link, nat_tests)

-- and of those that the bytes allow

of_script : (status : ℕ) (read : Result Script ScriptRefusal) → Unfailed status → IsOneOf status (statuses_for read) → IsOneOf status (status_of_script read ∷ 8 ∷ [])
of_script status (Ok script) u h = grind (arith, h, u.reading, u.writing, u.drum, u.disk, u.link, nat_tests)
of_script status (Err refusal) u h = grind (arith, h, u.reading, u.writing, u.drum, u.disk, u.link, nat_tests)

of_base : (status : ℕ) (read : Result Script ScriptRefusal) → Unfailed status → IsOneOf status (statuses_live read) → IsOneOf status (status_of_script read ∷ 8 ∷ [])
of_base status (Ok script) u h = grind (arith, h, u.reading, u.writing, u.drum, u.disk, u.link, nat_tests)
of_base status (Err refusal) u h = grind (arith, h, u.reading, u.writing, u.drum, u.disk, u.link, nat_tests)

of_assembled : (status : ℕ) (said : Assembled) → Unfailed status → IsOneOf status (statuses_by said) → IsOneOf status (status_by said ∷ 8 ∷ [])
of_assembled status (deck ws) u h = grind (arith, h, u.reading, u.writing, u.drum, u.disk, u.link, nat_tests)
of_assembled status (faulty fs) u h = grind (arith, h, u.reading, u.writing, u.drum, u.disk, u.link, nat_tests)

of_cards : (status : ℕ) (fits : Bool) (said : Assembled) → Unfailed status
    → IsOneOf status (if fits then statuses_by said else 2 ∷ 3 ∷ 4 ∷ 8 ∷ []) → IsOneOf status ((if fits then status_by said else 2) ∷ 8 ∷ [])
of_cards status true said u h = of_assembled status said u h
of_cards status false said u h = grind (arith, h, u.reading, u.writing, u.drum, u.disk, u.link, nat_tests)

of_bytes : (status : ℕ) (mode : Option Mode) (bytes : List ℕ) → Unfailed status → IsOneOf status (statuses_of mode bytes)
    → IsOneOf status (status_due mode bytes ∷ 8 ∷ [])
of_bytes status None bytes u h = grind (arith, h, u.reading, u.writing, u.drum, u.disk, u.link, nat_tests)
of_bytes status (Some Replay) bytes u h = of_script status (script_of bytes) u h
of_bytes status (Some Dump) bytes u h = of_script status (script_of bytes) u h
of_bytes status (Some (Load n)) bytes u h = grind (arith, h, u.reading, u.writing, u.drum, u.disk, u.link, nat_tests)
of_bytes status (Some Asm) bytes u h = of_cards status (nat_le (length bytes) max_bytes) (assembled_from bytes) u h
of_bytes status (Some (Serve port turns)) bytes u h = of_base status (base_of bytes) u h

of_told : (status : ℕ) (mode : Option Mode) (left : Option (List ℕ)) → Unfailed status → WhereTold left (λ bytes. IsOneOf status (statuses_of mode bytes))
    → WhereTold left (λ bytes. IsOneOf status (status_due mode bytes ∷ 8 ∷ []))
of_told status mode None u h = tt
of_told status mode (Some bytes) u h = of_bytes status mode bytes u h

pub complete : (words : List (List ℕ)) (old new : DevicesSeen) (o : Outcome) → HasCause old new o → IsAllowed words old o → NothingFailed old new
    → IsComplete words old o
complete words old new o cause allowed none =
    let u = unfailed old new o cause none in
    record {
      by_words = left_of o.status (mode_of words) u allowed.by_words;
      by_bytes = of_told o.status (mode_of words) old.input.left u allowed.by_bytes;
    }

-- the causes where few statuses come

pub cards_have_causes : (old new : DevicesSeen) (o : Outcome) → IsOneOf o.status (0 ∷ 2 ∷ 3 ∷ 4 ∷ 8 ∷ 9 ∷ []) → (o.status ≡ 3 → Rose old.input.faults new.input.faults)
    → (o.status ≡ 4 → Rose old.output.faults new.output.faults) → HasCause old new o
cards_have_causes old new o is reading writing =
    record {
      reading = reading;
      writing = writing;
      drum = λ h. absurd (grind (arith, h, is, nat_tests));
      disk = λ h. absurd (grind (arith, h, is, nat_tests));
      link = λ h. absurd (grind (arith, h, is, nat_tests));
    }

pub words_have_causes : (old new : DevicesSeen) (o : Outcome) → IsOneOf o.status (1 ∷ 4 ∷ []) → (o.status ≡ 4 → Rose old.output.faults new.output.faults) → HasCause old new o
words_have_causes old new o is writing =
    record {
      reading = λ h. absurd (grind (arith, h, is, nat_tests));
      writing = writing;
      drum = λ h. absurd (grind (arith, h, is, nat_tests));
      disk = λ h. absurd (grind (arith, h, is, nat_tests));
      link = λ h. absurd (grind (arith, h, is, nat_tests));
    }

pub memory_has_causes : (old new : DevicesSeen) (o : Outcome) → o ≡ bare 8 0 0 → HasCause old new o
memory_has_causes old new o is = subst (HasCause old new) (sym is) (record { reading = λ h. absurd (omega (arith, h)); writing = λ h. absurd (omega (arith, h)); drum = λ h. absurd (omega (arith, h)); disk = λ h. absurd (omega (arith, h)); link = λ h. absurd (omega (arith, h)) })

pub words_allowed : (status : ℕ) → IsOneOf status (1 ∷ 4 ∷ []) → IsOneOf status (1 ∷ 4 ∷ 8 ∷ [])
words_allowed status h = grind (arith, h, nat_tests)
