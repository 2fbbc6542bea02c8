-- Answers over a drum and a disk that never fail.
use Rattle.std.proofs.Common.{◌≡◌, ℕ, Bool, true, false, nat_eq, List, [], ◌∷◌, Option, Some, None, refl, arith}
use Rattle.std.proofs.lemmas.Bool.Decides.{nat_tests}
use Rattle.text_model.specs.declared.mode.Mode.{Mode}
use Rattle.text_model.specs.declared.mode.Mode.TheVariants.{Replay, Dump, Load, Asm, Serve}
use Rattle.text_model.specs.Words.{mode_of}
use Rattle.ctss_modes.specs.declared.outcome.Outcome.{Outcome}
use Rattle.ctss_modes.specs.Outcomes.{bare, IsOneOf}
use Rattle.ctss_modes.specs.Top.{statuses_asked}
use Rattle.ctss_modes.specs.Answer.{Answers}
use Rattle.ctss_modes.specs.Devices.{OutputSeen}
use Rattle.command_line.specs.Explained.{explained}
use Rattle.command_line.specs.Said.{Says}
use Rattle.ctss_modes.proofs.Answering.{no_memory as none_done}
use Rattle.ctss_run.specs.Program.{HandedSeen, with_media, blank, IsAnswered}

-- what was said
abbrev Said : Outcome → HandedSeen → HandedSeen → Type 0
Said o old new = Says (explained o.status o.card o.cause) old.errors.held new.errors.held old.errors.faults new.errors.faults

-- want of memory before anything was done
pub no_memory : (words : List (List ℕ)) (seen : HandedSeen) (errors : OutputSeen) → Said (bare 8 0 0) seen (record seen { errors = errors })
    → IsAnswered words seen (record seen { errors = errors }) 8
no_memory words seen errors said =
    record {
      outcome = bare 8 0 0;
      contents = blank;
      answers = none_done words (with_media seen blank);
      status_is = refl;
      said = said;
      unfailed = refl;
    }

-- no status says that drum or disk failed

within : (status : ℕ) (mode : Option Mode) → nat_eq status 5 ≡ false → nat_eq status 6 ≡ false → IsOneOf status (statuses_asked mode)
    → IsOneOf status (0 ∷ 1 ∷ 2 ∷ 3 ∷ 4 ∷ 7 ∷ 8 ∷ 9 ∷ [])
within status None drum disk h = grind (arith, h, drum, disk, nat_tests)
within status (Some Replay) drum disk h = grind (arith, h, drum, disk, nat_tests)
within status (Some Dump) drum disk h = grind (arith, h, drum, disk, nat_tests)
within status (Some (Load n)) drum disk h = grind (arith, h, drum, disk, nat_tests)
within status (Some Asm) drum disk h = grind (arith, h, drum, disk, nat_tests)
within status (Some (Serve port turns)) drum disk h = grind (arith, h, drum, disk, nat_tests)

differs : (a b : ℕ) → (a ≡ b → ⊥) → nat_eq a b ≡ false
differs a b h = grind (arith, nat_tests)

answered : (words : List (List ℕ)) (old new : HandedSeen) (contents : List (List ℕ)) (o : Outcome) → Answers words (with_media old blank) (with_media new contents) o
    → IsOneOf o.status (0 ∷ 1 ∷ 2 ∷ 3 ∷ 4 ∷ 7 ∷ 8 ∷ 9 ∷ [])
answered words old new contents o a =
    within o.status (mode_of words)
    (differs o.status 5 (λ h. let rose = a.causes.drum h in absurd (omega (arith, rose))))
    (differs o.status 6 (λ h. let rose = a.causes.disk h in absurd (omega (arith, rose))))
    a.allowed.by_words

pub is_answered : (words : List (List ℕ)) (old new : HandedSeen) (contents : List (List ℕ)) (o : Outcome) → Answers words (with_media old blank) (with_media new contents) o
    → Said o old new → IsAnswered words old new o.status
is_answered words old new contents o a said =
    record { outcome = o; contents = contents; answers = a; status_is = refl; said = said; unfailed = answered words old new contents o a }
