-- Which statuses the words and the bytes allow.
use Rattle.std.proofs.Common.{◌≡◌, ℕ, List, [], ◌∷◌, Option, Some, None, refl, sym, subst}
use Rattle.faults.specs.Faults.{WhereTold}
use Rattle.text_model.specs.declared.mode.Mode.{Mode}
use Rattle.text_model.specs.declared.mode.Mode.TheVariants.{Replay, Dump, Load, Asm, Serve}
use Rattle.text_model.specs.Words.{mode_of}
use Rattle.ctss_modes.specs.declared.outcome.Outcome.{Outcome}
use Rattle.ctss_modes.specs.Outcomes.{bare, IsOneOf}
use Rattle.ctss_modes.specs.Devices.{DevicesSeen}
use Rattle.ctss_modes.specs.Top.{IsAllowed, statuses_asked, statuses_of}
use Rattle.ctss_modes.proofs.Cards.{allowed_no_memory}
use Rattle.ctss_modes.proofs.Says.{told_no_memory, live_told_no_memory}

pub always : (left : Option (List ℕ)) (P : Type 0) → P → WhereTold left (λ bytes. P)
always None P h = tt
always (Some bytes) P h = h

pub is_allowed : (words : List (List ℕ)) (mode : Option Mode) (old : DevicesSeen) (o : Outcome) → mode_of words ≡ mode → IsOneOf o.status (statuses_asked mode)
    → WhereTold old.input.left (λ bytes. IsOneOf o.status (statuses_of mode bytes)) → IsAllowed words old o
is_allowed words mode old o asked by_words by_bytes =
    record {
      by_words = subst (λ (m : Option Mode). IsOneOf o.status (statuses_asked m)) (sym asked) by_words;
      by_bytes = subst (λ (m : Option Mode). WhereTold old.input.left (λ bytes. IsOneOf o.status (statuses_of m bytes))) (sym asked) by_bytes;
    }

-- memory may always lack

memory_by_words : (mode : Option Mode) → IsOneOf 8 (statuses_asked mode)
memory_by_words None = refl
memory_by_words (Some Replay) = refl
memory_by_words (Some Dump) = refl
memory_by_words (Some (Load n)) = refl
memory_by_words (Some Asm) = refl
memory_by_words (Some (Serve port turns)) = refl

memory_by_bytes : (mode : Option Mode) (left : Option (List ℕ)) → WhereTold left (λ bytes. IsOneOf 8 (statuses_of mode bytes))
memory_by_bytes None left = always left (IsOneOf 8 (1 ∷ 4 ∷ 8 ∷ [])) refl
memory_by_bytes (Some Replay) left = told_no_memory left
memory_by_bytes (Some Dump) left = told_no_memory left
memory_by_bytes (Some (Load n)) left = always left (IsOneOf 8 (0 ∷ 4 ∷ 5 ∷ 6 ∷ 8 ∷ [])) refl
memory_by_bytes (Some Asm) left = allowed_no_memory left
memory_by_bytes (Some (Serve port turns)) left = live_told_no_memory left

pub memory_is_allowed : (words : List (List ℕ)) (old : DevicesSeen) (o : Outcome) → o ≡ bare 8 0 0 → IsAllowed words old o
memory_is_allowed words old o is = subst (λ (p : Outcome). IsAllowed words old p) (sym is) (record { by_words = memory_by_words (mode_of words); by_bytes = memory_by_bytes (mode_of words) old.input.left })
