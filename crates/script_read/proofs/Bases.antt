-- Base scripts beside scripts.
use Rattle.std.proofs.Common.{◌≡◌, ℕ, suc, Bool, true, false, not, ◌&&◌, nat_le, List, [], ◌∷◌, length, Ok, Err, refl, if◌then◌else◌}
use Rattle.std.specs.Prelude.{is_some}
use Rattle.std.specs.declared.result.Result.{Result}
use Rattle.std.specs.Str.Lines.{lines}
use Rattle.ctss_types.specs.declared.script.Script.{Script}
use Rattle.text_model.specs.declared.cause.ScriptCause.{ScriptCause}
use Rattle.text_model.specs.declared.cause.ScriptCause.TheVariants.{NotACard, TooLong}
use Rattle.text_model.specs.declared.cause.ScriptRefusal.{ScriptRefusal}
use Rattle.text_model.specs.Drafts.{Draft, empty_draft, entered}
use Rattle.text_model.specs.Reading.{script_from, script_of, max_bytes}
use Rattle.script_read.specs.Bases.{is_event_card, cards_from, base_of, BasesAreScripts}

-- cards of any script
pub any_cards : (k : ℕ) (d : Draft) (cards : List (List ℕ)) → cards_from false k d cards ≡ script_from k d cards
any_cards k d [] = refl
any_cards k d (card ∷ cards) = by_card (λ e. any_cards (suc k) e cards) (entered d card)
  where
    by_card : ((e : Draft) → cards_from false (suc k) e cards ≡ script_from (suc k) e cards) → (said : Result Draft ScriptCause) →
        ◌≡◌ {A = Result Script ScriptRefusal} (elim said [ Ok e ↦ cards_from false (suc k) e cards | Err cause ↦ Err (record { card = k; cause = cause }) ])
        (elim said [ Ok e ↦ script_from (suc k) e cards | Err cause ↦ Err (record { card = k; cause = cause }) ])
    by_card rest (Ok e) = rest e
    by_card rest (Err cause) = refl

-- a script that base cards make is the one that they make as any cards
base_cards : (k : ℕ) (d : Draft) (cards : List (List ℕ)) (s : Script) → cards_from true k d cards ≡ Ok s → script_from k d cards ≡ Ok s
base_cards k d [] s h = h
base_cards k d (card ∷ cards) s h = by_test (λ e g. base_cards (suc k) e cards s g) (not (is_some d.end) && is_event_card card) (entered d card) h
  where
    by_card : ((e : Draft) → cards_from true (suc k) e cards ≡ Ok s → script_from (suc k) e cards ≡ Ok s) → (said : Result Draft ScriptCause) →
        ◌≡◌ {A = Result Script ScriptRefusal} (elim said [ Ok e ↦ cards_from true (suc k) e cards | Err cause ↦ Err (record { card = k; cause = cause }) ]) (Ok s) →
        ◌≡◌ {A = Result Script ScriptRefusal} (elim said [ Ok e ↦ script_from (suc k) e cards | Err cause ↦ Err (record { card = k; cause = cause }) ]) (Ok s)
    by_card rest (Ok e) g = rest e g
    by_card rest (Err cause) g = absurd (cc)

    by_test : ((e : Draft) → cards_from true (suc k) e cards ≡ Ok s → script_from (suc k) e cards ≡ Ok s) → (b : Bool) (said : Result Draft ScriptCause) →
        ◌≡◌ {A = Result Script ScriptRefusal} (elim (if b then Err NotACard else said) [ Ok e ↦ cards_from true (suc k) e cards | Err cause ↦ Err (record { card = k; cause = cause }) ]) (Ok s) →
        ◌≡◌ {A = Result Script ScriptRefusal} (elim said [ Ok e ↦ script_from (suc k) e cards | Err cause ↦ Err (record { card = k; cause = cause }) ]) (Ok s)
    by_test rest true said g = absurd (cc)
    by_test rest false said g = by_card rest said g

pub bases_are_scripts : BasesAreScripts
unfolding base_of script_of
bases_are_scripts bytes s h = by_size (nat_le (length bytes) max_bytes) h
  where
    by_size : (b : Bool) →
        (if b then cards_from true 1 empty_draft (lines bytes) else Err (record { card = 0; cause = TooLong })) ≡ Ok s →
        (if b then script_from 1 empty_draft (lines bytes) else Err (record { card = 0; cause = TooLong })) ≡ Ok s
    by_size true g = base_cards 1 empty_draft (lines bytes) s g
    by_size false g = absurd (cc)
