-- From what each mode promises to the one promise of an answer.
use Rattle.std.proofs.Common.{◌≡◌, ℕ, true, false, List, [], ◌∷◌, Option, None, Some, refl, sym, ap, subst, ◌∙◌, arith}
use Rattle.std.proofs.lemmas.Bool.Decides.{nat_tests}
use Rattle.faults.specs.Faults.{Rose, WhereTold}
use Rattle.ctss_io.specs.Outside.{after}
use Rattle.ctss_io.specs.Whole.{GrewByProperPrefix}
use Rattle.text_model.specs.declared.mode.Mode.{Mode}
use Rattle.text_model.specs.declared.mode.Mode.TheVariants.{Replay, Dump, Load, Asm, Serve}
use Rattle.text_model.specs.Words.{mode_of, words_refused}
use Rattle.ctss_modes.specs.declared.outcome.Outcome.{Outcome}
use Rattle.ctss_modes.specs.Outcomes.{bare, IsOneOf}
use Rattle.ctss_modes.specs.Devices.{DevicesSeen}
use Rattle.ctss_modes.specs.Modes.{runs_script, reads_script, serves}
use Rattle.ctss_modes.specs.Statuses.{AnswersFor, Assembles}
use Rattle.ctss_modes.specs.Top.{IsRun, OfWords, ScriptIsRefused, Unbegun, NotServed, SpendsFor, asks_run, asks_link, statuses_asked, statuses_of}
use Rattle.ctss_modes.specs.Answer.{Answers, IsAnswer}
use Rattle.ctss_modes.proofs.Allowed.{always, is_allowed, memory_is_allowed}
use Rattle.ctss_modes.proofs.Cards.{cut_by_words}
use Rattle.ctss_modes.proofs.Complete.{complete, cards_have_causes, words_have_causes, memory_has_causes, words_allowed}

-- the mode that is asked for, or another
abbrev mode_or : Mode → Option Mode → Mode
mode_or other None = other
mode_or other (Some mode) = mode

-- words ask for one mode
one_mode : (asked : Option Mode) (a b : Mode) → asked ≡ Some a → asked ≡ Some b → a ≡ b
one_mode asked a b first second = ap (mode_or a) (sym first ∙ second)

not_cards : (mode : Mode) → runs_script mode ≡ true → (asked : Option Mode) → asked ≡ Some mode → asked ≡ Some Asm → ⊥
not_cards mode runs asked is cards = let wrong : false ≡ true = subst (λ (m : Mode). runs_script m ≡ true) (one_mode asked mode Asm is cards) runs in cc

-- a mode that runs a script refuses neither words nor cards
neither : (mode : Mode) (status : ℕ) → runs_script mode ≡ true → IsOneOf status (statuses_asked (Some mode)) → (status ≡ 1 → ⊥) × (status ≡ 9 → ⊥)
neither Replay status runs h = (λ is. grind (arith, h, is, nat_tests), λ is. grind (arith, h, is, nat_tests))
neither Dump status runs h = (λ is. grind (arith, h, is, nat_tests), λ is. grind (arith, h, is, nat_tests))
neither (Load n) status runs h = (λ is. grind (arith, h, is, nat_tests), λ is. grind (arith, h, is, nat_tests))
neither Asm status runs h = absurd (let wrong = runs in cc)
neither (Serve port turns) status runs h = (λ is. grind (arith, h, is, nat_tests), λ is. grind (arith, h, is, nat_tests))

-- what a mode that runs a script promises
pub record Scripted (mode : Mode) (old new : DevicesSeen) (o : Outcome) : Type 0 where
  pub runs : runs_script mode ≡ true
  pub statuses : IsOneOf o.status (statuses_asked (Some mode))
  pub told : WhereTold old.input.left (λ bytes. IsOneOf o.status (statuses_of (Some mode) bytes))
  pub answers : AnswersFor mode old new o
  pub unlinked : serves mode ≡ false → new.link ≡ old.link

scripted_words : (mode : Mode) (old new : DevicesSeen) (o : Outcome) → Scripted mode old new o → (words : List (List ℕ)) → mode_of words ≡ Some mode → Answers words old new o
scripted_words mode old new o s words asked =
    let allowed = is_allowed words (Some mode) old o asked s.statuses s.told in
    let not = neither mode o.status s.runs s.statuses in
    record {
      headline = λ m is runs h. subst (λ (k : Mode). IsRun k old new o) (one_mode (mode_of words) mode m asked is) (s.answers.ends.done h);
      deck = λ is h. absurd (not_cards mode s.runs (mode_of words) asked is);
      refusals = record {
        of_words = λ h. absurd (not.0 h);
        of_script = λ m is reads h.
            (let same = one_mode (mode_of words) mode m asked is in
            subst (λ (k : Mode). ScriptIsRefused k old new o) same (s.answers.refused h));
        of_input = λ is h. absurd (not_cards mode s.runs (mode_of words) asked is);
        of_cards = λ h. absurd (not.1 h);
      };
      causes = s.answers.cause;
      cut_off = s.answers.ends.part words asked;
      stopped = s.answers.ends.stopped words asked;
      lost = s.answers.ends.lost words asked;
      silent = s.answers.silent;
      spent = λ h m is. subst (λ (k : Mode). SpendsFor k old new) (one_mode (mode_of words) mode m asked is) (s.answers.ends.spent h);
      apart = record {
        media = λ h. absurd (let wrong : true ≡ false = sym s.runs ∙ subst (λ (m : Option Mode). asks_run m ≡ false) asked h in cc);
        link = λ h. s.unlinked (subst (λ (m : Option Mode). asks_link m ≡ false) asked h);
      };
      allowed = allowed;
      complete = λ none. complete words old new o s.answers.cause allowed none;
    }

pub scripted : (mode : Mode) (old new : DevicesSeen) (o : Outcome) → Scripted mode old new o → IsAnswer (Some mode) old new o
scripted mode old new o s = record { to_words = scripted_words mode old new o s }

-- an assembly asks nothing of drum, disk and link

assembles_words : (old new : DevicesSeen) (o : Outcome) → Assembles old new o → new.media ≡ old.media → new.link ≡ old.link → (words : List (List ℕ)) → mode_of words ≡ Some Asm → Answers words old new o
assembles_words old new o s media link words asked =
    let causes = cards_have_causes old new o s.status s.unread s.unwritten in
    let allowed = is_allowed words (Some Asm) old o asked s.status s.told in
    record {
      headline = λ m is runs h. absurd (not_cards m runs (mode_of words) is asked);
      deck = λ is h. s.deck h;
      refusals = record {
        of_words = λ h. absurd (grind (arith, h, s.status, nat_tests));
        of_script = λ m is reads h. absurd (let wrong : false ≡ true = subst (λ (k : Mode). reads_script k ≡ true) (one_mode (mode_of words) m Asm is asked) reads in cc);
        of_input = λ is h. s.long h;
        of_cards = s.faults;
      };
      causes = causes;
      cut_off = λ h. cut_by_words words old new o asked (s.cut h) (s.part h);
      stopped = λ h. absurd (grind (arith, h, s.status, nat_tests));
      lost = λ h. absurd (grind (arith, h, s.status, nat_tests));
      silent = λ h. s.silent (grind (arith, h, s.status, nat_tests));
      spent = λ h m is. subst (λ (k : Mode). SpendsFor k old new) (one_mode (mode_of words) Asm m asked is) media;
      apart = record { media = λ h. media; link = λ h. link };
      allowed = allowed;
      complete = λ none. complete words old new o causes allowed none;
    }

pub assembles : (old new : DevicesSeen) (o : Outcome) → Assembles old new o → new.media ≡ old.media → new.link ≡ old.link → IsAnswer (Some Asm) old new o
assembles old new o s media link = record { to_words = assembles_words old new o s media link }

-- what refused words come to, by statuses
pub record Refuses (old new : DevicesSeen) (o : Outcome) : Type 0 where
  pub statuses : IsOneOf o.status (1 ∷ 4 ∷ [])
  pub refused : o.status ≡ 1 → o ≡ bare 1 0 0
  pub written : o.status ≡ 1 → new.output.held ≡ after old.output.held words_refused
  pub cut : o.status ≡ 4 → o ≡ bare 4 0 0
  pub part : o.status ≡ 4 → GrewByProperPrefix old.output.held words_refused new.output.held
  pub cause : o.status ≡ 4 → Rose old.output.faults new.output.faults
  pub input : new.input ≡ old.input
  pub media : new.media ≡ old.media
  pub link : new.link ≡ old.link

none_asked : (words : List (List ℕ)) (m : Mode) → mode_of words ≡ None → mode_of words ≡ Some m → ⊥
none_asked words m none some = let wrong : None ≡ Some m = sym none ∙ some in cc

refuses_words : (old new : DevicesSeen) (o : Outcome) → Refuses old new o → (words : List (List ℕ)) → mode_of words ≡ None → Answers words old new o
refuses_words old new o s words none =
    let causes = words_have_causes old new o s.statuses s.cause in
    let few = words_allowed o.status s.statuses in
    let allowed = is_allowed words None old o none few (always old.input.left (IsOneOf o.status (1 ∷ 4 ∷ 8 ∷ [])) few) in
    record {
      headline = λ m is runs h. absurd (none_asked words m none is);
      deck = λ is h. absurd (none_asked words Asm none is);
      refusals = record {
        of_words = λ h. record { lawless = none; unread = s.input; outcome = s.refused h; written = s.written h };
        of_script = λ m is reads h. absurd (none_asked words m none is);
        of_input = λ is h. absurd (none_asked words Asm none is);
        of_cards = λ h. absurd (grind (arith, h, s.statuses, nat_tests));
      };
      causes = causes;
      cut_off = λ h.
          record {
            text = words_refused;
            said = OfWords none s.input (ap (λ (x : Outcome). x.run) (s.cut h)) refl;
            part = s.part h;
            card = ap (λ (x : Outcome). x.card) (s.cut h);
            cause = ap (λ (x : Outcome). x.cause) (s.cut h);
          };
      stopped = λ h. absurd (grind (arith, h, s.statuses, nat_tests));
      lost = λ h. absurd (grind (arith, h, s.statuses, nat_tests));
      silent = λ h. absurd (grind (arith, h, s.statuses, nat_tests));
      spent = λ h m is. absurd (none_asked words m none is);
      apart = record { media = λ h. s.media; link = λ h. s.link };
      allowed = allowed;
      complete = λ n. complete words old new o causes allowed n;
    }

pub refuses : (old new : DevicesSeen) (o : Outcome) → Refuses old new o → IsAnswer None old new o
refuses old new o s = record { to_words = refuses_words old new o s }

-- want of memory before anything was done
nothing_spent : (mode : Mode) (seen : DevicesSeen) → SpendsFor mode seen seen
nothing_spent Replay seen = Unbegun refl refl
nothing_spent Dump seen = Unbegun refl refl
nothing_spent (Load n) seen = Unbegun refl refl
nothing_spent Asm seen = refl
nothing_spent (Serve port turns) seen = NotServed refl refl

pub no_memory : (words : List (List ℕ)) (seen : DevicesSeen) → Answers words seen seen (bare 8 0 0)
no_memory words seen =
    record {
      headline = λ mode asked runs h. absurd (omega (arith, h));
      deck = λ asked h. absurd (omega (arith, h));
      refusals = record {
        of_words = λ h. absurd (omega (arith, h));
        of_script = λ mode asked reads h. absurd (omega (arith, h));
        of_input = λ asked h. absurd (omega (arith, h));
        of_cards = λ h. absurd (omega (arith, h));
      };
      causes = memory_has_causes seen seen (bare 8 0 0) refl;
      cut_off = λ h. absurd (omega (arith, h));
      stopped = λ h. absurd (omega (arith, h));
      lost = λ h. absurd (omega (arith, h));
      silent = λ h. record { outcome = refl; same = refl; media = λ k. refl; link = λ k. refl };
      spent = λ h mode asked. nothing_spent mode seen;
      apart = record { media = λ h. refl; link = λ h. refl };
      allowed = memory_is_allowed words seen (bare 8 0 0) refl;
      complete = λ none. complete words seen seen (bare 8 0 0) (memory_has_causes seen seen (bare 8 0 0) refl) (memory_is_allowed words seen (bare 8 0 0) refl) none;
    }

pub no_memory_of : (words : List (List ℕ)) (seen : DevicesSeen) (o : Outcome) → o ≡ bare 8 0 0 → Answers words seen seen o
no_memory_of words seen o is = subst (Answers words seen seen) (sym is) (no_memory words seen)

-- what is asked for is this
pub answer_as : (asked mode : Option Mode) (old new : DevicesSeen) (o : Outcome) → asked ≡ mode → IsAnswer mode old new o → IsAnswer asked old new o
answer_as asked mode old new o is h = subst (λ (m : Option Mode). IsAnswer m old new o) (sym is) h
