-- What follows where the input was too long or could not be read.
use Rattle.std.proofs.Common.{◌≡◌, ℕ, Bool, true, false, nat_eq, nat_le, List, [], ◌∷◌, length, Option, Some, None, Ok, Err, refl, sym, ap, subst, ◌∙◌, arith}
use Rattle.std.specs.List.{list_any}
use Rattle.std.specs.declared.result.Result.{Result}
use Rattle.std.proofs.lemmas.Bool.Decides.{nat_tests}
use Rattle.faults.specs.Faults.{Rose, WhereTold}
use Rattle.ctss_io.specs.declared.whole.ReadEnd.{ReadEnd}
use Rattle.ctss_io.specs.declared.whole.ReadEnd.TheVariants.{TooLong, Fault, NoMemory}
use Rattle.ctss_io.specs.Whole.{ShrankBy, HasAtLeast}
use Rattle.ctss_types.specs.declared.script.Script.{Script}
use Rattle.fap_model.specs.Decks.{Assembled, deck, faulty}
use Rattle.text_model.specs.declared.mode.Mode.{Mode}
use Rattle.text_model.specs.declared.cause.ScriptRefusal.{ScriptRefusal}
use Rattle.text_model.specs.Words.{mode_of}
use Rattle.text_model.specs.Reading.{max_bytes}
use Rattle.console_link.specs.Links.{LinkSeen}
use Rattle.live_run.specs.Media.{MediaSeen}
use Rattle.ctss_modes.specs.declared.outcome.Outcome.{Outcome}
use Rattle.ctss_modes.specs.Outcomes.{bare, IsOneOf}
use Rattle.ctss_modes.specs.Devices.{InputSeen, OutputSeen, devices}
use Rattle.ctss_modes.specs.Modes.{reads_script}
use Rattle.ctss_modes.specs.Asm.{InputIsTooLong, CardsAreCutOff, statuses_by, assembled_from}
use Rattle.ctss_modes.specs.Statuses.{AnswersFor, Assembles}
use Rattle.ctss_modes.specs.Top.{ScriptIsRefused, HasCause, IsCutOff, IsSilent, SpendsFor, statuses_for, statuses_live}
use Rattle.ctss_modes.specs.Unread.{EndsUnread, EndsBy}
use Rattle.ctss_modes.proofs.Cards.{cut_of_long, Allowed, long_input, allowed_long, at_any}
use Rattle.ctss_modes.proofs.Says.{Allows, AllowsLive, refused_long, cut_long, told_long, by_said, live_told_long, by_base}

pub ends_unread : (end : ReadEnd) (was now : InputSeen) (had has : OutputSeen) (o : Outcome) → (end ≡ TooLong → HasAtLeast 4194305 was.left) → (end ≡ TooLong → ShrankBy 4194305 was.left now.left)
    → (end ≡ Fault → Rose was.faults now.faults) → EndsBy end had has o → EndsUnread was now had has o
ends_unread TooLong was now had has o many gone rose e =
    record {
      statuses = grind (arith, e.statuses, nat_tests);
      many = λ h. many refl;
      gone = λ h. gone refl;
      refused = e.refused;
      written = e.written;
      cut = e.cut;
      part = e.part;
      unwritten = e.unwritten;
      unread = λ h. absurd (grind (arith, h, e.statuses, nat_tests));
      bare_is = λ h.
          (let is : o.status ≡ 8 = grind (arith, h, e.statuses, nat_tests) in
          e.memory is ∙ ap (λ (n : ℕ). bare n 0 0) (sym is));
      silent = λ h. e.silent (grind (arith, h, e.statuses, nat_tests));
    }
ends_unread Fault was now had has o many gone rose e =
    subst (EndsUnread was now had has) (sym e.0)
    (record {
      statuses = refl;
      many = λ h. absurd (let wrong = h in cc);
      gone = λ h. absurd (let wrong = h in cc);
      refused = λ h. absurd (omega (arith, h));
      written = λ h. absurd (omega (arith, h));
      cut = λ h. absurd (omega (arith, h));
      part = λ h. absurd (omega (arith, h));
      unwritten = λ h. absurd (omega (arith, h));
      unread = λ h. rose refl;
      bare_is = λ h. refl;
      silent = λ h. ap (λ (s : OutputSeen). s.held) e.1;
    })
ends_unread NoMemory was now had has o many gone rose e =
    subst (EndsUnread was now had has) (sym e.0)
    (record {
      statuses = refl;
      many = λ h. absurd (let wrong = h in cc);
      gone = λ h. absurd (let wrong = h in cc);
      refused = λ h. absurd (omega (arith, h));
      written = λ h. absurd (omega (arith, h));
      cut = λ h. absurd (omega (arith, h));
      part = λ h. absurd (omega (arith, h));
      unwritten = λ h. absurd (omega (arith, h));
      unread = λ h. absurd (omega (arith, h));
      bare_is = λ h. refl;
      silent = λ h. ap (λ (s : OutputSeen). s.held) e.1;
    })

is_short : (status : ℕ) → IsOneOf status (2 ∷ 3 ∷ 4 ∷ 8 ∷ []) → list_any (nat_eq status) (2 ∷ 4 ∷ []) ≡ false → IsOneOf status (3 ∷ 8 ∷ [])
is_short status h short = grind (arith, h, short, nat_tests)

with_memory : (status : ℕ) → IsOneOf status (2 ∷ 4 ∷ []) → IsOneOf status (2 ∷ 4 ∷ 8 ∷ [])
with_memory status h = grind (arith, h, nat_tests)

-- a read may fail and memory may lack whatever the bytes

at_script : (status : ℕ) → IsOneOf status (3 ∷ 8 ∷ []) → (said : Result Script ScriptRefusal) → IsOneOf status (statuses_for said)
at_script status h (Ok script) = grind (arith, h, nat_tests)
at_script status h (Err refusal) = grind (arith, h, nat_tests)

at_base : (status : ℕ) → IsOneOf status (3 ∷ 8 ∷ []) → (said : Result Script ScriptRefusal) → IsOneOf status (statuses_live said)
at_base status h (Ok script) = grind (arith, h, nat_tests)
at_base status h (Err refusal) = grind (arith, h, nat_tests)

at_cards : (status : ℕ) → IsOneOf status (3 ∷ 8 ∷ []) → (said : Assembled) → IsOneOf status (statuses_by said)
at_cards status h (deck ws) = grind (arith, h, nat_tests)
at_cards status h (faulty fs) = grind (arith, h, nat_tests)

at_long : (status : ℕ) → IsOneOf status (3 ∷ 8 ∷ []) → IsOneOf status (2 ∷ 3 ∷ 4 ∷ 8 ∷ [])
at_long status h = grind (arith, h, nat_tests)

cards_told : (status : ℕ) → IsOneOf status (3 ∷ 8 ∷ []) → (left : Option (List ℕ)) → WhereTold left (Allowed status)
cards_told status h None = tt
cards_told status h (Some bytes) = at_any status (at_cards status h) (at_long status h) (nat_le (length bytes) max_bytes) (assembled_from bytes)

module _ (was now : InputSeen) (had has : OutputSeen) (o : Outcome) (u : EndsUnread was now had has o) where
  pub unread_causes : (media : MediaSeen) (link : LinkSeen) → HasCause (devices was had media link) (devices now has media link) o
  unread_causes media link =
      record {
        reading = u.unread;
        writing = u.unwritten;
        drum = λ h. absurd (grind (arith, h, u.statuses, nat_tests));
        disk = λ h. absurd (grind (arith, h, u.statuses, nat_tests));
        link = λ h. absurd (grind (arith, h, u.statuses, nat_tests));
      }

  pub unread_silent : (media : MediaSeen) (link : LinkSeen) → IsOneOf o.status (3 ∷ 8 ∷ []) → IsSilent o.status (devices was had media link) (devices now has media link) o
  unread_silent media link h = record { outcome = u.bare_is h; same = u.silent h; media = λ k. refl; link = λ k. refl }

  pub unread_refused : (mode : Mode) (media : MediaSeen) (link : LinkSeen) → o.status ≡ 2 → ScriptIsRefused mode (devices was had media link) (devices now has media link) o
  unread_refused mode media link h = refused_long mode _ _ o (u.gone (grind (arith, h, nat_tests))) (u.refused h) (u.written h) refl refl

  pub unread_cut : (words : List (List ℕ)) (mode : Mode) → mode_of words ≡ Some mode → reads_script mode ≡ true → (media : MediaSeen) (link : LinkSeen) → o.status ≡ 4
      → IsCutOff words (devices was had media link) (devices now has media link) o
  unread_cut words mode asked reads media link h = cut_long words mode asked reads _ _ o (u.gone (grind (arith, h, nat_tests))) (u.cut h) (u.part h) refl refl

  script_by : (b : Bool) → list_any (nat_eq o.status) (2 ∷ 4 ∷ []) ≡ b → WhereTold was.left (Allows o.status)
  script_by true is = told_long was.left o.status (u.many is) (with_memory o.status is)
  script_by false is = by_said o.status (at_script o.status (is_short o.status u.statuses is)) was.left

  pub unread_told : WhereTold was.left (Allows o.status)
  unread_told = script_by (list_any (nat_eq o.status) (2 ∷ 4 ∷ [])) refl

  base_by : (b : Bool) → list_any (nat_eq o.status) (2 ∷ 4 ∷ []) ≡ b → WhereTold was.left (AllowsLive o.status)
  base_by true is = live_told_long was.left o.status (u.many is) (with_memory o.status is)
  base_by false is = by_base o.status (at_base o.status (is_short o.status u.statuses is)) was.left

  pub unread_told_live : WhereTold was.left (AllowsLive o.status)
  unread_told_live = base_by (list_any (nat_eq o.status) (2 ∷ 4 ∷ [])) refl

  pub unread_long : (media : MediaSeen) (link : LinkSeen) → o.status ≡ 2 → InputIsTooLong (devices was had media link) (devices now has media link) o
  unread_long media link h = long_input _ _ o (u.gone (grind (arith, h, nat_tests))) (u.refused h) (u.written h)

  pub unread_part : (media : MediaSeen) (link : LinkSeen) → o.status ≡ 4 → CardsAreCutOff (devices was had media link) (devices now has media link)
  unread_part media link h = cut_of_long _ _ (u.gone (grind (arith, h, nat_tests))) (u.part h)

  cards_by : (b : Bool) → list_any (nat_eq o.status) (2 ∷ 4 ∷ []) ≡ b → WhereTold was.left (Allowed o.status)
  cards_by true is = allowed_long was.left o.status (u.many is) (with_memory o.status is)
  cards_by false is = cards_told o.status (is_short o.status u.statuses is) was.left

  pub unread_told_cards : WhereTold was.left (Allowed o.status)
  unread_told_cards = cards_by (list_any (nat_eq o.status) (2 ∷ 4 ∷ [])) refl

  -- the answer of a mode that reads a script, and of an assembly

  pub unread_answers : (mode : Mode) → reads_script mode ≡ true → (media : MediaSeen) (link : LinkSeen) → SpendsFor mode (devices was had media link) (devices now has media link)
      → AnswersFor mode (devices was had media link) (devices now has media link) o
  unread_answers mode reads media link spends =
      record {
        ends = record {
          done = λ h. absurd (grind (arith, h, u.statuses, nat_tests));
          part = λ words asked h. unread_cut words mode asked reads media link h;
          stopped = λ words asked h. absurd (grind (arith, h, u.statuses, nat_tests));
          lost = λ words asked h. absurd (grind (arith, h, u.statuses, nat_tests));
          spent = λ h. spends;
        };
        refused = unread_refused mode media link;
        cause = unread_causes media link;
        silent = λ h. unread_silent media link (grind (arith, h, u.statuses, nat_tests));
      }

  pub unread_assembles : (media : MediaSeen) (link : LinkSeen) → Assembles (devices was had media link) (devices now has media link) o
  unread_assembles media link =
      record {
        status = grind (arith, u.statuses, nat_tests);
        deck = λ h. absurd (grind (arith, h, u.statuses, nat_tests));
        faults = λ h. absurd (grind (arith, h, u.statuses, nat_tests));
        long = unread_long media link;
        unread = u.unread;
        unwritten = u.unwritten;
        cut = u.cut;
        part = unread_part media link;
        silent = unread_silent media link;
        told = unread_told_cards;
      }
