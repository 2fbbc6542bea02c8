-- What follows from cards that were read, and from what was written of them.
use Rattle.std.proofs.Common.{◌≡◌, ℕ, ◌≤◌, Bool, true, false, cond, nat_eq, nat_le, List, [], ◌∷◌, length, Option, Some, None, refl, sym, ap, subst, ◌∙◌, arith}
use Rattle.std.specs.List.{list_any}
use Rattle.std.proofs.lemmas.Bool.Decides.{nat_tests}
use Rattle.faults.specs.Faults.{WhereTold}
use Rattle.ctss_io.specs.Outside.{prepended, after, IsAtEnd}
use Rattle.ctss_io.specs.Whole.{ShrankBy, HasAtLeast, GrewByProperPrefix}
use Rattle.fap_model.specs.Decks.{Assembled, deck, faulty}
use Rattle.text_model.specs.declared.mode.Mode.TheVariants.{Asm}
use Rattle.text_model.specs.Canonical.{word_cards}
use Rattle.text_model.specs.Words.{mode_of, script_refused, faults_text}
use Rattle.text_model.specs.Reading.{max_bytes}
use Rattle.ctss_modes.specs.declared.outcome.Outcome.{Outcome}
use Rattle.ctss_modes.specs.Outcomes.{bare, IsOneOf}
use Rattle.ctss_modes.specs.Devices.{OutputSeen, DevicesSeen}
use Rattle.ctss_modes.specs.Asm.{assembled_from, IsInput, IsTooLong, InputIsTooLong, IsTextOfBytes, DeckOf, FaultsOf, IsTextOfCards, OfDeck, OfFaults, OfLong, IsCutOfCards, CardsAreCutOff, statuses_by, statuses_for_cards}
use Rattle.ctss_modes.specs.Statuses.{WritesText, WritesCards, Assembles}
use Rattle.ctss_modes.specs.Top.{OfCards, IsCutOff}
use Rattle.ctss_modes.proofs.Says.{of_told}

input : (left rest : Option (List ℕ)) (bytes : List ℕ) → left ≡ prepended bytes rest → IsAtEnd rest → length bytes ≤ max_bytes → IsInput left rest bytes
input left rest bytes came whole size = record { came = came; whole = whole; size = size }

long : (left rest : Option (List ℕ)) (gone : ShrankBy 4194305 left rest) → IsTooLong left rest gone.0
long left rest gone = record { came = gone.2; size = omega (arith, gone.1) }

pub long_input : (old new : DevicesSeen) (o : Outcome) → ShrankBy 4194305 old.input.left new.input.left → o ≡ bare 2 0 8 → new.output.held ≡ after old.output.held (script_refused 0 8) → InputIsTooLong old new o
long_input old new o gone is written = record { bytes = gone.0; read = long old.input.left new.input.left gone; outcome = is; written = written }

pub cut_of_long : (old new : DevicesSeen) → ShrankBy 4194305 old.input.left new.input.left → GrewByProperPrefix old.output.held (script_refused 0 8) new.output.held → CardsAreCutOff old new
cut_of_long old new gone part = record { text = script_refused 0 8; said = OfLong gone.0 (long old.input.left new.input.left gone) refl; part = part }

said_of : (left rest : Option (List ℕ)) (bytes text : List ℕ) → IsInput left rest bytes → IsTextOfBytes bytes text → IsTextOfCards left rest text
said_of left rest bytes text read (DeckOf words made is) = OfDeck bytes words read made is
said_of left rest bytes text read (FaultsOf faults made is) = OfFaults bytes faults read made is

pub cut_of_cards : (old new : DevicesSeen) (bytes : List ℕ) → old.input.left ≡ prepended bytes new.input.left → IsAtEnd new.input.left → length bytes ≤ max_bytes → IsCutOfCards bytes old.output.held new.output.held → CardsAreCutOff old new
cut_of_cards old new bytes came whole size h =
    record { text = h.text; said = said_of old.input.left new.input.left bytes h.text (input old.input.left new.input.left bytes came whole size) h.said; part = h.part }

-- for the words that ask for an assembly
pub cut_by_words : (words : List (List ℕ)) (old new : DevicesSeen) (o : Outcome) → mode_of words ≡ Some Asm → o ≡ bare 4 0 0 → CardsAreCutOff old new → IsCutOff words old new o
cut_by_words words old new o asked is h =
    record {
      text = h.text;
      said = OfCards asked (ap (λ (x : Outcome). x.run) is) h.said;
      part = h.part;
      card = ap (λ (x : Outcome). x.card) is;
      cause = ap (λ (x : Outcome). x.cause) is;
    }

-- the statuses that all inputs may have

abbrev pub Allowed : ℕ → List ℕ → Type 0
Allowed status bytes = list_any (nat_eq status) (statuses_for_cards bytes) ≡ true

too_many : (bytes : List ℕ) → 4194305 ≤ length bytes → nat_le (length bytes) max_bytes ≡ false
too_many bytes h = grind (arith, nat_tests)

pub at_any : (status : ℕ) → ((said : Assembled) → list_any (nat_eq status) (statuses_by said) ≡ true) → list_any (nat_eq status) (2 ∷ 3 ∷ 4 ∷ 8 ∷ []) ≡ true → (b : Bool) (said : Assembled) → list_any (nat_eq status) (cond b (statuses_by said) (2 ∷ 3 ∷ 4 ∷ 8 ∷ [])) ≡ true
at_any status h k true said = h said
at_any status h k false said = k

at_8 : (said : Assembled) → list_any (nat_eq 8) (statuses_by said) ≡ true
at_8 (deck ws) = refl
at_8 (faulty fs) = refl

pub allowed_no_memory : (left : Option (List ℕ)) → WhereTold left (Allowed 8)
allowed_no_memory None = tt
allowed_no_memory (Some bytes) = at_any 8 at_8 refl (nat_le (length bytes) max_bytes) (assembled_from bytes)

long_status : (status : ℕ) → list_any (nat_eq status) (2 ∷ 4 ∷ 8 ∷ []) ≡ true → list_any (nat_eq status) (2 ∷ 3 ∷ 4 ∷ 8 ∷ []) ≡ true
long_status status h = grind (arith, h, nat_tests)

pub allowed_long : (left : Option (List ℕ)) (status : ℕ) → HasAtLeast 4194305 left → list_any (nat_eq status) (2 ∷ 4 ∷ 8 ∷ []) ≡ true → WhereTold left (Allowed status)
allowed_long None status h is = tt
allowed_long (Some bytes) status h is = rw (too_many bytes h) (long_status status is)

-- what was written of a deck or of faults, as what the cards make

pub deck_cards : (bytes words : List ℕ) (had has : OutputSeen) (o : Outcome) → assembled_from bytes ≡ deck words → WritesText 0 (word_cards words) had has o → WritesCards bytes had has o
deck_cards bytes words had has o made w =
    record {
      status = subst (λ (said : Assembled). IsOneOf o.status (8 ∷ statuses_by said)) (sym made) (grind (arith, w.statuses, nat_tests));
      deck = λ h. record { words = words; made = made; outcome = w.done h; written = w.written h };
      faults = λ h. absurd (grind (arith, h, w.statuses, nat_tests));
      unread = λ h. absurd (grind (arith, h, w.statuses, nat_tests));
      cut = w.cut;
      part = λ h. record { text = word_cards words; said = DeckOf words made refl; part = w.part h };
      cause = w.cause;
      memory = w.memory;
      silent = w.silent;
    }

pub faults_cards : (bytes : List ℕ) (faults : List (ℕ × ℕ)) (had has : OutputSeen) (o : Outcome) → assembled_from bytes ≡ faulty faults → WritesText 9 (faults_text faults) had has o → WritesCards bytes had has o
faults_cards bytes faults had has o made w =
    record {
      status = subst (λ (said : Assembled). IsOneOf o.status (8 ∷ statuses_by said)) (sym made) (grind (arith, w.statuses, nat_tests));
      deck = λ h. absurd (grind (arith, h, w.statuses, nat_tests));
      faults = λ h. record { faults = faults; made = made; outcome = w.done h; written = w.written h };
      unread = λ h. absurd (grind (arith, h, w.statuses, nat_tests));
      cut = w.cut;
      part = λ h. record { text = faults_text faults; said = FaultsOf faults made refl; part = w.part h };
      cause = w.cause;
      memory = w.memory;
      silent = w.silent;
    }

pub memory_cards : (bytes : List ℕ) (had : OutputSeen) (o : Outcome) → o ≡ bare 8 0 0 → WritesCards bytes had had o
memory_cards bytes had o is =
    subst (WritesCards bytes had had) (sym is)
    (record {
      status = refl;
      deck = λ h. absurd (omega (arith, h));
      faults = λ h. absurd (omega (arith, h));
      unread = λ h. absurd (omega (arith, h));
      cut = λ h. absurd (omega (arith, h));
      part = λ h. absurd (omega (arith, h));
      cause = λ h. absurd (omega (arith, h));
      memory = λ h. refl;
      silent = λ h. refl;
    })

-- the statuses of cards that were read

few : (status : ℕ) (said : Assembled) → IsOneOf status (8 ∷ statuses_by said) → IsOneOf status (0 ∷ 2 ∷ 3 ∷ 4 ∷ 8 ∷ 9 ∷ [])
few status (deck ws) h = grind (arith, h, nat_tests)
few status (faulty fs) h = grind (arith, h, nat_tests)

fits : (status : ℕ) (said : Assembled) → IsOneOf status (8 ∷ statuses_by said) → IsOneOf status (statuses_by said)
fits status (deck ws) h = grind (arith, h, nat_tests)
fits status (faulty fs) h = grind (arith, h, nat_tests)

not_long : (status : ℕ) (said : Assembled) → IsOneOf status (8 ∷ statuses_by said) → status ≡ 2 → ⊥
not_long status (deck ws) h is = grind (arith, h, is, nat_tests)
not_long status (faulty fs) h is = grind (arith, h, is, nat_tests)

few_enough : (bytes : List ℕ) → length bytes ≤ max_bytes → nat_le (length bytes) max_bytes ≡ true
few_enough bytes h = grind (arith, h, nat_tests)

allowed_short : (status : ℕ) (bytes : List ℕ) → length bytes ≤ max_bytes → IsOneOf status (8 ∷ statuses_by (assembled_from bytes)) → Allowed status bytes
allowed_short status bytes size h = rw (few_enough bytes size) (fits status (assembled_from bytes) h)

-- all cards were read, and what they make was written
pub cards_assemble : (old new : DevicesSeen) (bytes : List ℕ) (o : Outcome) → old.input.left ≡ prepended bytes new.input.left → IsAtEnd new.input.left → length bytes ≤ max_bytes → WritesCards bytes old.output new.output o → Assembles old new o
cards_assemble old new bytes o came whole size w =
    let read : IsInput old.input.left new.input.left bytes = input old.input.left new.input.left bytes came whole size in
    record {
      status = few o.status (assembled_from bytes) w.status;
      deck = λ h. (let d = w.deck h in record { bytes = bytes; words = d.words; read = read; made = d.made; outcome = d.outcome; written = d.written });
      faults = λ h. (let f = w.faults h in record { bytes = bytes; faults = f.faults; read = read; made = f.made; outcome = f.outcome; written = f.written });
      long = λ h. absurd (not_long o.status (assembled_from bytes) w.status h);
      unread = λ h. absurd (w.unread h);
      unwritten = w.cause;
      cut = w.cut;
      part = λ h. cut_of_cards old new bytes came whole size (w.part h);
      silent = λ h.
          (let is : o.status ≡ 8 = last o.status h w.unread in
          record {
            outcome = w.memory is ∙ ap (λ (n : ℕ). bare n 0 0) (sym is);
            same = w.silent is;
            media = λ k. absurd (w.unread k);
            link = λ k. absurd (w.unread k);
          });
      told = of_told old.input.left new.input.left bytes (Allowed o.status) came whole (allowed_short o.status bytes size w.status);
    }
  where
    last : (status : ℕ) → IsOneOf status (3 ∷ 8 ∷ []) → (status ≡ 3 → ⊥) → status ≡ 8
    last status h not = grind (arith, h, not, nat_tests)
