-- What follows from what was read and written, where a text of bytes is shown.
use Rattle.std.proofs.Common.{◌≡◌, ℕ, ◌≤◌, Bool, true, false, ◌||◌, nat_eq, nat_le, List, [], ◌∷◌, length, Option, Some, None, refl, sym, ap, ◌∙◌, subst, arith, if◌then◌else◌}
use Rattle.std.specs.List.{list_any}
use Rattle.std.proofs.lemmas.Bool.Decides.{nat_tests}
use Rattle.faults.specs.Faults.{Rose, WhereTold}
use Rattle.ctss_io.specs.Outside.{prepended, IsAtEnd}
use Rattle.ctss_io.specs.Whole.{ShrankBy, HasAtLeast}
use Rattle.text_model.specs.Reading.{max_bytes}
use Rattle.text_model.specs.Words.{script_refused}
use Rattle.ctss_modes.specs.declared.outcome.Outcome.{Outcome}
use Rattle.ctss_modes.specs.Asm.{IsInput, IsTooLong}
use Rattle.ctss_modes.specs.Outcomes.{bare, IsOneOf}
use Rattle.ctss_modes.specs.Unread.{EndsUnread}
use Rattle.ctss_modes.proofs.Says.{of_told}
use Rattle.script_show.specs.Shown.{StreamsSeen}
use Rattle.script_show.specs.Input.{TextOfBytes, StatusOfBytes, OfBytes, OfLong, statuses_of, IsOfInput, ShowsBytes}

long_read : (left rest : Option (List ℕ)) (gone : ShrankBy 4194305 left rest) → IsTooLong left rest gone.0
long_read left rest gone = record { came = gone.2; size = omega (arith, gone.1) }

-- statuses

short_status : (status said : ℕ) → IsOneOf status (3 ∷ 8 ∷ []) → IsOneOf status (said ∷ 3 ∷ 4 ∷ 8 ∷ [])
short_status status said h = by (nat_eq status said)
  where
    more : IsOneOf status (3 ∷ 4 ∷ 8 ∷ [])
    more = grind (arith, h, nat_tests)

    by : (b : Bool) → (b || list_any (nat_eq status) (3 ∷ 4 ∷ 8 ∷ [])) ≡ true
    by true = refl
    by false = more

long_status : (status : ℕ) → IsOneOf status (2 ∷ 3 ∷ 4 ∷ 8 ∷ []) → (said : ℕ) (bytes : List ℕ) → 4194305 ≤ length bytes
    → list_any (nat_eq status) (if nat_le (length bytes) max_bytes then said ∷ 3 ∷ 4 ∷ 8 ∷ [] else 2 ∷ 3 ∷ 4 ∷ 8 ∷ []) ≡ true
long_status status h said bytes many =
    let no : nat_le (length bytes) max_bytes ≡ false = grind (arith, many, nat_tests) in
    rw no h

any_status : (status : ℕ) → IsOneOf status (3 ∷ 8 ∷ []) → (said : ℕ) (b : Bool)
    → list_any (nat_eq status) (if b then said ∷ 3 ∷ 4 ∷ 8 ∷ [] else 2 ∷ 3 ∷ 4 ∷ 8 ∷ []) ≡ true
any_status status h said true = short_status status said h
any_status status h said false = grind (arith, h, nat_tests)

told_many : (status : ℕ) (f : StatusOfBytes) (left : Option (List ℕ)) → IsOneOf status (2 ∷ 3 ∷ 4 ∷ 8 ∷ []) → HasAtLeast 4194305 left
    → WhereTold left (λ bytes. IsOneOf status (statuses_of f bytes))
told_many status f None h many = tt
told_many status f (Some bytes) h many = long_status status h (f bytes) bytes many

told_few : (status : ℕ) (f : StatusOfBytes) (left : Option (List ℕ)) → IsOneOf status (3 ∷ 8 ∷ [])
    → WhereTold left (λ bytes. IsOneOf status (statuses_of f bytes))
told_few status f None h = tt
told_few status f (Some bytes) h = any_status status h (f bytes) (nat_le (length bytes) max_bytes)

is_short : (status : ℕ) → IsOneOf status (2 ∷ 3 ∷ 4 ∷ 8 ∷ []) → list_any (nat_eq status) (2 ∷ 4 ∷ []) ≡ false → IsOneOf status (3 ∷ 8 ∷ [])
is_short status h short = grind (arith, h, short, nat_tests)

told_unread : (f : StatusOfBytes) (old new : StreamsSeen) (o : Outcome) → EndsUnread old.input new.input old.output new.output o
    → (b : Bool) → list_any (nat_eq o.status) (2 ∷ 4 ∷ []) ≡ b → WhereTold old.input.left (λ bytes. IsOneOf o.status (statuses_of f bytes))
told_unread f old new o u true is = told_many o.status f old.input.left u.statuses (u.many is)
told_unread f old new o u false is = told_few o.status f old.input.left (is_short o.status u.statuses is)

-- the input was too long, or could not be read
pub input_unread : (text : TextOfBytes) (status : StatusOfBytes) (old new : StreamsSeen) (o : Outcome)
    → EndsUnread old.input new.input old.output new.output o → IsOfInput text status old new o
input_unread text status old new o u = record {
  statuses = grind (arith, u.statuses, nat_tests);
  told = told_unread status old new o u (list_any (nat_eq o.status) (2 ∷ 4 ∷ [])) refl;
  written = λ h. absurd (grind (arith, h, u.statuses, nat_tests));
  long = λ h.
      (let gone = u.gone (grind (arith, h, nat_tests)) in
      record { bytes = gone.0; read = long_read old.input.left new.input.left gone; outcome = u.refused h; written = u.written h });
  unread = u.unread;
  unwritten = u.unwritten;
  part = λ h.
      (let gone = u.gone (grind (arith, h, nat_tests)) in
      record { due = script_refused 0 8; is_due = OfLong gone.0 (long_read old.input.left new.input.left gone) refl; part = u.part h });
  silent = λ h. record { outcome = u.bare_is h; same = u.silent h };
}

-- all was read
module _ (text : TextOfBytes) (status : StatusOfBytes) (old new : StreamsSeen) (o : Outcome) (bytes : List ℕ)
    (came : old.input.left ≡ prepended bytes new.input.left) (whole : IsAtEnd new.input.left) (size : length bytes ≤ 4194304)
    (shown : ShowsBytes text status bytes old.output new.output o) where
  is_input : IsInput old.input.left new.input.left bytes
  is_input = record { came = came; whole = whole; size = size }

  is_known : IsOneOf o.status (0 ∷ 4 ∷ 8 ∷ 9 ∷ [])
  is_known = known_by (status bytes) shown.known shown.statuses
    where
      known_by : (s : ℕ) → IsOneOf s (0 ∷ 9 ∷ []) → IsOneOf o.status (s ∷ 4 ∷ 8 ∷ []) → IsOneOf o.status (0 ∷ 4 ∷ 8 ∷ 9 ∷ [])
      known_by s k h = grind (arith, k, h, nat_tests)

  with_reads : (s : ℕ) → IsOneOf o.status (s ∷ 4 ∷ 8 ∷ []) → IsOneOf o.status (s ∷ 3 ∷ 4 ∷ 8 ∷ [])
  with_reads s h = grind (arith, h, nat_tests)

  is_told : IsOneOf o.status (statuses_of status bytes)
  is_told =
      let few : nat_le (length bytes) max_bytes ≡ true = grind (arith, size, nat_tests) in
      rw few (with_reads (status bytes) shown.statuses)

  pub input_shown : IsOfInput text status old new o
  input_shown = record {
    statuses = grind (arith, is_known, nat_tests);
    told = of_told old.input.left new.input.left bytes (λ bs. IsOneOf o.status (statuses_of status bs)) came whole is_told;
    written = λ h. record { bytes = bytes; read = is_input; outcome = shown.outcome h; written = shown.written h };
    long = λ h. absurd (grind (arith, h, is_known, nat_tests));
    unread = λ h. absurd (grind (arith, h, is_known, nat_tests));
    unwritten = shown.cause;
    part = λ h. record { due = text bytes; is_due = OfBytes bytes is_input refl; part = shown.part h };
    silent = λ h.
        (let eight : o.status ≡ 8 = grind (arith, h, is_known, nat_tests) in
        record { outcome = shown.memory eight ∙ ap (λ (n : ℕ). bare n 0 0) (sym eight); same = shown.silent eight });
  }
