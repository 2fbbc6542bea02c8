-- What holds after each case of an event holds after every event.
use Rattle.std.proofs.Common.{◌≡◌, ℕ, ◌-◌, ◌<◌, Bool, true, false, nat_lt, [], ◌∷◌, Option, Some, None, get_or, refl, sym, subst, arith, cond}
use Rattle.std.proofs.lemmas.Bool.Decides.{nat_tests}
use Rattle.time_sharing.specs.Machine.{Line}
use Rattle.time_sharing.specs.System.{Timed, Console, Off, On, Password, Session, Refused, EventKind, Event, Dials, Types, Quits, Hangs, LineTaken, DialTaken, QuitTaken, HangTaken, max_lines}
use Rattle.system_model.specs.World.{asked, check}
use Rattle.system_model.specs.Run.{Run, taken, at_console}
use Rattle.system_model.specs.Cases.{heard, line_taken, quit_taken, hang_taken, spent_taken, login_taken, dial_taken, user_at}
use Rattle.system_model.specs.Joined.{cut_user}
use Rattle.system_model.specs.Sound.{Sound, IsUser, HasSeat}
use Rattle.system_model.proofs.SoundLaws.{checked_is_user}
use Rattle.system_model.proofs.CaseLaws.{taken_at, off_dials, off_types, off_quits, off_hangs, on_dials, on_no_name, on_name, on_quits, on_hangs, asked_dials, wrong_word, already_on, logs_in, asked_quits, asked_hangs, in_dials, in_types, in_spends, in_quits, in_hangs}

-- a fact after each case of an event at a console; its number is that of the user whose session is over, 0 for nobody
pub record EachCase (P : ℕ → Run → Type 0) (c : ℕ) (r : Run) : Type 0 where
  pub hears : (kind : EventKind) (now : Console) → P 0 (heard c kind now [] r)
  pub refuses : (cause : ℕ) → P 0 (heard c LineTaken On (Refused r.system.clock c cause ∷ []) r)
  pub types : (u : ℕ) (l : Line) → IsUser u r → P 0 (line_taken c u l r)
  pub quits : (u : ℕ) → IsUser u r → P 0 (quit_taken c u r)
  pub dials : (u : ℕ) → IsUser u r → P 0 (dial_taken c u r)
  pub opens : (u : ℕ) → IsUser u r → P 0 (login_taken c u r)
  pub hangs : (u : ℕ) → IsUser u r → P u (hang_taken c u r)
  pub spends : (u : ℕ) → IsUser u r → P u (spent_taken c u r)

module _ (P : ℕ → Run → Type 0) (c : ℕ) (r : Run) (h : 0 < c) (sound : Sound r) (each : EachCase P c r) where
  at_off : (e : Event) → P 0 (at_console c Off e r)
  at_off Dials = subst (P 0) (sym (off_dials c r h)) (each.hears DialTaken On)
  at_off (Types l) = subst (P 0) (sym (off_types c l r h)) (each.hears LineTaken Off)
  at_off Quits = subst (P 0) (sym (off_quits c r h)) (each.hears QuitTaken Off)
  at_off Hangs = subst (P 0) (sym (off_hangs c r h)) (each.hears HangTaken Off)

  at_on : (e : Event) → P 0 (at_console c On e r)
  at_on Dials = subst (P 0) (sym (on_dials c r h)) (each.hears DialTaken On)
  at_on Quits = subst (P 0) (sym (on_quits c r h)) (each.hears QuitTaken On)
  at_on Hangs = subst (P 0) (sym (on_hangs c r h)) (each.hears HangTaken Off)
  at_on (Types l) = by_name (asked l) refl
    where
      by_name : (o : Option ℕ) → asked l ≡ o → P 0 (at_console c On (Types l) r)
      by_name None e = subst (P 0) (sym (on_no_name c l r h e)) (each.refuses 1)
      by_name (Some name) e = subst (P 0) (sym (on_name c l name r h e)) (each.hears LineTaken (Password name))

  at_password : (name : ℕ) (e : Event) → P 0 (at_console c (Password name) e r)
  at_password name Dials = subst (P 0) (sym (asked_dials c name r h)) (each.hears DialTaken (Password name))
  at_password name Quits = subst (P 0) (sym (asked_quits c name r h)) (each.hears QuitTaken On)
  at_password name Hangs = subst (P 0) (sym (asked_hangs c name r h)) (each.hears HangTaken Off)
  at_password name (Types word) = by_user (check r.accounts name word) refl
    where
      by_on : (u : ℕ) → check r.accounts name word ≡ Some u → IsUser u r → (b : Bool) → (user_at u r.system.users).on ≡ b → P 0 (at_console c (Password name) (Types word) r)
      by_on u e who true on = subst (P 0) (sym (already_on c u name word r h who.some e on)) (each.refuses 2)
      by_on u e who false off = subst (P 0) (sym (logs_in c u name word r h who.some e off)) (each.opens u who)

      by_user : (o : Option ℕ) → check r.accounts name word ≡ o → P 0 (at_console c (Password name) (Types word) r)
      by_user None e = subst (P 0) (sym (wrong_word c name word r h e)) (each.refuses 1)
      by_user (Some u) e = by_on u e (checked_is_user name word u r sound e) (user_at u r.system.users).on refl

  in_session : (u : ℕ) (e : Event) → IsUser u r → P (cut_user (Session u) e r.system.users) (at_console c (Session u) e r)
  in_session u Dials who = subst (P 0) (sym (in_dials c u r who.some)) (each.dials u who)
  in_session u Quits who = subst (P 0) (sym (in_quits c u r who.some)) (each.quits u who)
  in_session u Hangs who = subst (P u) (sym (in_hangs c u r who.some h)) (each.hangs u who)
  in_session u (Types l) who = by_test (nat_lt (user_at u r.system.users).lines max_lines) refl
    where
      by_test : (b : Bool) → nat_lt (user_at u r.system.users).lines max_lines ≡ b → P (cond b 0 u) (at_console c (Session u) (Types l) r)
      by_test true e = subst (P 0) (sym (in_types c u l r who.some (grind (arith, nat_tests)))) (each.types u l who)
      by_test false e = subst (P u) (sym (in_spends c u l r who.some (grind (arith, nat_tests)))) (each.spends u who)

  at_any : (now : Console) (e : Event) → ((u : ℕ) → now ≡ Session u → IsUser u r) → P (cut_user now e r.system.users) (at_console c now e r)
  at_any Off e who = at_off e
  at_any On e who = at_on e
  at_any (Password name) e who = at_password name e
  at_any (Session u) e who = in_session u e (who u refl)

pub by_event : (P : ℕ → Run → Type 0) (e : Timed) (r : Run) → HasSeat e r → Sound r → EachCase P e.console r
    → P (cut_user (get_or r.system.consoles (e.console - 1) Off) e.event r.system.users) (taken e r)
by_event P e r seat sound each =
    subst (P (cut_user (get_or r.system.consoles (e.console - 1) Off) e.event r.system.users)) (sym (taken_at e r seat.some))
    (at_any P e.console r seat.some sound each (get_or r.system.consoles (e.console - 1) Off) e.event (sound.sits (e.console - 1)))
