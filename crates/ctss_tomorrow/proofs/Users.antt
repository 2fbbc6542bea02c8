-- No step of a run makes or takes away a user, so that a record has one list of files for each account.
use Rattle.std.proofs.Common.{◌≡◌, ℕ, zero, suc, Bool, true, false, if◌then◌else◌, nat_eq, nat_lt, nat_le, List, [], ◌∷◌, length}
use Rattle.std.proofs.Common.{Option, Some, None, refl, ap, ◌∙◌}
use Rattle.std.proofs.lemmas.List.{length-map}
use Rattle.ctss_types.specs.declared.script.Script.{Script}
use Rattle.ctss_types.specs.declared.script.Account.{Account}
use Rattle.ctss_types.specs.declared.file.OwnedFile.{OwnedFile}
use Rattle.time_sharing.specs.Machine.{Machine, CutKind, Quit, Hang, Spent}
use Rattle.time_sharing.specs.System as system
use Rattle.time_sharing.specs.System.{SystemState, World, Timed, Service, Console, Off, On, Password, Session, Event}
use Rattle.time_sharing.specs.System.{Dials, Types, Quits, Hangs, at, state_of, next, ended, max_lines}
use Rattle.time_sharing.specs.Repeat.{repeat}
use Rattle.time_sharing.specs.Record.{clock_is_below, iterate}
use Rattle.time_sharing.specs.Rows.{machine}
use Rattle.time_sharing.proofs.Tables.{length-put}
use Rattle.user_model.specs.Session.{user_rows}
use Rattle.user_model.specs.User.{User}
use Rattle.system_model.specs.World.{world_with}
use Rattle.system_model.specs.Run as run
use Rattle.system_model.specs.Run.{run_to, measure}
use Rattle.system_model.specs.Record.{users_from, start_of, record_of}

-- what each step keeps is true behind any number of steps
repeat_keeps : {S : Type 0} (P : S → Type 0) (running : S → Bool) (step : S → S) → ((s : S) → P s → P (step s))
    → (n : ℕ)
    (s : S) → P s → P (repeat running step n s)
repeat_keeps P running step keeps zero s h = h
repeat_keeps {S = S} P running step keeps (suc n) s h =
    by_test (running s) (repeat_keeps P running step keeps n (step s) (keeps s h))
  where
    by_test : (b : Bool) → P (repeat running step n (step s))
        → P (elim b as (λ x. S) [ true ↦ repeat running step n (step s) | false ↦ s ])
    by_test true more = more
    by_test false more = h

module _ {S P F : Type 0} (m : Machine S) (w : World S P F) where
  -- the second state has as many users as the first
  abbrev AsMany : SystemState S P F → SystemState S P F → Type 0
  AsMany s t = length t.users ≡ length s.users

  -- one of two
  either_way : (b : Bool) (s x y : SystemState S P F) → AsMany s x → AsMany s y → AsMany s (if b then x else y)
  either_way true s x y one other = one
  either_way false s x y one other = other

  -- an event

  -- idling ends
  idling_over : (o : Option ℕ) (s : SystemState S P F) → AsMany s (system.end_idling_of m w o s)
  idling_over None s = refl
  idling_over (Some from) s = refl

  -- a user's service ends
  stopped : (o : Option Service) (u : ℕ) (s : SystemState S P F) → AsMany s (system.stop_served_of m w o u s)
  stopped None u s = refl
  stopped (Some v) u s = either_way (nat_eq v.user u) s _ _ refl refl

  -- a session is cut
  cut : (kind : CutKind) (c u : ℕ) (s : SystemState S P F)
      → AsMany s (system.cut_at m w kind c u (system.stop_served m w u s))
  cut kind c u s =
      let t = system.stop_served m w u s in
      length-put t.users u (m.cut kind (state_of m w t u)) ∙ stopped s.service u s

  -- a line that asks for a login
  asked : (c : ℕ) (name : Option ℕ) (s : SystemState S P F) → AsMany s (system.asks_in m w c name s)
  asked c None s = refl
  asked c (Some name) s = refl

  -- a line with a password
  logged_in : (c : ℕ) (user : Option ℕ) (s : SystemState S P F) → AsMany s (system.logs_in m w c user s)
  logged_in c None s = refl
  logged_in c (Some u) s =
      either_way (m.is_open (state_of m w s u)) s _ _ refl (length-put s.users u (m.opened (state_of m w s u)))

  -- an event at a console
  heard : (c : ℕ) (console : Console) (e : Event) (s : SystemState S P F)
      → AsMany s (system.at_console m w c console e s)
  heard c Off Dials s = refl
  heard c Off (Types l) s = refl
  heard c Off Quits s = refl
  heard c Off Hangs s = refl
  heard c On Dials s = refl
  heard c On (Types l) s = asked c (w.asked l) s
  heard c On Quits s = refl
  heard c On Hangs s = refl
  heard c (Password name) Dials s = refl
  heard c (Password name) (Types l) s = logged_in c (w.check name l) s
  heard c (Password name) Quits s = refl
  heard c (Password name) Hangs s = refl
  heard c (Session u) Dials s = refl
  heard c (Session u) (Types l) s =
      either_way (nat_lt (m.lines (state_of m w s u)) max_lines) s _ _
      (length-put s.users u (m.typed (state_of m w s u) l)) (cut Spent c u s)
  heard c (Session u) Quits s = cut Quit c u s
  heard c (Session u) Hangs s = cut Hang c u s

  -- an event that is due
  taken : (e : Timed) (rest : List Timed) (s : SystemState S P F) → AsMany s (system.taken m w e rest s)
  taken e rest s =
      let t = system.end_idling_of m w s.idling (record s { events = rest }) in
      heard e.console (at Off t.consoles e.console) e.event t ∙ idling_over s.idling (record s { events = rest })

  -- a tick

  -- a load, a step or a wait
  attended : (v : Service) (s : SystemState S P F) → AsMany s (system.attended m w v s)
  attended v s =
      either_way (w.must_load s.plan v.user (state_of m w s v.user)) s _ _ refl
      (either_way (m.can_step (state_of m w s v.user)) s _ _ (length-put s.users v.user _) refl)

  -- nobody rises
  otherwise : (limit : ℕ) (user : Option ℕ) (o : Option Service) (s : SystemState S P F)
      → AsMany s (system.otherwise m w limit user o s)
  otherwise limit None None s = refl
  otherwise limit None (Some v) s = refl
  otherwise limit (Some u) None s =
      attended (record { tick = s.clock; user = u; level = w.level s.plan u; ran = 0 }) s
  otherwise limit (Some u) (Some v) s = either_way (nat_eq v.user u) s _ _ (attended v s) refl

  -- somebody rises, or nobody
  quiet_by : (limit : ℕ) (rises : Option (ℕ × ℕ)) (s : SystemState S P F) → AsMany s (system.quiet_by m w limit rises s)
  quiet_by limit None s = otherwise limit (w.choose s.plan) s.service s
  quiet_by limit (Some x) s = refl

  -- no event is due
  quiet : (limit : ℕ) (s : SystemState S P F) → AsMany s (system.quiet m w limit s)
  quiet limit s = quiet_by limit (w.rises s.plan (system.served_of s.service) s.clock) s

  -- one step
  next_by : (limit : ℕ) (events : List Timed) (s : SystemState S P F) → AsMany s (system.next_by m w limit events s)
  next_by limit [] s = quiet limit s
  next_by limit (e ∷ rest) s = either_way (nat_le e.tick s.clock) s _ _ (taken e rest s) (quiet limit s)

  -- any number of steps, and the end of the record

  -- any number of steps
  steps : (limit n : ℕ) (s : SystemState S P F) → AsMany s (iterate m w limit n s)
  steps limit n s =
      repeat_keeps (λ (t : SystemState S P F). AsMany s t) (clock_is_below m w limit) (next m w limit)
      (λ t h. next_by limit t.events t ∙ h) n s refl

  -- an open service ends
  closed : (o : Option Service) (s : SystemState S P F) → AsMany s (system.end_open m w o s)
  closed None s = refl
  closed (Some v) s = refl

  -- a whole run, ended
  as_many_users : (limit n : ℕ) (s : SystemState S P F)
      → length (ended m w (iterate m w limit n s)).users ≡ length s.users
  as_many_users limit n s =
      let r = iterate m w limit n s in
      let t = system.end_open m w r.service r in
      idling_over t.idling t ∙ closed r.service r ∙ steps limit n s

-- a user for each account
one_each : (u : ℕ) (accounts : List Account) (owned : List OwnedFile)
    → length (users_from u accounts owned) ≡ length accounts
one_each u [] owned = refl
one_each u (a ∷ accounts) owned = ap suc (one_each (suc u) accounts owned)

-- a list of files for each account
pub lists_of_files : (script : Script) → length (record_of script).files ≡ length script.accounts
unfolding record_of start_of run_to run.ended measure
lists_of_files script =
    let p = script.params in
    let firsts = users_from 1 script.accounts script.files in
    let m = machine user_rows in
    let w = world_with p.swap p.common script.accounts in
    let r = run.ended (run_to script.end (start_of script)) in
    length-map r.system.users (λ (u : User). u.inner.files)
    ∙ as_many_users m w script.end (measure script.end (start_of script)) (start_of script).system
    ∙ one_each 1 script.accounts script.files
