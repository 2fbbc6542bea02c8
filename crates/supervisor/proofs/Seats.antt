-- No step changes how many consoles there are.
use Rattle.std.proofs.Common.{◌≡◌, ℕ, zero, suc, true, false, nat_lt, nat_le, nat_eq, List, [], ◌∷◌, length, Option, Some, None, refl, sym, ◌∙◌, ap, length-set, if◌then◌else◌}
use Rattle.std.proofs.lemmas.List.{length-map}
use Rattle.time_sharing.specs.Machine.{Machine, CutKind, Quit, Hang, Spent, End, Ending, Went, Stopped, Resized, Replaced, LoggedOut}
use Rattle.time_sharing.specs.Rows.{machine}
use Rattle.time_sharing.specs.System as system
use Rattle.time_sharing.specs.System.{SystemState, World, Timed, Service, Console, Event, Off, On, Password, Session, Dials, Types, Quits, Hangs, state_of, put, without, out_of, consoles_cut, consoles_after}
use Rattle.user_model.specs.Session.{user_rows}
use Rattle.user_model.specs.Inner.{Stored}
use Rattle.system_model.specs.Run.{world, Run, next}
use Rattle.system_model.specs.Joined.{joined}
use Rattle.system_model.proofs.PassLaws.{passes_keep}
use Rattle.user_cores.specs.Backing.{Held}
use Rattle.supervisor.specs.Runs.{DoesMany}
use Rattle.supervisor.specs.Steps.{Does}

length_put : {A : Type 0} (xs : List A) (c : ℕ) (a : A) → length (put xs c a) ≡ length xs
length_put xs zero a = refl
length_put xs (suc n) a = length-set xs n a

length_without : (u : ℕ) (cs : List Console) → length (without u cs) ≡ length cs
length_without u cs = length-map cs (out_of u)

cut_seats : (kind : CutKind) (c u : ℕ) (cs : List Console) → length (consoles_cut kind c u cs) ≡ length cs
cut_seats Quit c u cs = refl
cut_seats Hang c u cs = length_put (without u cs) c Off ∙ length_without u cs
cut_seats Spent c u cs = length_without u cs
cut_seats End c u cs = refl

end_seats : (e : Ending) (u : ℕ) (cs : List Console) → length (consoles_after e u cs) ≡ length cs
end_seats LoggedOut u cs = length_without u cs
end_seats Went u cs = refl
end_seats Stopped u cs = refl
end_seats Resized u cs = refl
end_seats Replaced u cs = refl

module _ {S P F : Type 0} (m : Machine S) (w : World S P F) where
  abbrev Keeps : SystemState S P F → SystemState S P F → Type 0
  Keeps s t = length t.consoles ≡ length s.consoles

  idling_keeps : (idling : Option ℕ) (s : SystemState S P F) → Keeps s (system.end_idling_of m w idling s)
  idling_keeps None s = refl
  idling_keeps (Some from) s = refl

  stop_keeps : (service : Option Service) (u : ℕ) (s : SystemState S P F) → Keeps s (system.stop_served_of m w service u s)
  stop_keeps None u s = refl
  stop_keeps (Some v) u s = elim (nat_eq v.user u) as (λ b. Keeps s (if b then system.end_service m w system.Stop v s else s)) [ true ↦ refl | false ↦ refl ]

  cut_keeps : (kind : CutKind) (c u : ℕ) (s : SystemState S P F) → Keeps s (system.cut_at m w kind c u (system.stop_served m w u s))
  cut_keeps kind c u s = cut_seats kind c u (system.stop_served m w u s).consoles ∙ stop_keeps s.service u s

  console_keeps : (c : ℕ) (console : Console) (event : Event) (s : SystemState S P F) → Keeps s (system.at_console m w c console event s)
  console_keeps c Off Dials s = length_put s.consoles c _
  console_keeps c Off (Types l) s = length_put s.consoles c _
  console_keeps c Off Quits s = length_put s.consoles c _
  console_keeps c Off Hangs s = length_put s.consoles c _
  console_keeps c On Dials s = length_put s.consoles c _
  console_keeps c On (Types l) s = elim (w.asked l) as (λ n. Keeps s (system.asks_in m w c n s)) [ None ↦ length_put s.consoles c _ | Some n ↦ length_put s.consoles c _ ]
  console_keeps c On Quits s = length_put s.consoles c _
  console_keeps c On Hangs s = length_put s.consoles c _
  console_keeps c (Password name) Dials s = length_put s.consoles c _
  console_keeps c (Password name) (Types l) s =
      elim (w.check name l) as (λ n. Keeps s (system.logs_in m w c n s)) [
        | None ↦ length_put s.consoles c _
        | Some v ↦ elim (m.is_open (state_of m w s v)) as (λ b. Keeps s (if b then system.heard m w c system.LineTaken On (system.Refused s.clock c 2 ∷ []) s else system.opens m w c v s))
            [ true ↦ length_put s.consoles c _ | false ↦ length_put s.consoles c (Session v) ]
      ]
  console_keeps c (Password name) Quits s = length_put s.consoles c _
  console_keeps c (Password name) Hangs s = length_put s.consoles c _
  console_keeps c (Session v) Dials s = refl
  console_keeps c (Session v) (Types l) s =
      elim (nat_lt (m.lines (state_of m w s v)) system.max_lines) as (λ b. Keeps s (if b then system.line_at m w c v l s else system.cut_at m w Spent c v (system.stop_served m w v s)))
      [ true ↦ refl | false ↦ cut_keeps Spent c v s ]
  console_keeps c (Session v) Quits s = cut_keeps Quit c v s
  console_keeps c (Session v) Hangs s = cut_keeps Hang c v s

  taken_keeps : (e : Timed) (rest : List Timed) (s : SystemState S P F) → Keeps s (system.taken m w e rest s)
  taken_keeps e rest s =
      let r : SystemState S P F = record s { events = rest } in
      let t = system.end_idling_of m w s.idling r in
      console_keeps e.console (system.at Off t.consoles e.console) e.event t ∙ idling_keeps s.idling r

  stepped_keeps : (x : Service) (s : SystemState S P F) → Keeps s (system.stepped m w x s)
  stepped_keeps x s =
      elim (m.can_step (state_of m w s x.user)) as (λ b. Keeps s (if b then system.goes m w x (state_of m w s x.user) s else system.waits m w x (state_of m w s x.user) s))
      [ true ↦ end_seats _ x.user s.consoles | false ↦ refl ]

  attended_keeps : (x : Service) (s : SystemState S P F) → Keeps s (system.attended m w x s)
  attended_keeps x s =
      elim (w.must_load s.plan x.user (state_of m w s x.user)) as (λ b. Keeps s (if b then system.swapped m w x.user s else system.stepped m w x s))
      [ true ↦ refl | false ↦ stepped_keeps x s ]

  otherwise_keeps : (limit : ℕ) (chosen : Option ℕ) (service : Option Service) (s : SystemState S P F) → Keeps s (system.otherwise m w limit chosen service s)
  otherwise_keeps limit None None s = refl
  otherwise_keeps limit None (Some x) s = refl
  otherwise_keeps limit (Some v) None s = attended_keeps _ s
  otherwise_keeps limit (Some v) (Some x) s =
      elim (nat_eq x.user v) as (λ b. Keeps s (if b then system.attended m w x s else system.preempt m w x s)) [ true ↦ attended_keeps x s | false ↦ refl ]

  quiet_keeps : (limit : ℕ) (rising : Option (ℕ × ℕ)) (s : SystemState S P F) → Keeps s (system.quiet_by m w limit rising s)
  quiet_keeps limit None s = otherwise_keeps limit (w.choose s.plan) s.service s
  quiet_keeps limit (Some x) s = refl

  next_keeps : (limit : ℕ) (events : List Timed) (s : SystemState S P F) → Keeps s (system.next_by m w limit events s)
  next_keeps limit [] s = quiet_keeps limit _ s
  next_keeps limit (e ∷ rest) s =
      elim (nat_le e.tick s.clock) as (λ b. Keeps s (if b then system.taken m w e rest s else system.quiet m w limit s))
      [ true ↦ taken_keeps e rest s | false ↦ quiet_keeps limit _ s ]

pub next_seats : (limit : ℕ) (r : Run) → length (next limit r).system.consoles ≡ length r.system.consoles
unfolding next
next_seats limit r = next_keeps (machine user_rows) (world r) limit r.system.events r.system

joined_seats : (f : ℕ → Stored) (r : Run) → length (joined f r).system.consoles ≡ length r.system.consoles
unfolding joined
joined_seats f r = refl

pub does_seats : (limit : ℕ) (old new : Run) (had has : Held) → Does (next limit) old new had has → length new.system.consoles ≡ length old.system.consoles
does_seats limit old new had has d =
    sym (joined_seats d.after new) ∙ ap (λ (r : Run). length r.system.consoles) d.is ∙ next_seats limit (joined d.before old) ∙ joined_seats d.before old

pub many_seats : (limit : ℕ) (old new : Run) (had has : Held) → DoesMany limit old new had has → length new.system.consoles ≡ length old.system.consoles
many_seats limit old new had has d =
    sym (joined_seats d.after new)
    ∙ passes_keep (λ r. length r.system.consoles ≡ length old.system.consoles) limit d.steps (joined d.before old) (joined d.after new)
    (λ r up quiet same h. next_seats limit r ∙ h) d.passes (joined_seats d.before old)
