-- The start and the end of a talk.
use Rattle.std.proofs.Common.{◌≡◌, ℕ, zero, suc, ◌≤◌, Bool, true, false, List, [], ◌∷◌, ◌++◌, length, map, replicate, Option, Some, None, Ok, Err, refl, sym, ap, ap₂, subst, ◌∙◌, arith}
use Rattle.std.proofs.lemmas.List.{append_assoc}
use Rattle.std.specs.Prelude.{OnOk, IfErr}
use Rattle.std.specs.declared.result.Result.{Result}
use Rattle.std.specs.Borrow.{MutBor}
use Rattle.ctss_types.specs.declared.script.Timed.{Timed}
use Rattle.live_core.specs.Core.{CoreSeen, CoreCall, Took}
use Rattle.console_link.specs.Links.{LinkSeen, Done, DidClose, Rises}
use Rattle.console_server.specs.declared.tasks.Task.{Task}
use Rattle.console_server.specs.Turns.{Talk}
use Rattle.console_server.specs.Seats.{Stands, StandAll}
use Rattle.console_server.specs.declared.fault.ServeFault.{ServeFault}
use Rattle.console_server.specs.declared.fault.ServeFault.TheVariants as serve
use Rattle.console_server.specs.Readings.{DidAll, Nothing, Then}
use Rattle.console_server.specs.History.{heard_in}
use Rattle.console_server.specs.Cores.{CanGoOn}
use Rattle.console_server.specs.Server.{ServerState, IsReady, IsDeskOf, IsCause, calls_until, ends_with, closes, closes_of}
use Rattle.console_server.specs.Conversation.{TurnsAreDone, TurnsAreCut, calls_of_turns, events_of_turns, desk_behind, texts_behind}
use Rattle.console_server.proofs.Following.{did_both}
use Rattle.live_serve.specs.Talks.{empty_desk, close_of, closes_of_desk, TalkIsDone, TalkIsCut}

close_stands : (seat : Option Task) (talk : Option Talk) → Stands seat talk → closes_of seat ≡ close_of talk
close_stands None None h = refl
close_stands None (Some t) h = absurd h
close_stands (Some s) None h = absurd h
close_stands (Some s) (Some t) h = ap (λ (id : ℕ). DidClose id ∷ []) h.id

pub closes_stand : (seats : List (Option Task)) (desk : List (Option Talk)) → StandAll seats desk → closes seats ≡ closes_of_desk desk
closes_stand [] [] h = refl
closes_stand [] (t ∷ desk) h = absurd h
closes_stand (s ∷ seats) [] h = absurd h
closes_stand (s ∷ seats) (t ∷ desk) h = ap₂ (λ (a b : List Done). a ++ b) (close_stands s t h.0) (closes_stand seats desk h.1)

abbrev numbers_of : List (Option Task) → List ℕ
numbers_of [] = []
numbers_of (None ∷ seats) = numbers_of seats
numbers_of (Some task ∷ seats) = task.id ∷ numbers_of seats

numbers_few : (seats : List (Option Task)) → length (numbers_of seats) ≤ length seats
numbers_few [] = omega arith
numbers_few (None ∷ seats) = omega (arith, numbers_few seats)
numbers_few (Some task ∷ seats) = omega (arith, numbers_few seats)

closes_numbers : (seats : List (Option Task)) → closes seats ≡ map DidClose (numbers_of seats)
closes_numbers [] = refl
closes_numbers (None ∷ seats) = closes_numbers seats
closes_numbers (Some task ∷ seats) = ap (λ (ds : List Done). DidClose task.id ∷ ds) (closes_numbers seats)

pub stand_none : (n : ℕ) → StandAll (replicate n None) (replicate n None)
stand_none zero = tt
stand_none (suc n) = (tt, stand_none n)

-- the listener's count of faults never falls

rises : (may must : Bool) (old new : ℕ) → Rises may must old new → old ≤ new
rises false must old new h = omega (arith, h)
rises true false old new h = h
rises true true old new h = h.0

faults_rise : (ds : List Done) (a b : LinkSeen) → DidAll ds a b → a.faults ≤ b.faults
faults_rise [] a b (Nothing _) = omega arith
faults_rise (d ∷ ds) a b (Then _ _ _ m _ did rest) = omega (arith, rises _ _ a.faults m.faults did.faults, faults_rise ds m b rest)

cause_later : (fault : ServeFault) (a b c : LinkSeen) (p q : CoreSeen) → b.faults ≤ c.faults → IsCause fault a b p q → IsCause fault a c p q
cause_later serve.Link a b c p q le rose = omega (arith, le, rose)
cause_later serve.Drum a b c p q le rose = rose
cause_later serve.Disk a b c p q le rose = rose
cause_later serve.NoMemory a b c p q le rose = rose

-- a server that has done nothing yet
abbrev pub first : {C L : Type 0} → C → MutBor L → ServerState C L
first core link = record { core = core; events = []; seats = replicate 32 None; failed = replicate 32 false; link = link }

module _ {C L : Type 0} (goes : C → List CoreCall → C → Type 0) (see : C → CoreSeen) (look : L → LinkSeen) where
  pub first_desk : (s : ServerState C L) (core : C) (link : MutBor L) → s ≡ first core link → IsDeskOf s empty_desk
  first_desk s core link is = subst (λ (t : ServerState C L). IsDeskOf t empty_desk) (sym is) (record { seats = stand_none 32; failed = refl })

  pub talk_done : (r : Result Unit ServeFault) (count : ℕ) (old new : ServerState C L) (core end : C) (link : MutBor L) (m z : LinkSeen) (events : List Timed) → old ≡ first core link
      → OnOk r (TurnsAreDone goes see look count empty_desk old new) → DidAll (closes new.seats) (look new.link.now) m → end ≡ new.core → events ≡ new.events → m ≡ z
      → OnOk r (TalkIsDone goes see (see core).texts count events (look link.now) z core end)
  talk_done (Ok x) count old new core end link m z events is done closed core_is events_are same =
      let t : TurnsAreDone goes see look count empty_desk (first core link) new = subst (λ (s : ServerState C L). TurnsAreDone goes see look count empty_desk s new) is done in
      let shut : DidAll (closes new.seats) (look new.link.now) z = subst (λ (s : LinkSeen). DidAll (closes new.seats) (look new.link.now) s) same closed in
      record {
        turns = t.turns;
        many = t.many;
        lawful = t.lawful;
        each = t.each;
        link =
            subst (λ (l : List Done). DidAll (calls_of_turns (see core).texts empty_desk t.turns ++ l) (look link.now) z) (closes_stand new.seats (desk_behind (see core).texts empty_desk t.turns).seats t.seats)
            (did_both (calls_of_turns (see core).texts empty_desk t.turns) (closes new.seats) (look link.now) (look new.link.now) z t.link shut);
        core = subst (λ (c : C). goes core (heard_in 0 (events_of_turns 0 (see core).texts empty_desk t.turns)) c) (sym core_is) t.core;
        events_are = events_are ∙ t.noted;
      }
  talk_done (Err f) count old new core end link m z events is done closed core_is events_are same = tt

  pub talk_cut : (r : Result Unit ServeFault) (count : ℕ) (old new : ServerState C L) (core end : C) (link : MutBor L) (m z : LinkSeen) → old ≡ first core link
      → IfErr r (λ fault. TurnsAreCut goes see look count empty_desk fault old new) → length new.seats ≡ 32 → DidAll (closes new.seats) (look new.link.now) m → end ≡ new.core → m ≡ z
      → IfErr r (λ fault. TalkIsCut goes see (see core).texts count fault (look link.now) z core end)
  talk_cut (Ok x) count old new core end link m z is cut many closed core_is same = tt
  talk_cut (Err f) count old new core end link m z is cut many closed core_is same =
      let t : TurnsAreCut goes see look count empty_desk f (first core link) new = subst (λ (s : ServerState C L). TurnsAreCut goes see look count empty_desk f s new) is cut in
      let texts = (see core).texts in
      let done = calls_of_turns texts empty_desk t.turns in
      let made = calls_until (texts_behind texts t.turns) (desk_behind texts empty_desk t.turns) t.answers t.at in
      let shut : DidAll (map DidClose (numbers_of new.seats)) (look new.link.now) z =
      subst (λ (ds : List Done). DidAll ds (look new.link.now) z) (closes_numbers new.seats) (subst (λ (s : LinkSeen). DidAll (closes new.seats) (look new.link.now) s) same closed) in
      record {
        turns = t.turns;
        few = t.few;
        lawful = t.lawful;
        each = t.each;
        events = t.events;
        answers = t.answers;
        at = t.at;
        closed = numbers_of new.seats;
        seated = (let few = numbers_few new.seats in omega (arith, few, many));
        cut = t.cut;
        link = subst (λ (ds : List Done). DidAll ds (look link.now) z) (append_assoc done made (map DidClose (numbers_of new.seats)))
            (did_both (done ++ made) (map DidClose (numbers_of new.seats)) (look link.now) (look new.link.now) z t.link shut);
        part = t.part;
        core = subst (λ (c : C). goes core (heard_in 0 (events_of_turns 0 texts empty_desk t.turns) ++ (map Took t.events ++ ends_with (length t.turns) f t.at)) c) (sym core_is) t.core;
      }

  pub talk_can : (sound : C → Type 0) (r : Result Unit ServeFault) (new : ServerState C L) (end : C) → OnOk r (IsReady see sound new) → end ≡ new.core → OnOk r (CanGoOn see sound end)
  talk_can sound (Ok x) new end ready is = record { ready = ap (λ (c : C). (see c).is_ended) is ∙ ready.ready; sound = subst sound (sym is) ready.sound }
  talk_can sound (Err f) new end ready is = tt

  pub talk_cause : (r : Result Unit ServeFault) (old new : ServerState C L) (core end : C) (link : MutBor L) (m z : LinkSeen) → old ≡ first core link
      → IfErr r (λ fault. IsCause fault (look old.link.now) (look new.link.now) (see old.core) (see new.core)) → DidAll (closes new.seats) (look new.link.now) m → end ≡ new.core → m ≡ z
      → IfErr r (λ fault. IsCause fault (look link.now) z (see core) (see end))
  talk_cause (Ok x) old new core end link m z is cause closed core_is same = tt
  talk_cause (Err f) old new core end link m z is cause closed core_is same =
      let here : IsCause f (look link.now) (look new.link.now) (see core) (see new.core) = subst (λ (s : ServerState C L). IsCause f (look s.link.now) (look new.link.now) (see s.core) (see new.core)) is cause in
      let shut : DidAll (closes new.seats) (look new.link.now) z = subst (λ (s : LinkSeen). DidAll (closes new.seats) (look new.link.now) s) same closed in
      subst (λ (c : C). IsCause f (look link.now) z (see core) (see c)) (sym core_is)
      (cause_later f (look link.now) (look new.link.now) z (see core) (see new.core) (faults_rise (closes new.seats) (look new.link.now) z shut) here)
