-- Each event of a turn is at its tick, at one of 32 consoles, and one that a card may have.
use Rattle.std.proofs.Common.{◌≡◌, ℕ, suc, ◌+◌, ◌≤◌, ◌<◌, Bool, true, false, List, [], ◌∷◌, ◌++◌, length, Option, Some, None, refl, ap, ◌∙◌, arith}
use Rattle.std.specs.Prelude.{IfSome}
use Rattle.std.specs.List.{All}
use Rattle.std.proofs.lemmas.List.Elements.{All-nil, All-cons, All-append, All-head, All-tail}
use Rattle.ctss_types.specs.declared.script.Event.{Event}
use Rattle.ctss_types.specs.declared.script.Event.TheVariants as event
use Rattle.ctss_types.specs.declared.script.Timed.{Timed}
use Rattle.text_model.specs.Lawful.{IsLawfulEvent}
use Rattle.console_wire.specs.Items.{items_from}
use Rattle.console_wire.specs.Laws.{IsTypedItem}
use Rattle.console_wire.proofs.TypedLaws.{items_are_typed}
use Rattle.console_server.specs.Readings.{Gave, bytes_of, timed, all_timed}
use Rattle.console_server.specs.Turns.{Talk, Desk, HeardOf, TurnAnswers, Told, IsTurn, if_over, events_heard, all_events_heard, dial, dials, free_from, put_first, talk_of, seats_with, seated, all_seats_after, all_seats_told, AreTold, losses, hangs, events_of_turn, seats_to_read, seats_to_write, desk_after}

pub record IsFine (tick : ℕ) (e : Timed) : Type 0 where
  pub tick_is : e.tick ≡ tick
  pub some : 1 ≤ e.console
  pub few : e.console ≤ 32
  pub lawful : IsLawfulEvent e.event

fine : (tick console : ℕ) (e : Event) → 1 ≤ console → console ≤ 32 → IsLawfulEvent e → IsFine tick (timed tick console e)
fine tick console e some few lawful = record { tick_is = refl; some = some; few = few; lawful = lawful }

typed : (e : Event) → IsTypedItem e → IsLawfulEvent e
typed event.Dial h = absurd h
typed (event.Line line) h = record { few = h.0; characters = h.1; ends = h.2 }
typed event.Quit h = tt
typed event.Hang h = absurd h

fine_timed : (tick console : ℕ) (events : List Event) → 1 ≤ console → console ≤ 32 → All IsTypedItem events → All (IsFine tick) (all_timed tick console events)
fine_timed tick console [] some few h = All-nil (IsFine tick)
fine_timed tick console (e ∷ events) some few h =
    All-cons (IsFine tick) (timed tick console e) (all_timed tick console events) (fine tick console e some few (typed e (All-head IsTypedItem e events h)))
    (fine_timed tick console events some few (All-tail IsTypedItem e events h))

one : (tick console : ℕ) (e : Event) → 1 ≤ console → console ≤ 32 → IsLawfulEvent e → All (IsFine tick) (timed tick console e ∷ [])
one tick console e some few lawful = All-cons (IsFine tick) (timed tick console e) [] (fine tick console e some few lawful) (All-nil (IsFine tick))

fine_over : (over : Bool) (tick console : ℕ) → 1 ≤ console → console ≤ 32 → All (IsFine tick) (if_over over (timed tick console event.Hang ∷ []))
fine_over true tick console some few = one tick console event.Hang some few tt
fine_over false tick console some few = All-nil (IsFine tick)

fine_hangs : (tick console : ℕ) (failed : List Bool) → 1 ≤ console → console + length failed ≤ 33 → All (IsFine tick) (hangs tick console failed)
fine_hangs tick console [] some few = All-nil (IsFine tick)
fine_hangs tick console (true ∷ failed) some few =
    All-cons (IsFine tick) (timed tick console event.Hang) (hangs tick (suc console) failed) (fine tick console event.Hang some (omega (arith, few)) tt) (fine_hangs tick (suc console) failed (omega arith) (omega (arith, few)))
fine_hangs tick console (false ∷ failed) some few = fine_hangs tick (suc console) failed (omega arith) (omega (arith, few))

-- a free console is one of them

abbrev Within : ℕ → ℕ → Option ℕ → Type 0
Within low high console = IfSome console (λ c. (low ≤ c) × (c < high))

wider : (low high : ℕ) (console : Option ℕ) → Within (suc low) high console → Within low high console
wider low high None h = tt
wider low high (Some c) h = (omega (arith, h.0), h.1)

higher : (low a b : ℕ) (console : Option ℕ) → a ≡ b → Within low a console → Within low b console
higher low a b None is h = tt
higher low a b (Some c) is h = (h.0, omega (arith, is, h.1))

free_within : (low : ℕ) (seats : List (Option Talk)) → Within low (low + length seats) (free_from low seats)
free_within low [] = tt
free_within low (None ∷ seats) = (omega arith, omega arith)
free_within low (Some t ∷ seats) =
    let more : suc low + length seats ≡ low + suc (length seats) = omega arith in
    wider low (low + suc (length seats)) (free_from (suc low) seats) (higher (suc low) (suc low + length seats) (low + suc (length seats)) (free_from (suc low) seats) more (free_within (suc low) seats))

fine_dial : (tick high : ℕ) (console : Option ℕ) → high ≤ 33 → Within 1 high console → All (IsFine tick) (dial tick console)
fine_dial tick high None most h = All-nil (IsFine tick)
fine_dial tick high (Some c) most h = one tick c event.Dial h.0 (omega (arith, most, h.1)) tt

long_put : (t : Talk) (seats : List (Option Talk)) → length (put_first t seats) ≡ length seats
long_put t [] = refl
long_put t (None ∷ seats) = refl
long_put t (Some u ∷ seats) = ap suc (long_put t seats)

pub long_seated : (texts : List (List ℕ)) (seats : List (Option Talk)) (ids : List ℕ) → length (seated texts seats ids) ≡ length seats
long_seated texts seats [] = refl
long_seated texts seats (id ∷ ids) = long_seated texts (seats_with texts id seats) ids ∙ long_put (talk_of texts (free_from 1 seats) id) seats

fine_dials : (tick : ℕ) (texts : List (List ℕ)) (seats : List (Option Talk)) (ids : List ℕ) → length seats ≤ 32 → All (IsFine tick) (dials tick texts seats ids)
fine_dials tick texts seats [] few = All-nil (IsFine tick)
fine_dials tick texts seats (id ∷ ids) few =
    let same : length (seats_with texts id seats) ≡ length seats = long_put (talk_of texts (free_from 1 seats) id) seats in
    All-append (IsFine tick) (dial tick (free_from 1 seats)) (dials tick texts (seats_with texts id seats) ids)
    (fine_dial tick (1 + length seats) (free_from 1 seats) (omega (arith, few)) (free_within 1 seats))
    (fine_dials tick texts (seats_with texts id seats) ids (omega (arith, few, same)))

fine_heard : (tick console : ℕ) (seat : Option Talk) (reads : List Gave) (over : Bool) → 1 ≤ console → console ≤ 32 → All (IsFine tick) (events_heard tick console seat reads over)
fine_heard tick console None reads over some few = All-nil (IsFine tick)
fine_heard tick console (Some t) reads over some few =
    All-append (IsFine tick) (all_timed tick console (items_from t.piece (bytes_of reads))) (if_over over (timed tick console event.Hang ∷ []))
    (fine_timed tick console (items_from t.piece (bytes_of reads)) some few (items_are_typed t.piece (bytes_of reads))) (fine_over over tick console some few)

fine_all_heard : (tick console : ℕ) (seats : List (Option Talk)) (hs : List HeardOf) → 1 ≤ console → console + length seats ≤ 33 → All (IsFine tick) (all_events_heard tick console seats hs)
fine_all_heard tick console [] hs some few = All-nil (IsFine tick)
fine_all_heard tick console (s ∷ seats) [] some few = All-nil (IsFine tick)
fine_all_heard tick console (s ∷ seats) (h ∷ hs) some few =
    All-append (IsFine tick) (events_heard tick console s h.reads h.over) (all_events_heard tick (suc console) seats hs) (fine_heard tick console s h.reads h.over some (omega (arith, few)))
    (fine_all_heard tick (suc console) seats hs (omega arith) (omega (arith, few)))

-- there are as many seats and flags after a turn

long_after : (seats : List (Option Talk)) (hs : List HeardOf) → length (all_seats_after seats hs) ≡ length seats
long_after [] hs = refl
long_after (s ∷ seats) [] = refl
long_after (s ∷ seats) (h ∷ hs) = ap suc (long_after seats hs)

long_told : (seats : List (Option Talk)) (ts : List Told) → length (all_seats_told seats ts) ≡ length seats
long_told [] ts = refl
long_told (s ∷ seats) [] = refl
long_told (s ∷ seats) (t ∷ ts) = ap suc (long_told seats ts)

long_losses : (texts : List (List ℕ)) (place : ℕ) (seats : List (Option Talk)) (ts : List Told) → AreTold texts place seats ts → length (losses ts) ≡ length seats
long_losses texts place [] [] h = refl
long_losses texts place [] (t ∷ ts) h = cc
long_losses texts place (s ∷ seats) [] h = cc
long_losses texts place (s ∷ seats) (t ∷ ts) h = ap suc (long_losses texts (suc place) seats ts h.1)

pub record IsWhole (desk : Desk) : Type 0 where
  pub seats : length desk.seats ≡ 32
  pub failed : length desk.failed ≡ 32

pub whole_after : (texts shown : List (List ℕ)) (desk : Desk) (turn : TurnAnswers) → IsWhole desk → IsTurn texts shown desk turn → IsWhole (desk_after texts desk turn)
whole_after texts shown desk turn w lawful =
    let written : length (seats_to_write texts desk turn) ≡ 32 = long_after (seats_to_read texts desk turn) turn.heard ∙ long_seated texts desk.seats turn.accepts ∙ w.seats in
    record {
      seats = long_told (seats_to_write texts desk turn) turn.told ∙ written;
      failed = long_losses shown 0 (seats_to_write texts desk turn) turn.told lawful.told ∙ written;
    }

pub fine_turn : (tick : ℕ) (texts : List (List ℕ)) (desk : Desk) (turn : TurnAnswers) → IsWhole desk → All (IsFine tick) (events_of_turn tick texts desk turn)
fine_turn tick texts desk turn w =
    let read : length (seats_to_read texts desk turn) ≡ 32 = long_seated texts desk.seats turn.accepts ∙ w.seats in
    let failed = w.failed in
    let seats = w.seats in
    All-append (IsFine tick) (hangs tick 1 desk.failed) (dials tick texts desk.seats turn.accepts ++ all_events_heard tick 1 (seats_to_read texts desk turn) turn.heard)
    (fine_hangs tick 1 desk.failed (omega arith) (omega (arith, failed)))
    (All-append (IsFine tick) (dials tick texts desk.seats turn.accepts) (all_events_heard tick 1 (seats_to_read texts desk turn) turn.heard)
    (fine_dials tick texts desk.seats turn.accepts (omega (arith, seats)))
    (fine_all_heard tick 1 (seats_to_read texts desk turn) turn.heard (omega arith) (omega (arith, read))))
