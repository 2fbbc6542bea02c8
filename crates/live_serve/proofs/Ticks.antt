-- The events of a turn come at its tick, so turns are parts of a run in order.
use Rattle.std.proofs.Common.{◌≡◌, ℕ, suc, ◌+◌, ◌*◌, ◌≤◌, Bool, true, false, List, [], ◌∷◌, ◌++◌, length, Option, Some, None, subst, arith}
use Rattle.ctss_types.specs.declared.script.Event.{Event}
use Rattle.ctss_types.specs.declared.script.Event.TheVariants.{Hang}
use Rattle.ctss_types.specs.declared.script.Timed.{Timed}
use Rattle.time_sharing.specs.Record.{AreLate}
use Rattle.console_wire.specs.Items.{items_from}
use Rattle.console_server.specs.Readings.{Gave, bytes_of, timed, all_timed}
use Rattle.console_server.specs.Turns.{Talk, Desk, HeardOf, TurnAnswers, if_over, events_heard, all_events_heard, dial, dials, free_from, seats_with, hangs, events_of_turn, seats_to_read, desk_after}
use Rattle.console_server.specs.Conversation.{TurnSeen, events_of_turns}
use Rattle.live_run.specs.Parts.{AreInOrder}
use Rattle.live_serve.specs.Live.{parts_from}

pub late_both : (limit : ℕ) (es fs : List Timed) → AreLate limit es → AreLate limit fs → AreLate limit (es ++ fs)
late_both limit [] fs h k = k
late_both limit (e ∷ es) fs h k = (h.0, late_both limit es fs h.1 k)

late_timed : (tick console : ℕ) (events : List Event) → AreLate tick (all_timed tick console events)
late_timed tick console [] = tt
late_timed tick console (e ∷ events) = (omega arith, late_timed tick console events)

late_over : (over : Bool) (tick console : ℕ) → AreLate tick (if_over over (timed tick console Hang ∷ []))
late_over true tick console = (omega arith, tt)
late_over false tick console = tt

pub late_hangs : (tick console : ℕ) (failed : List Bool) → AreLate tick (hangs tick console failed)
late_hangs tick console [] = tt
late_hangs tick console (true ∷ failed) = (omega arith, late_hangs tick (suc console) failed)
late_hangs tick console (false ∷ failed) = late_hangs tick (suc console) failed

late_dial : (tick : ℕ) (console : Option ℕ) → AreLate tick (dial tick console)
late_dial tick None = tt
late_dial tick (Some console) = (omega arith, tt)

pub late_dials : (tick : ℕ) (texts : List (List ℕ)) (seats : List (Option Talk)) (ids : List ℕ) → AreLate tick (dials tick texts seats ids)
late_dials tick texts seats [] = tt
late_dials tick texts seats (id ∷ ids) =
    late_both tick (dial tick (free_from 1 seats)) (dials tick texts (seats_with texts id seats) ids) (late_dial tick (free_from 1 seats)) (late_dials tick texts (seats_with texts id seats) ids)

late_heard : (tick console : ℕ) (seat : Option Talk) (reads : List Gave) (over : Bool) → AreLate tick (events_heard tick console seat reads over)
late_heard tick console None reads over = tt
late_heard tick console (Some t) reads over =
    late_both tick (all_timed tick console (items_from t.piece (bytes_of reads))) (if_over over (timed tick console Hang ∷ []))
    (late_timed tick console (items_from t.piece (bytes_of reads))) (late_over over tick console)

late_all_heard : (tick console : ℕ) (seats : List (Option Talk)) (hs : List HeardOf) → AreLate tick (all_events_heard tick console seats hs)
late_all_heard tick console [] hs = tt
late_all_heard tick console (s ∷ seats) [] = tt
late_all_heard tick console (s ∷ seats) (h ∷ hs) =
    late_both tick (events_heard tick console s h.reads h.over) (all_events_heard tick (suc console) seats hs) (late_heard tick console s h.reads h.over) (late_all_heard tick (suc console) seats hs)

pub late_turn : (tick : ℕ) (texts : List (List ℕ)) (desk : Desk) (turn : TurnAnswers) → AreLate tick (events_of_turn tick texts desk turn)
late_turn tick texts desk turn =
    late_both tick (hangs tick 1 desk.failed) (dials tick texts desk.seats turn.accepts ++ all_events_heard tick 1 (seats_to_read texts desk turn) turn.heard) (late_hangs tick 1 desk.failed)
    (late_both tick (dials tick texts desk.seats turn.accepts) (all_events_heard tick 1 (seats_to_read texts desk turn) turn.heard) (late_dials tick texts desk.seats turn.accepts)
    (late_all_heard tick 1 (seats_to_read texts desk turn) turn.heard))

pub in_order : (n last : ℕ) (texts : List (List ℕ)) (desk : Desk) (turns : List TurnSeen) → last ≡ 1000 * (n + length turns) → AreInOrder (1000 * n) last (parts_from n (events_of_turns n texts desk turns))
in_order n last texts desk [] is = omega (arith, is)
in_order n last texts desk (t ∷ turns) is =
    let up : 1000 * n ≤ 1000 * (n + 1) = omega arith in
    let next : 1000 * suc n ≡ 1000 * (n + 1) = omega arith in
    let rest : last ≡ 1000 * (suc n + length turns) = omega (arith, is) in (
      up,
      (
        late_turn (1000 * n) texts desk t.answers,
        subst (λ (k : ℕ). AreInOrder k last (parts_from (suc n) (events_of_turns (suc n) t.shown (desk_after texts desk t.answers) turns))) next
            (in_order (suc n) last t.shown (desk_after texts desk t.answers) turns rest),
      ),
    )
