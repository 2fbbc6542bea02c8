-- A turn that failed is the last part of a run in order.
use Rattle.std.proofs.Common.{◌≡◌, Bool, ℕ, zero, suc, ◌+◌, ◌*◌, ◌≤◌, List, [], ◌∷◌, ◌++◌, length, take, refl, sym, ap, subst, ◌∙◌, arith}
use Rattle.std.proofs.lemmas.List.{append_assoc, append-nil}
use Rattle.ctss_types.specs.declared.script.Script.{Script}
use Rattle.ctss_types.specs.declared.script.Timed.{Timed}
use Rattle.ctss_types.specs.declared.history.Record.{Record}
use Rattle.time_sharing.specs.Record.{AreLate}
use Rattle.system_model.specs.Record.{record_of}
use Rattle.supervisor.specs.Seen.{record_so_far}
use Rattle.live_run.specs.Parts.{Part, AreInOrder, all_events, live_script}
use Rattle.live_run.specs.Beginnings.{IsBeginningOf}
use Rattle.live_run.proofs.Beginnings.{stopped_parts_are_beginnings}
use Rattle.console_server.specs.Turns.{Desk, TurnAnswers, hangs, dials, events_of_turn}
use Rattle.console_server.specs.Server.{CutAt, Waiting, Hanging, Accepting, Dialling, Reading, Advancing, GivenUntil}
use Rattle.console_server.specs.Conversation.{events_of_turns, desk_behind, texts_behind}
use Rattle.console_link.specs.Links.{LinkSeen}
use Rattle.live_serve.specs.Talks.{empty_desk, silent, events_given, IsCutTalk}
use Rattle.live_serve.specs.Live.{parts_from}
use Rattle.live_serve.specs.Stops.{LiveStopsAreBeginnings}
use Rattle.live_serve.proofs.Ticks.{late_both, late_hangs, late_dials, late_turn, in_order}
use Rattle.live_serve.proofs.Behind.{events_are}

late_first : (n limit : ℕ) (es : List Timed) → AreLate limit es → AreLate limit (take n es)
late_first zero limit es h = tt
late_first (suc n) limit [] h = tt
late_first (suc n) limit (e ∷ es) h = (h.0, late_first n limit es h.1)

-- the events that were given until a turn failed come at its tick
late_until : (tick : ℕ) (texts : List (List ℕ)) (desk : Desk) (turn : TurnAnswers) (at : CutAt) (events : List Timed) → GivenUntil tick texts desk turn at events → AreLate tick events
late_until tick texts desk turn Waiting events is = subst (AreLate tick) (sym is) tt
late_until tick texts desk turn Hanging events is =
    subst (AreLate tick) (sym is) (late_first (length events) tick (hangs tick 1 desk.failed) (late_hangs tick 1 desk.failed))
late_until tick texts desk turn Accepting events is =
    subst (AreLate tick) (sym is) (late_both tick (hangs tick 1 desk.failed) (dials tick texts desk.seats turn.accepts) (late_hangs tick 1 desk.failed) (late_dials tick texts desk.seats turn.accepts))
late_until tick texts desk turn Dialling events is =
    let all = hangs tick 1 desk.failed ++ dials tick texts desk.seats turn.accepts in
    let late : AreLate tick all = late_both tick (hangs tick 1 desk.failed) (dials tick texts desk.seats turn.accepts) (late_hangs tick 1 desk.failed) (late_dials tick texts desk.seats turn.accepts) in
    subst (AreLate tick) (sym is) (late_first (length events) tick all late)
late_until tick texts desk turn Reading events is =
    subst (AreLate tick) (sym is) (late_first (length events) tick (events_of_turn tick texts desk turn) (late_turn tick texts desk turn))
late_until tick texts desk turn Advancing events is = subst (AreLate tick) (sym is) (late_turn tick texts desk turn)

-- parts in order, and one that comes behind them
in_order_with : (parts : List Part) (start last : ℕ) (p : Part) → AreInOrder start last parts → last ≤ p.limit → AreLate last p.events → AreInOrder start p.limit (parts ++ p ∷ [])
in_order_with [] start last p h le late = (omega (arith, h, le), (subst (λ (n : ℕ). AreLate n p.events) (sym h) late, refl))
in_order_with (q ∷ parts) start last p h le late = (h.0, (h.1.0, in_order_with parts q.limit last p h.1.1 le late))

all_events_with : (parts : List Part) (p : Part) → all_events (parts ++ p ∷ []) ≡ all_events parts ++ p.events
all_events_with [] p = append-nil p.events
all_events_with (q ∷ parts) p = ap (λ (es : List Timed). q.events ++ es) (all_events_with parts p) ∙ sym (append_assoc q.events (all_events parts) p.events)

module _ (base : Script) {told : Bool} {port turns : ℕ} {at : CutAt} {a b : LinkSeen} (talk : IsCutTalk base told port turns at a b) where
  -- the turn that failed
  abbrev pub last_part : Part
  last_part = record { events = talk.events; limit = 1000 * (length talk.turns + 1) }

  abbrev pub all_parts : List Part
  all_parts = parts_from 0 (events_of_turns 0 silent empty_desk talk.turns) ++ last_part ∷ []

  pub in_order_to : AreInOrder 0 (1000 * (length talk.turns + 1)) all_parts
  in_order_to =
      let n = length talk.turns in
      let reached : AreInOrder 0 (1000 * n) (parts_from 0 (events_of_turns 0 silent empty_desk talk.turns)) = in_order 0 (1000 * n) silent empty_desk talk.turns (omega arith) in
      in_order_with (parts_from 0 (events_of_turns 0 silent empty_desk talk.turns)) 0 (1000 * n) last_part reached (omega arith)
      (late_until (1000 * n) (texts_behind silent talk.turns) (desk_behind silent empty_desk talk.turns) talk.answers at talk.events talk.given)

  pub events_to : all_events all_parts ≡ events_given talk.turns ++ talk.events
  events_to =
      let given = events_of_turns 0 silent empty_desk talk.turns in
      all_events_with (parts_from 0 given) last_part ∙ ap (λ (es : List Timed). es ++ talk.events) (events_are 0 given)

pub live_stops_are_beginnings : LiveStopsAreBeginnings
live_stops_are_beginnings base told port turns at a b talk rec turn =
    let limit = 1000 * (length talk.turns + 1) in
    let parts = parts_from 0 (events_of_turns 0 silent empty_desk talk.turns) in
    subst (λ (r : Record). IsBeginningOf r (record_of (live_script base (events_given talk.turns ++ talk.events) limit))) (sym turn.shown)
    (subst (λ (es : List Timed). IsBeginningOf (record_so_far turn.run) (record_of (live_script base es limit))) (events_to base talk)
    (stopped_parts_are_beginnings base parts (last_part base talk) limit turn.run (in_order_to base talk) turn.part))
