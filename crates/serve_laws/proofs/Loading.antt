-- A turn that a load stopped asks no more of the drum than the run of the script so far.
use Rattle.std.proofs.Common.{◌≡◌, ℕ, ◌+◌, ◌*◌, ◌≤◌, Bool, List, [], ◌∷◌, ◌++◌, length, Ok, refl, sym, ap, subst, ◌∙◌, arith}
use Rattle.std.specs.List.{All}
use Rattle.std.proofs.lemmas.List.Elements.{All-append, All-weaker}
use Rattle.ctss_types.specs.declared.script.Script.{Script}
use Rattle.ctss_types.specs.declared.script.Timed.{Timed}
use Rattle.ctss_types.specs.declared.history.Record.{Record}
use Rattle.ctss_types.specs.declared.history.Entry.{Entry}
use Rattle.time_sharing.specs.Sums.{dumped_in, read_in}
use Rattle.text_model.specs.Reading.{IsInRange}
use Rattle.text_model.proofs.LawfulLaws.{scripts_are_lawful}
use Rattle.script_read.specs.Bases.{base_of}
use Rattle.script_read.proofs.Bases.{bases_are_scripts}
use Rattle.system_model.specs.Record.{record_of}
use Rattle.supervisor.specs.Counts.{calls_to_load}
use Rattle.live_run.specs.Media.{MediaSeen}
use Rattle.live_run.specs.Parts.{Part, all_events, live_script}
use Rattle.live_run.proofs.Sounding.{IsSeated, all_split}
use Rattle.live_run.proofs.Loading.{stopped_part_loads_are_few}
use Rattle.console_link.specs.Links.{LinkSeen}
use Rattle.console_server.specs.Turns.{Desk, TurnAnswers, events_of_turn, desk_after}
use Rattle.console_server.specs.Server.{CutAt, GivenUntil}
use Rattle.console_server.specs.Conversation.{TurnSeen, AreTurns, events_of_turns, desk_behind, texts_behind}
use Rattle.live_serve.specs.Talks.{empty_desk, silent, events_given, IsCutTalk}
use Rattle.live_serve.specs.Live.{parts_from, StopsInTurn}
use Rattle.live_serve.proofs.Stopping.{last_part, in_order_to, events_to}
use Rattle.serve_laws.specs.Laws.{LiveStoppedLoadsAreFew}
use Rattle.serve_laws.proofs.Fine.{IsFine, IsWhole, fine_turn, whole_after}
use Rattle.serve_laws.proofs.Rising.{IsGood, all_good}
use Rattle.serve_laws.proofs.CutVisits.{until, rest_until}

whole : IsWhole empty_desk
whole = record { seats = refl; failed = refl }

whole_behind : (texts : List (List ℕ)) (desk : Desk) (turns : List TurnSeen) → IsWhole desk → AreTurns texts desk turns → IsWhole (desk_behind texts desk turns)
whole_behind texts desk [] w h = w
whole_behind texts desk (t ∷ turns) w h = whole_behind t.shown (desk_after texts desk t.answers) turns (whole_after texts t.shown desk t.answers w h.0) h.1.1

-- the events of turns, and of one that failed, are at consoles

given_seated : (turns : List TurnSeen) → AreTurns silent empty_desk turns → All IsSeated (events_given turns)
given_seated turns lawful =
    let end : 1000 * (0 + length turns) ≤ 1000 * length turns = omega arith in
    All-weaker (IsGood (1000 * length turns)) IsSeated (λ e g. (g.some, g.few)) (events_given turns) (all_good 0 (1000 * length turns) silent empty_desk turns end whole lawful)

until_seated : (tick : ℕ) (texts : List (List ℕ)) (desk : Desk) (turn : TurnAnswers) (at : CutAt) (events : List Timed) → IsWhole desk → GivenUntil tick texts desk turn at events → All IsSeated events
until_seated tick texts desk turn at events w given =
    let rest = rest_until tick texts desk turn at events given in
    let fine : All (IsFine tick) (events ++ rest.0) = subst (All (IsFine tick)) rest.1 (fine_turn tick texts desk (until turn at) w) in
    All-weaker (IsFine tick) IsSeated (λ e f. (f.some, f.few)) events (all_split (IsFine tick) events rest.0 fine).0

pub live_stopped_loads_are_few : LiveStoppedLoadsAreFew
live_stopped_loads_are_few bytes base told port turns at a b read talk was now rec stop =
    let n = length talk.turns in
    let limit = 1000 * (n + 1) in
    let given = events_of_turns 0 silent empty_desk talk.turns in
    let parts = parts_from 0 given in
    let p = last_part base talk in
    let range : IsInRange base = (scripts_are_lawful bytes base (bases_are_scripts bytes base read)).range in
    let events : all_events (parts ++ p ∷ []) ≡ events_given talk.turns ++ talk.events = events_to base talk in
    let until_then : All IsSeated talk.events =
    until_seated (1000 * n) (texts_behind silent talk.turns) (desk_behind silent empty_desk talk.turns) talk.answers at talk.events (whole_behind silent empty_desk talk.turns whole talk.lawful) talk.given in
    let seated : All IsSeated (all_events (parts ++ p ∷ [])) =
    subst (All IsSeated) (sym events) (All-append IsSeated (events_given talk.turns) talk.events (given_seated talk.turns talk.lawful) until_then) in
    let moved : List Entry → ℕ = λ es. dumped_in es + read_in es in
    let few = stopped_part_loads_are_few base parts p limit stop.turn.run range (in_order_to base talk) seated stop.turn.part stop.early stop.load in
    subst (λ (es : List Entry). moved es + calls_to_load stop.load.due.user stop.turn.run ≤ moved (record_of (live_script base (events_given talk.turns ++ talk.events) limit)).entries)
    (sym (ap (λ (r : Record). r.entries) stop.turn.shown))
    (subst (λ (es : List Timed). moved stop.turn.run.system.entries + calls_to_load stop.load.due.user stop.turn.run ≤ moved (record_of (live_script base es limit)).entries) events few)
