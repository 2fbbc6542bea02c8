-- A link lists all calls of a talk.
use Rattle.std.proofs.Common.{◌≡◌, ℕ, ◌+◌, ◌-◌, ◌*◌, ◌≤◌, false, List, [], ◌∷◌, ◌++◌, length, map, Option, Some, None, refl, sym, ap, ◌∙◌, arith, length-append}
use Rattle.std.proofs.lemmas.List.{length-map}
use Rattle.console_link.specs.Links.{LinkSeen, CallList, Done, DidOpen, DidClose, call_of}
use Rattle.console_server.specs.Readings.{DidAll}
use Rattle.console_server.specs.Turns.{Talk, Desk, desk_after}
use Rattle.console_server.specs.Server.{calls_until}
use Rattle.console_server.specs.Conversation.{TurnSeen, calls_of_turns, desk_behind, texts_behind}
use Rattle.serve_laws.proofs.CallLaws.{calls_are_told, desk_length, few_calls_until, few_calls_in_turns}
use Rattle.live_serve.specs.Talks.{empty_desk, silent, closes_of_desk}
use Rattle.serve_laws.specs.Laws.{ListsFew, CallsOfTalksAreTold, CallsOfCutTalksAreTold}

seats_behind : (texts : List (List ℕ)) (desk : Desk) (turns : List TurnSeen) → length desk.seats ≡ 32 → length (desk_behind texts desk turns).seats ≡ 32
seats_behind texts desk [] many = many
seats_behind texts desk (t ∷ turns) many = seats_behind t.shown (desk_after texts desk t.answers) turns (desk_length texts desk t.answers ∙ many)

few_closes : (seats : List (Option Talk)) → length (closes_of_desk seats) ≤ length seats
few_closes [] = omega arith
few_closes (None ∷ seats) = omega (arith, few_closes seats)
few_closes (Some t ∷ seats) = omega (arith, few_closes seats)

-- so few calls are listed
listed : (most : ℕ) (ds : List Done) (a b : LinkSeen) → DidAll ds a b → length ds ≤ most → (list : CallList) → a.calls ≡ Some list → most ≤ list.room → ListsFew most list b
listed most ds a b did few list lists room =
    let long : length (map call_of ds) ≡ length ds = length-map ds call_of in
    let told = calls_are_told ds a b did list lists (omega (arith, few, room)) in
    record {
      made = map call_of ds;
      few = omega (arith, few, long);
      listed = told ∙ ap (λ (n : ℕ). Some (record { made = list.made ++ map call_of ds; room = list.room - n })) (sym long);
    }

pub calls_of_talks_are_told : CallsOfTalksAreTold
calls_of_talks_are_told base told port turns events a b talk list lists room =
    let done = calls_of_turns silent empty_desk talk.turns in
    let closes = closes_of_desk (desk_behind silent empty_desk talk.turns).seats in
    let few : length done ≤ 164000 * length talk.turns = few_calls_in_turns silent empty_desk talk.turns refl talk.lawful in
    let shut : length closes ≤ length (desk_behind silent empty_desk talk.turns).seats = few_closes (desk_behind silent empty_desk talk.turns).seats in
    let seats : length (desk_behind silent empty_desk talk.turns).seats ≡ 32 = seats_behind silent empty_desk talk.turns refl in
    let both : length (done ++ closes) ≡ length done + length closes = length-append done closes in
    let many = talk.many in
    listed (164000 * turns + 100) (DidOpen port false ∷ (done ++ closes)) a b talk.link (omega (arith, few, shut, seats, both, many)) list lists room

pub calls_of_cut_talks_are_told : CallsOfCutTalksAreTold
calls_of_cut_talks_are_told base told port turns at a b talk list lists room =
    let done = calls_of_turns silent empty_desk talk.turns in
    let then = calls_until (texts_behind silent talk.turns) (desk_behind silent empty_desk talk.turns) talk.answers at in
    let closes = map DidClose talk.closed in
    let few : length done ≤ 164000 * length talk.turns = few_calls_in_turns silent empty_desk talk.turns refl talk.lawful in
    let seats : length (desk_behind silent empty_desk talk.turns).seats ≡ 32 = seats_behind silent empty_desk talk.turns refl in
    let more : length then ≤ 164000 = few_calls_until (texts_behind silent talk.turns) (desk_behind silent empty_desk talk.turns) talk.answers at seats talk.heard in
    let shut : length closes ≡ length talk.closed = length-map talk.closed DidClose in
    let first : length (done ++ (then ++ closes)) ≡ length done + length (then ++ closes) = length-append done (then ++ closes) in
    let second : length (then ++ closes) ≡ length then + length closes = length-append then closes in
    let fewer = talk.few in
    let seated = talk.seated in
    listed (164000 * turns + 100) (DidOpen port false ∷ (done ++ (then ++ closes))) a b talk.link (omega (arith, few, more, shut, first, second, fewer, seated)) list lists room
