-- How many calls a turn makes, and that a link which lists them lists all.
use Rattle.std.specs.Prelude.{◌*◌, nat_eq, nat_lt, if◌then◌else◌, drop, map, length, get_or, Bool, true, false, Option, Some, None}
use Rattle.std.proofs.Common.{◌≡◌, ℕ, suc, ◌-◌, ◌≤◌, List, [], ◌∷◌, ◌++◌, refl, sym, ◌∙◌, ap, arith, length-append}
use Rattle.std.proofs.lemmas.Bool.Decides.{nat_tests}
use Rattle.std.proofs.lemmas.List.{append_assoc, append-nil, length-map}
use Rattle.console_link.specs.declared.link.Accepted.TheVariants as accepted
use Rattle.console_link.specs.declared.link.CallMade.{CallMade}
use Rattle.console_link.specs.declared.link.LinkGot.{LinkGot}
use Rattle.console_link.specs.declared.link.LinkGot.TheVariants as got
use Rattle.console_link.specs.declared.link.LinkTook.{LinkTook}
use Rattle.console_link.specs.declared.link.LinkTook.TheVariants as took
use Rattle.console_link.specs.Links.{CallList, Done, DidAccept, DidClose, DidWrite, with_call, call_of}
use Rattle.console_server.specs.Readings.{Gave, did_read, Nothing, Then, MayStop, IsReading, GoesOn, ReadsOn}
use Rattle.console_server.specs.Turns.{Talk, Desk, HeardOf, Told, Wrote, TurnAnswers, MayPut, IsPutting, IsHeard, AreHeard, IsHeardPart, AreHeardUntil, IsToldOf, AreTold, if_over, free_from, put_first, talk_of, seats_with, calls_of_new, calls_accepted, seated, last_accept, calls_heard, all_calls_heard, all_seats_after, calls_told, all_calls_told, all_seats_told, seats_to_read, seats_to_write, calls_of_turn, desk_after}
use Rattle.console_server.specs.Server.{Waiting, Hanging, Accepting, Dialling, Reading, Advancing, calls_to_read}
use Rattle.console_server.specs.Conversation.{calls_of_turns}
use Rattle.console_server.proofs.DeskLaws.{false_is, none_called}
use Rattle.serve_laws.specs.ConsoleLaws.{FewCalls, FewCallsUntil, FewCallsInTurns, CallsAreTold}

-- reads and writes

none_left : {X : Type 0} (xs : List X) → xs ≡ [] → length xs ≡ 0
none_left xs is = ap length is

few_reads : (over : Bool) (reads : List Gave) (left : ℕ) → IsReading over reads left → length reads ≤ left
few_reads over [] left h = omega arith
few_reads over (r ∷ reads) left h = by_answer r.answer (λ n k. few_reads over reads n k) h.1
  where
    by_answer : (answer : LinkGot) → ((n : ℕ) → IsReading over reads n → length reads ≤ n) → MayStop answer left r.bytes (IsReading over reads) (reads ≡ []) over → suc (length reads) ≤ left
    by_answer (got.Bytes n) more m = omega (arith, m.0, m.1, more (left - n) m.3)
    by_answer got.End more m = omega (arith, none_left reads m.2, h.0)
    by_answer got.NotYet more m = omega (arith, none_left reads m.2, h.0)
    by_answer got.Failed more m = omega (arith, none_left reads m.2, h.0)

few_reads_on : (reads : List Gave) (left rest : ℕ) → ReadsOn reads left rest → length reads ≤ left
few_reads_on [] left rest h = omega arith
few_reads_on (r ∷ reads) left rest h = by_answer r.answer (λ n k. few_reads_on reads n rest k) h.1
  where
    by_answer : (answer : LinkGot) → ((n : ℕ) → ReadsOn reads n rest → length reads ≤ n) → GoesOn answer left r.bytes (λ n. ReadsOn reads n rest) → suc (length reads) ≤ left
    by_answer (got.Bytes n) more m = omega (arith, m.0, m.1, more (left - n) m.3)
    by_answer got.End more m = false_is m
    by_answer got.NotYet more m = false_is m
    by_answer got.Failed more m = false_is m

few_puts : (lost : Bool) (puts : List Wrote) (may : ℕ) (rest : List ℕ) → IsPutting lost puts may rest → length puts ≤ may
few_puts lost [] may rest h = omega arith
few_puts lost (p ∷ puts) may rest h = by_answer p.answer (λ n r k. few_puts lost puts n r k) h.1
  where
    by_answer : (answer : LinkTook) → ((n : ℕ) (r : List ℕ) → IsPutting lost puts n r → length puts ≤ n) → MayPut answer may rest p.bytes (IsPutting lost puts) (puts ≡ []) lost → suc (length puts) ≤ may
    by_answer (took.Bytes n) more m = omega (arith, m.0, m.1, more (may - n) (drop n rest) m.3)
    by_answer took.NotYet more m = omega (arith, none_left puts m.2, h.0)
    by_answer took.Failed more m = omega (arith, none_left puts m.2, h.0)

one_close : (over : Bool) (d : Done) → length (if_over over (d ∷ [])) ≤ 1
one_close true d = omega arith
one_close false d = omega arith

few_heard : (s : Option Talk) (reads : List Gave) (over : Bool) → IsHeard s reads over → length (calls_heard s reads over) ≤ 1025
few_heard None reads over h = omega arith
few_heard (Some t) reads over h = omega (arith, length-append (map (did_read t.id) reads) (if_over over (DidClose t.id ∷ [])), length-map reads (did_read t.id), few_reads over reads 1024 h, one_close over (DidClose t.id))

-- a console that was read in part
few_heard_part : (s : Option Talk) (reads : List Gave) (over : Bool) → IsHeardPart s reads over → length (calls_heard s reads over) ≤ 1025
few_heard_part None reads over h = omega arith
few_heard_part (Some t) reads true h = few_heard (Some t) reads true h
few_heard_part (Some t) reads false h = omega (arith, length-append (map (did_read t.id) reads) [], length-map reads (did_read t.id), few_reads_on reads 1024 h.0 h.1)

few_all_heard : (seats : List (Option Talk)) (hs : List HeardOf) → AreHeard seats hs → length (all_calls_heard seats hs) ≤ 1025 * length seats
few_all_heard [] hs h = omega arith
few_all_heard (s ∷ seats) [] h = false_is h
few_all_heard (s ∷ seats) (x ∷ hs) h = omega (arith, length-append (calls_heard s x.reads x.over) (all_calls_heard seats hs), few_heard s x.reads x.over h.0, few_all_heard seats hs h.1)

few_heard_until : (seats : List (Option Talk)) (hs : List HeardOf) → AreHeardUntil seats hs → length (all_calls_heard seats hs) ≤ 1025 * length seats
few_heard_until [] hs h = omega arith
few_heard_until (s ∷ seats) [] h = false_is h
few_heard_until (s ∷ seats) (x ∷ []) h =
    omega (arith, length-append (calls_heard s x.reads x.over) (all_calls_heard seats []), ap length (none_called seats), few_heard_part s x.reads x.over h)
few_heard_until (s ∷ seats) (x ∷ y ∷ hs) h = omega (arith, length-append (calls_heard s x.reads x.over) (all_calls_heard seats (y ∷ hs)), few_heard s x.reads x.over h.0, few_heard_until seats (y ∷ hs) h.1)

abbrev did_put : ℕ → Wrote → Done
did_put id p = DidWrite id p.answer p.bytes

few_told : (text : List ℕ) (s : Option Talk) (puts : List Wrote) (lost : Bool) → IsToldOf text s puts lost → length (calls_told s puts lost) ≤ 4097
few_told text None puts lost h = omega arith
few_told text (Some t) puts lost h = omega (arith, length-append (map (did_put t.id) puts) (if_over lost (DidClose t.id ∷ [])), length-map puts (did_put t.id), few_puts lost puts 4096 (drop t.place text) h, one_close lost (DidClose t.id))

few_all_told : (texts : List (List ℕ)) (place : ℕ) (seats : List (Option Talk)) (ts : List Told) → AreTold texts place seats ts → length (all_calls_told seats ts) ≤ 4097 * length seats
few_all_told texts place [] ts h = omega arith
few_all_told texts place (s ∷ seats) [] h = false_is h
few_all_told texts place (s ∷ seats) (x ∷ ts) h = omega (arith, length-append (calls_told s x.puts x.lost) (all_calls_told seats ts), few_told (get_or texts place []) s x.puts x.lost h.0, few_all_told texts (suc place) seats ts h.1)

-- accepts

one_new : (console : Option ℕ) (id : ℕ) → length (calls_of_new console id) ≤ 1
one_new None id = omega arith
one_new (Some n) id = omega arith

few_accepts : (texts : List (List ℕ)) (seats : List (Option Talk)) (ids : List ℕ) → length (calls_accepted texts seats ids) ≤ 2 * length ids
few_accepts texts seats [] = omega arith
few_accepts texts seats (id ∷ ids) = omega (arith, length-append (calls_of_new (free_from 1 seats) id) (calls_accepted texts (seats_with texts id seats) ids), one_new (free_from 1 seats) id, few_accepts texts (seats_with texts id seats) ids)

one_last : (ids : List ℕ) → length (last_accept ids) ≤ 1
one_last ids = by_test (nat_lt (length ids) 32)
  where
    by_test : (t : Bool) → length (if t then DidAccept accepted.NotYet ∷ [] else []) ≤ 1
    by_test true = omega arith
    by_test false = omega arith

put_length : (t : Talk) (seats : List (Option Talk)) → length (put_first t seats) ≡ length seats
put_length t [] = refl
put_length t (None ∷ seats) = refl
put_length t (Some u ∷ seats) = ap suc (put_length t seats)

pub seated_length : (texts : List (List ℕ)) (seats : List (Option Talk)) (ids : List ℕ) → length (seated texts seats ids) ≡ length seats
seated_length texts seats [] = refl
seated_length texts seats (id ∷ ids) = seated_length texts (seats_with texts id seats) ids ∙ put_length (talk_of texts (free_from 1 seats) id) seats

pub after_length : (seats : List (Option Talk)) (hs : List HeardOf) → length (all_seats_after seats hs) ≡ length seats
after_length [] hs = refl
after_length (s ∷ seats) [] = refl
after_length (s ∷ seats) (h ∷ hs) = ap suc (after_length seats hs)

told_length : (seats : List (Option Talk)) (ts : List Told) → length (all_seats_told seats ts) ≡ length seats
told_length [] ts = refl
told_length (s ∷ seats) [] = refl
told_length (s ∷ seats) (t ∷ ts) = ap suc (told_length seats ts)

pub few_calls : FewCalls
few_calls texts shown desk turn many is =
    let first = seats_to_read texts desk turn in
    let second = seats_to_write texts desk turn in
    let ns = calls_accepted texts desk.seats turn.accepts in
    let ls = last_accept turn.accepts in
    let hs = all_calls_heard first turn.heard in
    let ts = all_calls_told second turn.told in
    let one : length first ≡ length desk.seats = seated_length texts desk.seats turn.accepts in
    let two : length second ≡ length first = after_length first turn.heard in
    omega (arith, length-append ns (ls ++ (hs ++ ts)), length-append ls (hs ++ ts), length-append hs ts, few_accepts texts desk.seats turn.accepts, one_last turn.accepts, few_all_heard first turn.heard is.heard, few_all_told shown 0 second turn.told is.told, is.accepts)

-- a turn that failed

few_to_read : (texts : List (List ℕ)) (desk : Desk) (turn : TurnAnswers) → length desk.seats ≡ 32 → length turn.accepts ≤ 32 →
    length (all_calls_heard (seats_to_read texts desk turn) turn.heard) ≤ 1025 * length (seats_to_read texts desk turn) → length (calls_to_read texts desk turn) ≤ 164000
few_to_read texts desk turn many few heard =
    let ns = calls_accepted texts desk.seats turn.accepts in
    let ls = last_accept turn.accepts in
    let hs = all_calls_heard (seats_to_read texts desk turn) turn.heard in
    omega (arith, length-append ns (ls ++ hs), length-append ls hs, few_accepts texts desk.seats turn.accepts, one_last turn.accepts, seated_length texts desk.seats turn.accepts, heard, few, many)

pub few_calls_until : FewCallsUntil
few_calls_until texts desk turn Waiting many is = omega arith
few_calls_until texts desk turn Hanging many is = omega arith
few_calls_until texts desk turn Accepting many is =
    omega (arith, length-append (calls_accepted texts desk.seats turn.accepts) (DidAccept accepted.Failed ∷ []), few_accepts texts desk.seats turn.accepts, is)
few_calls_until texts desk turn Dialling many is = omega (arith, few_accepts texts desk.seats turn.accepts, is)
few_calls_until texts desk turn Reading many is = few_to_read texts desk turn many is.0 (few_heard_until (seats_to_read texts desk turn) turn.heard is.1)
few_calls_until texts desk turn Advancing many is = few_to_read texts desk turn many is.0 (few_all_heard (seats_to_read texts desk turn) turn.heard is.1)

-- turns one after another

pub desk_length : (texts : List (List ℕ)) (desk : Desk) (turn : TurnAnswers) → length (desk_after texts desk turn).seats ≡ length desk.seats
desk_length texts desk turn =
    told_length (seats_to_write texts desk turn) turn.told ∙ after_length (seats_to_read texts desk turn) turn.heard ∙ seated_length texts desk.seats turn.accepts

pub few_calls_in_turns : FewCallsInTurns
few_calls_in_turns texts desk [] many are = omega arith
few_calls_in_turns texts desk (t ∷ turns) many are =
    let next = desk_after texts desk t.answers in
    let here = calls_of_turn texts desk t.answers in
    omega (
      arith,
      length-append here (calls_of_turns t.shown next turns),
      few_calls texts t.shown desk t.answers many are.0,
      few_calls_in_turns t.shown next turns (desk_length texts desk t.answers ∙ many) are.1.1,
    )

-- the list of calls

abbrev with_more : CallList → CallMade → CallList
with_more list call = record { made = list.made ++ call ∷ []; room = list.room - 1 }

told_one : (list : CallList) (call : CallMade) → 1 ≤ list.room → with_call (Some list) call ≡ Some (with_more list call)
told_one list call le = by_test (nat_eq list.room 0) (not_none list.room le)
  where
    not_none : (n : ℕ) → 1 ≤ n → nat_eq n 0 ≡ false
    not_none n h = grind (arith, nat_tests)

    by_test : (t : Bool) → t ≡ false → (if t then None else Some (with_more list call)) ≡ Some (with_more list call)
    by_test true is = false_is is
    by_test false is = refl

pub calls_are_told : CallsAreTold
calls_are_told [] a b (Nothing _) list is le = is ∙ (λ i. Some (record { made = sym (append-nil list.made) i; room = none list.room i }))
  where
    none : (n : ℕ) → n ≡ n - 0
    none n = omega arith
calls_are_told (d ∷ ds) a b (Then _ _ _ m _ did rest) list is le =
    let here : m.calls ≡ Some (with_more list (call_of d)) = did.calls ∙ ap (λ (l : Option CallList). with_call l (call_of d)) is ∙ told_one list (call_of d) (omega (arith, le)) in
    let left : list.room - 1 - length ds ≡ list.room - suc (length ds) = omega (arith, le) in
    calls_are_told ds m b rest (with_more list (call_of d)) here (omega (arith, le))
    ∙ (λ i. Some (record { made = append_assoc list.made (call_of d ∷ []) (map call_of ds) i; room = left i }))
