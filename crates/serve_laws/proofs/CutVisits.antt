-- The visits of turns and of one that failed.
use Rattle.std.specs.Prelude.{Bool, true, false, length, take, drop, get_or, Some, None}
use Rattle.std.specs.List.{All, Contains, list_any}
use Rattle.std.proofs.Common.{◌≡◌, ℕ, zero, suc, ◌-◌, ◌*◌, ◌≤◌, List, [], ◌∷◌, ◌++◌, refl, sym, ◌∙◌, ap, subst}
use Rattle.std.proofs.lemmas.List.{append_assoc, append-nil, take-append-drop, take_at, drop_at}
use Rattle.ctss_types.specs.declared.script.Event.{Event}
use Rattle.ctss_types.specs.declared.script.Timed.{Timed}
use Rattle.console_link.specs.declared.link.Accepted.TheVariants as accepted
use Rattle.console_link.specs.Links.{LinkSeen, Passed, Done, DidAccept, DidWait}
use Rattle.live_core.specs.Core.{Grows}
use Rattle.console_server.specs.Readings.{DidAll}
use Rattle.console_server.specs.Turns.{Talk, desk_after, Desk, HeardOf, TurnAnswers, end_of, hangs, dials, seated, calls_accepted, last_accept, all_calls_heard, all_events_heard, seats_to_write, events_of_turn}
use Rattle.console_server.specs.History.{events_in}
use Rattle.console_server.specs.Server.{CutAt, Waiting, Hanging, Accepting, Dialling, Reading, Advancing, calls_until, IsTurnUntil, GivenUntil}
use Rattle.console_server.specs.Conversation.{TurnSeen, calls_of_turns, events_of_turns, desk_behind, texts_behind}
use Rattle.console_server.specs.Visits.{Visit, events_at, ends_it, IsSentFrom, EndsAreHeard}
use Rattle.console_server.proofs.DeskLaws.{none_called}
use Rattle.console_server.proofs.HistoryLaws.{texts_end}
use Rattle.serve_laws.specs.VisitLaws.{accepted_in, calls_each, accepted_each, accepted_until, CutEventsAreVisits}
use Rattle.serve_laws.proofs.Watching.{Watch, none_heard, watched, all_watched, IsNow, Watched}
use Rattle.serve_laws.proofs.AtConsole.{at_both}
use Rattle.serve_laws.proofs.VisitSteps.{turn_read}
use Rattle.serve_laws.proofs.Passing.{passed_all, tells_still, tells_same, did_split}
use Rattle.serve_laws.proofs.KeptSteps.{Kept, accept_quiet, kept_read}
use Rattle.serve_laws.proofs.OpenSteps.{AreOpen, open_same, wait_open, accepts_open}
use Rattle.serve_laws.proofs.HungSteps.{AnswersEnd, all_answer, until_answer, none_answer, last_none, before_reads, seat_ends, Ends, ends_of, since_read, since_turns}
use Rattle.serve_laws.proofs.EndSteps.{AnyVisit, HasEnded, any_back, EndsRead, none_heard_end, all_heard_end, until_heard_end, any_watched, none_ended, ended_read, ended_turns}
use Rattle.serve_laws.proofs.Visiting.{Came, came_still, all_came, heard_turns, kept_turns, grows_none, nothing_watched, nothing_kept, nothing_at, visits_of, all_heard, all_in_order, all_places, all_taken, all_sent, all_ended, all_since, none_open, none_since}

-- what the link answered until then

abbrev heard_until : TurnAnswers → CutAt → List HeardOf
heard_until turn Waiting = []
heard_until turn Hanging = []
heard_until turn Accepting = []
heard_until turn Dialling = []
heard_until turn Reading = turn.heard
heard_until turn Advancing = turn.heard

abbrev pub until : TurnAnswers → CutAt → TurnAnswers
until turn at = record { accepts = accepted_until turn at; heard = heard_until turn at; told = [] }

-- the calls until then, which are those of a turn up to its reads but for the wait and the last accept

abbrev first_call : CutAt → Done
first_call Waiting = DidWait 10 true
first_call Hanging = DidWait 10 false
first_call Accepting = DidWait 10 false
first_call Dialling = DidWait 10 false
first_call Reading = DidWait 10 false
first_call Advancing = DidWait 10 false

abbrev last_call : TurnAnswers → CutAt → List Done
last_call turn Waiting = []
last_call turn Hanging = []
last_call turn Accepting = DidAccept accepted.Failed ∷ []
last_call turn Dialling = []
last_call turn Reading = last_accept turn.accepts
last_call turn Advancing = last_accept turn.accepts

calls_are : (texts : List (List ℕ)) (desk : Desk) (turn : TurnAnswers) (at : CutAt) →
    calls_until texts desk turn at ≡ first_call at ∷ (calls_accepted texts desk.seats (accepted_until turn at) ++ (last_call turn at ++ all_calls_heard (seated texts desk.seats (accepted_until turn at)) (heard_until turn at)))
calls_are texts desk turn Waiting = ap (λ (ds : List Done). DidWait 10 true ∷ ds) (sym (none_called desk.seats))
calls_are texts desk turn Hanging = ap (λ (ds : List Done). DidWait 10 false ∷ ds) (sym (none_called desk.seats))
calls_are texts desk turn Accepting =
    ap (λ (ds : List Done). DidWait 10 false ∷ (calls_accepted texts desk.seats turn.accepts ++ DidAccept accepted.Failed ∷ ds)) (sym (none_called (seated texts desk.seats turn.accepts)))
calls_are texts desk turn Dialling =
    let news = calls_accepted texts desk.seats turn.accepts in
    ap (λ (ds : List Done). DidWait 10 false ∷ ds) (sym (append-nil news) ∙ ap (λ (ds : List Done). news ++ ds) (sym (none_called (seated texts desk.seats turn.accepts))))
calls_are texts desk turn Reading = refl
calls_are texts desk turn Advancing = refl

first_quiet : (at : CutAt) (k : ℕ) (p : Passed) → passed_all (first_call at ∷ []) k p ≡ p
first_quiet Waiting k p = refl
first_quiet Hanging k p = refl
first_quiet Accepting k p = refl
first_quiet Dialling k p = refl
first_quiet Reading k p = refl
first_quiet Advancing k p = refl

last_quiet : (turn : TurnAnswers) (at : CutAt) (k : ℕ) (p : Passed) → passed_all (last_call turn at) k p ≡ p
last_quiet turn Waiting k p = refl
last_quiet turn Hanging k p = refl
last_quiet turn Accepting k p = refl
last_quiet turn Dialling k p = refl
last_quiet turn Reading k p = accept_quiet turn.accepts k p
last_quiet turn Advancing k p = accept_quiet turn.accepts k p

module _ (console : ℕ) (whole : List ℕ) (one : 1 ≤ console) (n : ℕ) (texts : List (List ℕ)) (grows : Grows (get_or texts (console - 1) []) whole) where
  kept_until : (desk : Desk) (turn : TurnAnswers) (at : CutAt) (a b : LinkSeen) (w : Watch) → a.tells ≡ true → DidAll (calls_until texts desk turn at) a b →
      IsNow (get_or desk.seats (console - 1) None) (get_or desk.failed (console - 1) false) w.now → Kept console whole a desk.seats w →
      Kept console whole b (seats_to_write texts desk (until turn at)) (watched console n texts desk (until turn at) w)
  kept_until desk turn at a b w tells did now h =
      kept_read console whole one n texts grows desk (until turn at) (first_call at ∷ []) (last_call turn at) a b w (first_quiet at) (last_quiet turn at) tells
      (subst (λ (ds : List Done). DidAll ds a b) (calls_are texts desk turn at) did) now h

-- a console that was read to its connection's end
ends_until : (i : ℕ) (texts : List (List ℕ)) (desk : Desk) (turn : TurnAnswers) (at : CutAt) → IsTurnUntil texts desk turn at →
    EndsRead (get_or (seated texts desk.seats (accepted_until turn at)) i None) (get_or (heard_until turn at) i none_heard).reads (get_or (heard_until turn at) i none_heard).over
ends_until i texts desk turn Waiting is = none_heard_end i (seated texts desk.seats [])
ends_until i texts desk turn Hanging is = none_heard_end i (seated texts desk.seats [])
ends_until i texts desk turn Accepting is = none_heard_end i (seated texts desk.seats turn.accepts)
ends_until i texts desk turn Dialling is = none_heard_end i (seated texts desk.seats turn.accepts)
ends_until i texts desk turn Reading is = until_heard_end i (seated texts desk.seats turn.accepts) turn.heard is.1
ends_until i texts desk turn Advancing is = all_heard_end i (seated texts desk.seats turn.accepts) turn.heard is.1

-- the calls of the reads are among those until then
within_until : (texts : List (List ℕ)) (desk : Desk) (turn : TurnAnswers) (at : CutAt) (p : Done → Bool) → list_any p (all_calls_heard (seated texts desk.seats (accepted_until turn at)) (heard_until turn at)) ≡ true →
    list_any p (calls_until texts desk turn at) ≡ true
within_until texts desk turn at p k =
    let news = calls_accepted texts desk.seats (accepted_until turn at) in
    let last = last_call turn at in
    let heard = all_calls_heard (seated texts desk.seats (accepted_until turn at)) (heard_until turn at) in
    subst (λ (ds : List Done). list_any p ds ≡ true) (sym (calls_are texts desk turn at))
    (any_back p (first_call at ∷ []) (news ++ (last ++ heard)) (any_back p news (last ++ heard) (any_back p last heard k)))

-- the calls until then that were answered by a connection's end

answers_until : (i : ℕ) (texts : List (List ℕ)) (desk : Desk) (turn : TurnAnswers) (at : CutAt) → IsTurnUntil texts desk turn at →
    AnswersEnd (get_or (seated texts desk.seats (accepted_until turn at)) i None) (get_or (heard_until turn at) i none_heard).reads (get_or (heard_until turn at) i none_heard).over
answers_until i texts desk turn Waiting is = none_answer i (seated texts desk.seats [])
answers_until i texts desk turn Hanging is = none_answer i (seated texts desk.seats [])
answers_until i texts desk turn Accepting is = none_answer i (seated texts desk.seats turn.accepts)
answers_until i texts desk turn Dialling is = none_answer i (seated texts desk.seats turn.accepts)
answers_until i texts desk turn Reading is = until_answer i (seated texts desk.seats turn.accepts) turn.heard is.1
answers_until i texts desk turn Advancing is = all_answer i (seated texts desk.seats turn.accepts) turn.heard is.1

first_none : (k : ℕ) (at : CutAt) → list_any (ends_it k) (first_call at ∷ []) ≡ false
first_none k Waiting = refl
first_none k Hanging = refl
first_none k Accepting = refl
first_none k Dialling = refl
first_none k Reading = refl
first_none k Advancing = refl

last_call_none : (k : ℕ) (turn : TurnAnswers) (at : CutAt) → list_any (ends_it k) (last_call turn at) ≡ false
last_call_none k turn Waiting = refl
last_call_none k turn Hanging = refl
last_call_none k turn Accepting = refl
last_call_none k turn Dialling = refl
last_call_none k turn Reading = last_none k turn.accepts
last_call_none k turn Advancing = last_none k turn.accepts

first_open : (at : CutAt) (a b : LinkSeen) → DidAll (first_call at ∷ []) a b → (k : ℕ) → b.is_open k ≡ a.is_open k
first_open Waiting a b did = wait_open true a b did
first_open Hanging a b did = wait_open false a b did
first_open Accepting a b did = wait_open false a b did
first_open Dialling a b did = wait_open false a b did
first_open Reading a b did = wait_open false a b did
first_open Advancing a b did = wait_open false a b did

ends_until_of : (i : ℕ) (texts : List (List ℕ)) (desk : Desk) (turn : TurnAnswers) (at : CutAt) (a c : LinkSeen) → DidAll (calls_until texts desk turn at) a c → AreOpen a.is_open desk.seats → IsTurnUntil texts desk turn at →
    (t : Talk) → get_or (seated texts desk.seats (accepted_until turn at)) i None ≡ Some t → list_any (ends_it t.id) (calls_until texts desk turn at) ≡ (get_or (heard_until turn at) i none_heard).over
ends_until_of i texts desk turn at a c did opens lawful t is =
    let news = calls_accepted texts desk.seats (accepted_until turn at) in
    let last = last_call turn at in
    let seats = seated texts desk.seats (accepted_until turn at) in
    let heard = all_calls_heard seats (heard_until turn at) in
    let parts = did_split (first_call at ∷ []) (news ++ (last ++ heard)) a c (subst (λ (ds : List Done). DidAll ds a c) (calls_are texts desk turn at) did) in
    let taken = did_split news (last ++ heard) parts.0 c parts.2 in
    let open_then : AreOpen (taken.0).is_open seats =
    accepts_open texts desk.seats (accepted_until turn at) parts.0 taken.0 taken.1 (open_same a parts.0 desk.seats (first_open at a parts.0 parts.1) opens) in
    ap (list_any (ends_it t.id)) (calls_are texts desk turn at)
    ∙ before_reads t.id texts desk.seats (accepted_until turn at) (first_call at ∷ []) last heard (first_none t.id at) (last_call_none t.id turn at)
    ∙ seat_ends (taken.0).is_open i seats (heard_until turn at) open_then (answers_until i texts desk turn at lawful) t is

-- the events that were given until then, and the rest of what came

abbrev IfAdvancing : CutAt → Type 0 → Type 0
IfAdvancing Waiting P = Unit {0}
IfAdvancing Hanging P = Unit {0}
IfAdvancing Accepting P = Unit {0}
IfAdvancing Dialling P = Unit {0}
IfAdvancing Reading P = Unit {0}
IfAdvancing Advancing P = P

begins_rest : (n : ℕ) (events xs ys : List Timed) → events ≡ take n xs → xs ++ ys ≡ events ++ (drop n xs ++ ys)
begins_rest n events xs ys is =
    ap (λ (l : List Timed). l ++ ys) (sym (take-append-drop n xs)) ∙ append_assoc (take n xs) (drop n xs) ys ∙ ap (λ (l : List Timed). l ++ (drop n xs ++ ys)) (sym is)

pub rest_until : (tick : ℕ) (texts : List (List ℕ)) (desk : Desk) (turn : TurnAnswers) (at : CutAt) (events : List Timed) → GivenUntil tick texts desk turn at events →
    (rest : List Timed) × (events_of_turn tick texts desk (until turn at) ≡ events ++ rest) × IfAdvancing at (rest ≡ [])
rest_until tick texts desk turn Waiting events h =
    let all = events_of_turn tick texts desk (until turn Waiting) in (all, sym (ap (λ (l : List Timed). l ++ all) h), tt)
rest_until tick texts desk turn Hanging events h =
    let es = hangs tick 1 desk.failed in
    let rest = dials tick texts desk.seats [] ++ all_events_heard tick 1 (seated texts desk.seats []) [] in
    (drop (length events) es ++ rest, begins_rest (length events) events es rest h, tt)
rest_until tick texts desk turn Accepting events h =
    let es = hangs tick 1 desk.failed in
    let fs = dials tick texts desk.seats turn.accepts in
    let gs = all_events_heard tick 1 (seated texts desk.seats turn.accepts) [] in
    (gs, sym (append_assoc es fs gs) ∙ ap (λ (l : List Timed). l ++ gs) (sym h), tt)
rest_until tick texts desk turn Dialling events h =
    let es = hangs tick 1 desk.failed in
    let fs = dials tick texts desk.seats turn.accepts in
    let gs = all_events_heard tick 1 (seated texts desk.seats turn.accepts) [] in
    (drop (length events) (es ++ fs) ++ gs, sym (append_assoc es fs gs) ∙ begins_rest (length events) events (es ++ fs) gs h, tt)
rest_until tick texts desk turn Reading events h =
    let all = events_of_turn tick texts desk turn in
    (drop (length events) all, sym (take-append-drop (length events) all) ∙ ap (λ (l : List Timed). l ++ drop (length events) all) (sym h), tt)
rest_until tick texts desk turn Advancing events h = ([], sym h ∙ sym (append-nil events), refl)

-- a turn behind others in which nothing was shown

abbrev no_turns : List TurnSeen
no_turns = []

take_none : (k : ℕ) → take k no_turns ≡ no_turns
take_none zero = refl
take_none (suc k) = refl

texts_taken : (k : ℕ) (texts : List (List ℕ)) (turns : List TurnSeen) (t : TurnSeen) → t.shown ≡ texts_behind texts turns → texts_behind texts (take k (turns ++ t ∷ [])) ≡ texts_behind texts (take k turns)
texts_taken zero texts turns t is = refl
texts_taken (suc k) texts [] t is = ap (texts_behind t.shown) (take_none k) ∙ is
texts_taken (suc k) texts (u ∷ turns) t is = texts_taken k u.shown turns t is

accepted_last : (k : ℕ) (turns : List TurnSeen) (t : TurnSeen) → accepted_in k (turns ++ t ∷ []) ≡ get_or (accepted_each turns ++ t.answers.accepts ∷ []) k []
accepted_last zero [] t = refl
accepted_last (suc k) [] t = refl
accepted_last zero (u ∷ turns) t = refl
accepted_last (suc k) (u ∷ turns) t = accepted_last k turns t

long_each : (texts : List (List ℕ)) (desk : Desk) (turns : List TurnSeen) → length (calls_each texts desk turns) ≡ length turns
long_each texts desk [] = refl
long_each texts desk (t ∷ turns) = ap suc (long_each t.shown (desk_after texts desk t.answers) turns)

pub cut_events_are_visits : CutEventsAreVisits
cut_events_are_visits console texts desk turns answers at events a c one free unlost lawful did given =
    let i = console - 1 in
    let n = length turns in
    let here = texts_behind texts turns in
    let left = desk_behind texts desk turns in
    let cut = until answers at in
    let last : TurnSeen = record { answers = cut; shown = here } in
    let all = turns ++ last ∷ [] in
    let ends : texts_behind texts all ≡ here = texts_end texts turns last in
    let whole = get_or (texts_behind texts all) i [] in
    let grows : Grows (get_or here i []) whole = subst (λ (l : List (List ℕ)). Grows (get_or here i []) (get_or l i [])) (sym ends) (grows_none (get_or here i [])) in
    let P = Came console one texts all in
    let start : Watched P (get_or desk.seats i None) (get_or desk.failed i false) [] nothing_watched = nothing_at P i desk free unlost in
    let before = events_in (events_of_turns 0 texts desk turns) in
    let w = all_watched console 0 texts desk turns nothing_watched in
    let h : Watched P (get_or left.seats i None) (get_or left.failed i false) (events_at console before) w =
    heard_turns console one texts all 0 texts desk turns (last ∷ []) [] nothing_watched refl refl lawful start in
    let behind : last ∷ [] ≡ drop n all = sym (drop_at turns (last ∷ []) n refl) in
    let there : here ≡ texts_behind texts (take n all) = ap (texts_behind texts) (sym (take_at turns (last ∷ []) n refl)) in
    let full = events_of_turn (1000 * n) here left cut in
    let heard = events_at console before ++ events_at console full in
    let seats = seats_to_write here left cut in
    let end = watched console n here left cut w in
    let read : Watched P (get_or seats i None) false heard end =
    turn_read console P (came_still console one texts all) one n here (1000 * n) left cut (events_at console before) w (all_came console one texts all n here last [] behind there) h in
    let over : IsTurnUntil here left answers at → All (HasEnded (calls_of_turns texts desk turns ++ calls_until here left answers at)) end.past = λ lawful_until.
    ended_read console one n here left cut (calls_of_turns texts desk turns) (calls_until here left answers at) (events_at console before) w (ends_until i here left answers at lawful_until) (within_until here left answers at)
    (any_watched P (get_or left.seats i None) (get_or left.failed i false) (events_at console before) w h)
    (ended_turns console one 0 texts desk turns [] [] nothing_watched lawful (any_watched P (get_or desk.seats i None) (get_or desk.failed i false) [] nothing_watched start) (none_ended (get_or desk.failed i false))) in
    let parts = did_split (calls_of_turns texts desk turns) (calls_until here left answers at) a c did in
    let since : Ends (calls_each texts desk turns) (get_or left.failed i false) w × AreOpen (parts.0).is_open left.seats =
    since_turns console one 0 texts desk turns [] [] nothing_watched a parts.0 refl lawful parts.1 (subst (AreOpen a.is_open) (sym free) (none_open a.is_open 32)) (nothing_at AnyVisit i desk free unlost)
    (none_since (get_or desk.failed i false)) in
    let heard_ends : IsTurnUntil here left answers at → EndsAreHeard (calls_each texts desk turns ++ calls_until here left answers at ∷ []) (visits_of end) = λ lawful_until.
    all_since P (calls_each texts desk turns ++ calls_until here left answers at ∷ []) (get_or seats i None) false heard end read
    (ends_of (calls_each texts desk turns) (calls_until here left answers at) false end
    (since_read console one n here left cut (calls_each texts desk turns) (calls_until here left answers at) (events_at console before) w (long_each texts desk turns)
    (ends_until_of i here left answers at parts.0 c parts.2 since.1 lawful_until)
    (any_watched P (get_or left.seats i None) (get_or left.failed i false) (events_at console before) w h) since.0)) in
    let rest = rest_until (1000 * n) here left answers at events given in
    let places = all_places P (get_or seats i None) false heard end read in
    let kept : c.tells ≡ true → Kept console whole c seats end = λ tells.
    let told : a.tells ≡ true = sym (tells_same (calls_of_turns texts desk turns ++ calls_until here left answers at) a c did) ∙ tells in
    let kept_before : Kept console whole parts.0 left.seats w =
    kept_turns console one texts all 0 texts desk turns (last ∷ []) a parts.0 [] nothing_watched refl refl lawful (sym ends) told parts.1 start (nothing_kept console whole a desk free) in
    kept_until console whole one n here grows left answers at parts.0 c w (tells_still (calls_of_turns texts desk turns) a parts.0 told parts.1) parts.2 h.now kept_before in (
      visits_of end,
      events_at console rest.0,
      record {
        heard = ap (λ (l : List Event). l ++ events_at console rest.0) (at_both console before events)
            ∙ append_assoc (events_at console before) (events_at console events) (events_at console rest.0)
            ∙ ap (λ (l : List Event). events_at console before ++ l) (sym (at_both console events rest.0) ∙ ap (events_at console) (sym rest.1))
            ∙ all_heard P (get_or seats i None) false heard end read;
        order = all_in_order P (get_or seats i None) false heard end read;
        places = λ k d lt. (places k d lt).place ∙ ap (λ (l : List (List ℕ)). end_of l (Some console)) (texts_taken (get_or (visits_of end) k d).turn texts turns last refl);
        taken = λ tells. all_taken console whole c seats end (kept tells);
        sent = λ tells. subst (λ (l : List (List ℕ)). All (λ (v : Visit). IsSentFrom v.place (get_or l i []) (c.passed v.id).sent) (visits_of end)) ends (all_sent console whole c seats end (kept tells));
      },
      λ k d lt. subst (λ (l : List ℕ). Contains l (get_or (visits_of end) k d).id) (accepted_last (get_or (visits_of end) k d).turn turns last) (places k d lt).number,
      λ lawful_until. all_ended P (calls_of_turns texts desk turns ++ calls_until here left answers at) (get_or seats i None) false heard end read (over lawful_until),
      heard_ends,
      λ is. ap (events_at console) (subst (λ (x : CutAt). IfAdvancing x (rest.0 ≡ [])) is rest.2),
    )
