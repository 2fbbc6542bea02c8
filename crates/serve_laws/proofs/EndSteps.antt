-- Of a console's connections whose end the core heard, a call was answered by that end.
use Rattle.std.specs.Prelude.{Bool, true, false, ◌&&◌, ◌||◌, nat_eq, if◌then◌else◌, map, drop, get_or, Option, Some, None}
use Rattle.std.specs.List.{All, list_any}
use Rattle.std.proofs.Common.{◌≡◌, ℕ, zero, suc, ◌+◌, ◌-◌, ◌*◌, ◌≤◌, List, [], ◌∷◌, ◌++◌, refl, sym, ◌∙◌, ap, subst, arith}
use Rattle.std.proofs.lemmas.List.{append_assoc}
use Rattle.std.proofs.lemmas.List.Elements.{All-append, All-cons, All-nil}
use Rattle.std.proofs.lemmas.List.Folds.{list_any-append}
use Rattle.ctss_types.specs.declared.script.Event.{Event}
use Rattle.console_link.specs.declared.link.LinkGot.{LinkGot}
use Rattle.console_link.specs.declared.link.LinkGot.TheVariants as got
use Rattle.console_link.specs.declared.link.LinkTook.{LinkTook}
use Rattle.console_link.specs.declared.link.LinkTook.TheVariants as took
use Rattle.console_link.specs.Links.{Done, DidClose, DidWait}
use Rattle.console_server.specs.Readings.{Gave, bytes_of, did_read, MayStop, IsReading}
use Rattle.console_server.specs.Turns.{Talk, Desk, HeardOf, Told, Wrote, TurnAnswers, MayPut, IsPutting, IsHeard, AreHeard, IsHeardPart, AreHeardUntil, IsToldOf, IsTurn, calls_heard, all_calls_heard, calls_told, all_calls_told, calls_accepted, last_accept, free_from, seats_with, seats_to_read, seats_to_write, calls_of_turn, events_of_turn, desk_after}
use Rattle.console_server.specs.Writings.{did_write}
use Rattle.console_server.specs.Conversation.{TurnSeen, AreTurns, calls_of_turns, desk_behind}
use Rattle.console_server.specs.Visits.{Visit, events_at, ends_reading, ends_writing, ends_it}
use Rattle.console_server.proofs.DeskLaws.{false_is}
use Rattle.serve_laws.proofs.Watching.{Watch, hung, ended, ended_if, new_visit, come, all_come, with_bytes, read, none_heard, none_told, heard_at, watched, all_watched, IsNow, OnNow, Watched}
use Rattle.serve_laws.proofs.AtConsole.{same, told_lawful, lost_at}
use Rattle.serve_laws.proofs.VisitSteps.{turn_come, turn_read, turn_step}

-- one of these calls was answered by its end or by a fault
abbrev pub HasEnded : List Done → Visit → Type 0
HasEnded calls v = list_any (ends_it v.id) calls ≡ true

or_right : (s t : Bool) → t ≡ true → (s || t) ≡ true
or_right true t h = refl
or_right false t h = h

any_front : (p : Done → Bool) (xs ys : List Done) → list_any p xs ≡ true → list_any p (xs ++ ys) ≡ true
any_front p xs ys h = list_any-append p xs ys ∙ ap (λ (t : Bool). t || list_any p ys) h

pub any_back : (p : Done → Bool) (xs ys : List Done) → list_any p ys ≡ true → list_any p (xs ++ ys) ≡ true
any_back p xs ys h = list_any-append p xs ys ∙ or_right (list_any p xs) (list_any p ys) h

all_more : (calls more : List Done) (visits : List Visit) → All (HasEnded calls) visits → All (HasEnded (calls ++ more)) visits
all_more calls more visits h = λ k d lt. any_front (ends_it (get_or visits k d).id) calls more (h k d lt)

all_last : (calls : List Done) (visits : List Visit) (v : Visit) → All (HasEnded calls) visits → HasEnded calls v → All (HasEnded calls) (visits ++ hung v ∷ [])
all_last calls visits v all h = All-append (HasEnded calls) visits (hung v ∷ []) all (All-cons (HasEnded calls) (hung v) [] h (All-nil (HasEnded calls)))

-- reads and writes

read_ends : (id : ℕ) (reads : List Gave) (left : ℕ) → IsReading true reads left → list_any (ends_it id) (map (did_read id) reads) ≡ true
read_ends id [] left h = false_is h.1
read_ends id (r ∷ reads) left h = by_answer r.answer (λ n k. read_ends id reads n k) h.1
  where
    rest : Bool
    rest = list_any (ends_it id) (map (did_read id) reads)

    by_answer : (answer : LinkGot) → ((n : ℕ) → IsReading true reads n → rest ≡ true) → MayStop answer left r.bytes (IsReading true reads) (reads ≡ []) true → ((nat_eq id id && ends_reading answer) || rest) ≡ true
    by_answer (got.Bytes n) more m = or_right (nat_eq id id && false) rest (more (left - n) m.3)
    by_answer got.End more m = ap (λ (t : Bool). (t && true) || rest) (same id)
    by_answer got.NotYet more m = false_is m.1
    by_answer got.Failed more m = ap (λ (t : Bool). (t && true) || rest) (same id)

put_ends : (id : ℕ) (puts : List Wrote) (may : ℕ) (text : List ℕ) → IsPutting true puts may text → list_any (ends_it id) (map (did_write id) puts) ≡ true
put_ends id [] may text h = false_is h.1
put_ends id (p ∷ puts) may text h = by_answer p.answer (λ n l k. put_ends id puts n l k) h.1
  where
    rest : Bool
    rest = list_any (ends_it id) (map (did_write id) puts)

    by_answer : (answer : LinkTook) → ((n : ℕ) (l : List ℕ) → IsPutting true puts n l → rest ≡ true) → MayPut answer may text p.bytes (IsPutting true puts) (puts ≡ []) true → ((nat_eq id id && ends_writing answer) || rest) ≡ true
    by_answer (took.Bytes n) more m = or_right (nat_eq id id && false) rest (more (may - n) (drop n text) m.3)
    by_answer took.NotYet more m = false_is m.1
    by_answer took.Failed more m = ap (λ (t : Bool). (t && true) || rest) (same id)

-- a console that was read to its connection's end
abbrev pub EndsRead : Option Talk → List Gave → Bool → Type 0
EndsRead None reads over = Unit {0}
EndsRead (Some t) reads true = IsReading true reads 1024
EndsRead (Some t) reads false = Unit {0}

nothing_ends : (s : Option Talk) → EndsRead s [] false
nothing_ends None = tt
nothing_ends (Some t) = tt

heard_ends : (s : Option Talk) (reads : List Gave) (over : Bool) → IsHeard s reads over → EndsRead s reads over
heard_ends None reads over h = tt
heard_ends (Some t) reads true h = h
heard_ends (Some t) reads false h = tt

part_ends : (s : Option Talk) (reads : List Gave) (over : Bool) → IsHeardPart s reads over → EndsRead s reads over
part_ends None reads over h = tt
part_ends (Some t) reads true h = h
part_ends (Some t) reads false h = tt

pub all_heard_end : (i : ℕ) (seats : List (Option Talk)) (hs : List HeardOf) → AreHeard seats hs → EndsRead (get_or seats i None) (get_or hs i none_heard).reads (get_or hs i none_heard).over
all_heard_end i [] hs h = tt
all_heard_end i (s ∷ seats) [] h = false_is h
all_heard_end zero (s ∷ seats) (x ∷ hs) h = heard_ends s x.reads x.over h.0
all_heard_end (suc i) (s ∷ seats) (x ∷ hs) h = all_heard_end i seats hs h.1

pub until_heard_end : (i : ℕ) (seats : List (Option Talk)) (hs : List HeardOf) → AreHeardUntil seats hs → EndsRead (get_or seats i None) (get_or hs i none_heard).reads (get_or hs i none_heard).over
until_heard_end i [] hs h = tt
until_heard_end i (s ∷ seats) [] h = false_is h
until_heard_end zero (s ∷ seats) (x ∷ []) h = part_ends s x.reads x.over h
until_heard_end (suc i) (s ∷ seats) (x ∷ []) h = nothing_ends (get_or seats i None)
until_heard_end zero (s ∷ seats) (x ∷ y ∷ hs) h = heard_ends s x.reads x.over h.0
until_heard_end (suc i) (s ∷ seats) (x ∷ y ∷ hs) h = until_heard_end i seats (y ∷ hs) h.1

pub none_heard_end : (i : ℕ) (seats : List (Option Talk)) → EndsRead (get_or seats i None) [] false
none_heard_end i seats = nothing_ends (get_or seats i None)

-- a console's calls are among those of all

no_reads : (p : Done → Bool) (s : Option Talk) → list_any p (calls_heard s [] false) ≡ true → false ≡ true
no_reads p None h = h
no_reads p (Some t) h = h

heard_within : (p : Done → Bool) (i : ℕ) (seats : List (Option Talk)) (hs : List HeardOf) → list_any p (calls_heard (get_or seats i None) (get_or hs i none_heard).reads (get_or hs i none_heard).over) ≡ true → list_any p (all_calls_heard seats hs) ≡ true
heard_within p i [] hs h = h
heard_within p i (s ∷ seats) [] h = no_reads p (get_or (s ∷ seats) i None) h
heard_within p zero (s ∷ seats) (x ∷ hs) h = any_front p (calls_heard s x.reads x.over) (all_calls_heard seats hs) h
heard_within p (suc i) (s ∷ seats) (x ∷ hs) h = any_back p (calls_heard s x.reads x.over) (all_calls_heard seats hs) (heard_within p i seats hs h)

no_puts : (p : Done → Bool) (s : Option Talk) → list_any p (calls_told s [] false) ≡ true → false ≡ true
no_puts p None h = h
no_puts p (Some t) h = h

told_within : (p : Done → Bool) (i : ℕ) (seats : List (Option Talk)) (ts : List Told) → list_any p (calls_told (get_or seats i None) (get_or ts i none_told).puts (get_or ts i none_told).lost) ≡ true → list_any p (all_calls_told seats ts) ≡ true
told_within p i [] ts h = h
told_within p i (s ∷ seats) [] h = no_puts p (get_or (s ∷ seats) i None) h
told_within p zero (s ∷ seats) (x ∷ ts) h = any_front p (calls_told s x.puts x.lost) (all_calls_told seats ts) h
told_within p (suc i) (s ∷ seats) (x ∷ ts) h = any_back p (calls_told s x.puts x.lost) (all_calls_told seats ts) (told_within p i seats ts h)

-- the visits that are over, and the one that was lost in the last turn's writes
pub record AreEnded (calls : List Done) (lost : Bool) (w : Watch) : Type 0 where
  pub past : All (HasEnded calls) w.past
  pub now : lost ≡ true → OnNow (HasEnded calls) w.now

pub none_ended : (lost : Bool) → AreEnded [] lost (record { past = []; now = None })
none_ended lost = record { past = All-nil (HasEnded []); now = λ is. tt }

hang_ends : (calls : List Done) (lost : Bool) (w : Watch) → AreEnded calls lost w → All (HasEnded calls) (ended_if lost w).past
hang_ends calls false w h = h.past
hang_ends calls true w h = by_now w.now (h.now refl)
  where
    by_now : (now : Option Visit) → OnNow (HasEnded calls) now → All (HasEnded calls) (ended w.past now).past
    by_now None k = h.past
    by_now (Some v) k = all_last calls w.past v h.past k

-- new connections end none
come_past : (console turn : ℕ) (texts : List (List ℕ)) (free : Option ℕ) (id : ℕ) (w : Watch) → w.past ≡ (come console turn texts free id w).past
come_past console turn texts None id w = refl
come_past console turn texts (Some c) id w = by_test (nat_eq c console)
  where
    by_test : (t : Bool) → w.past ≡ (if t then record w { now = Some (new_visit console turn texts id) } else w).past
    by_test true = refl
    by_test false = refl

all_come_past : (console turn : ℕ) (texts : List (List ℕ)) (seats : List (Option Talk)) (ids : List ℕ) (w : Watch) → w.past ≡ (all_come console turn texts seats ids w).past
all_come_past console turn texts seats [] w = refl
all_come_past console turn texts seats (id ∷ ids) w =
    come_past console turn texts (free_from 1 seats) id w ∙ all_come_past console turn texts (seats_with texts id seats) ids (come console turn texts (free_from 1 seats) id w)

-- what was read, in calls that come behind others
read_ended : (calls more : List Done) (s : Option Talk) (reads : List Gave) (over : Bool) (w : Watch) → EndsRead s reads over → ((p : Done → Bool) → list_any p (calls_heard s reads over) ≡ true → list_any p more ≡ true) →
    IsNow s false w.now → All (HasEnded calls) w.past → All (HasEnded (calls ++ more)) (read s reads over w).past
read_ended calls more None reads over w ends within fits h = all_more calls more w.past h
read_ended calls more (Some t) reads false w ends within fits h = all_more calls more w.past h
read_ended calls more (Some t) reads true w ends within fits h = by_now w.now fits
  where
    found : list_any (ends_it t.id) (calls ++ more) ≡ true
    found = any_back (ends_it t.id) calls more (within (ends_it t.id) (any_front (ends_it t.id) (map (did_read t.id) reads) (DidClose t.id ∷ []) (read_ends t.id reads 1024 ends)))

    by_now : (now : Option Visit) → IsNow (Some t) false now → All (HasEnded (calls ++ more)) (ended w.past (with_bytes (bytes_of reads) now)).past
    by_now None k = absurd k
    by_now (Some v) k =
        all_last (calls ++ more) w.past (record v { bytes = v.bytes ++ bytes_of reads }) (all_more calls more w.past h) (subst (λ (id : ℕ). list_any (ends_it id) (calls ++ more) ≡ true) k.id found)

-- what was sent
told_ended : (calls more : List Done) (text : List ℕ) (s : Option Talk) (puts : List Wrote) (lost : Bool) (now : Option Visit) → IsToldOf text s puts lost → ((p : Done → Bool) → list_any p (calls_told s puts lost) ≡ true → list_any p more ≡ true) →
    IsNow s false now → lost ≡ true → OnNow (HasEnded (calls ++ more)) now
told_ended calls more text s puts lost None lawful within fits is = tt
told_ended calls more text None puts lost (Some v) lawful within fits is = absurd fits
told_ended calls more text (Some t) puts false (Some v) lawful within fits is = false_is (sym is)
told_ended calls more text (Some t) puts true (Some v) lawful within fits is =
    subst (λ (id : ℕ). list_any (ends_it id) (calls ++ more) ≡ true) fits.id
    (any_back (ends_it t.id) calls more (within (ends_it t.id) (any_front (ends_it t.id) (map (did_write t.id) puts) (DidClose t.id ∷ []) (put_ends t.id puts 4096 (drop t.place text) lawful))))

-- any visit
abbrev pub AnyVisit : Visit → Type 0
AnyVisit v = Unit {0}

pub any_watched : (P : Visit → Type 0) (seat : Option Talk) (lost : Bool) (events : List Event) (w : Watch) → Watched P seat lost events w → Watched AnyVisit seat lost events w
any_watched P seat lost events w h = record { hung = h.hung; heard = h.heard; now = h.now; places = λ k d lt. tt; place = by_now w.now }
  where
    by_now : (now : Option Visit) → OnNow AnyVisit now
    by_now None = tt
    by_now (Some v) = tt

module _ (console : ℕ) (one : 1 ≤ console) where
  -- a turn up to its reads, whose calls are among these
  pub ended_read : (n : ℕ) (texts : List (List ℕ)) (desk : Desk) (answers : TurnAnswers) (calls more : List Done) (events : List Event) (w : Watch) →
      EndsRead (get_or (seats_to_read texts desk answers) (console - 1) None) (heard_at console answers).reads (heard_at console answers).over →
      ((p : Done → Bool) → list_any p (all_calls_heard (seats_to_read texts desk answers) answers.heard) ≡ true → list_any p more ≡ true) →
      Watched AnyVisit (get_or desk.seats (console - 1) None) (get_or desk.failed (console - 1) false) events w → AreEnded calls (get_or desk.failed (console - 1) false) w →
      All (HasEnded (calls ++ more)) (watched console n texts desk answers w).past
  ended_read n texts desk answers calls more events w ends within h e =
      let i = console - 1 in
      let lost = get_or desk.failed i false in
      let first = seats_to_read texts desk answers in
      let w1 = ended_if lost w in
      let w2 = all_come console n texts desk.seats answers.accepts w1 in
      let h2 = turn_come console AnyVisit (λ u v a b c k. tt) one n texts (1000 * n) desk answers events w (λ k d lt. tt) h in
      let past : All (HasEnded calls) w2.past = subst (All (HasEnded calls)) (all_come_past console n texts desk.seats answers.accepts w1) (hang_ends calls lost w e) in
      read_ended calls more (get_or first i None) (heard_at console answers).reads (heard_at console answers).over w2 ends (λ p k. within p (heard_within p i first answers.heard k)) h2.now past

  -- a whole turn
  ended_turn : (n : ℕ) (texts shown : List (List ℕ)) (desk : Desk) (answers : TurnAnswers) (calls : List Done) (events : List Event) (w : Watch) → IsTurn texts shown desk answers →
      Watched AnyVisit (get_or desk.seats (console - 1) None) (get_or desk.failed (console - 1) false) events w → AreEnded calls (get_or desk.failed (console - 1) false) w →
      AreEnded (calls ++ calls_of_turn texts desk answers) (get_or (desk_after texts desk answers).failed (console - 1) false) (watched console n texts desk answers w)
  ended_turn n texts shown desk answers calls events w lawful h e =
      let i = console - 1 in
      let first = seats_to_read texts desk answers in
      let second = seats_to_write texts desk answers in
      let news = calls_accepted texts desk.seats answers.accepts in
      let last = last_accept answers.accepts in
      let heard = all_calls_heard first answers.heard in
      let told = all_calls_told second answers.told in
      let more = calls_of_turn texts desk answers in
      let it = get_or answers.told i none_told in
      let zero_plus : i ≡ 0 + i = omega arith in
      let read_all = turn_read console AnyVisit (λ u v a b c k. tt) one n texts (1000 * n) desk answers events w (λ k d lt. tt) h in
      let in_turn : (p : Done → Bool) → list_any p (heard ++ told) ≡ true → list_any p more ≡ true = λ p k.
      any_back p (DidWait 10 false ∷ []) (news ++ (last ++ (heard ++ told))) (any_back p news (last ++ (heard ++ told)) (any_back p last (heard ++ told) k)) in
      record {
        past = ended_read n texts desk answers calls more events w (all_heard_end i first answers.heard lawful.heard) (λ p k. in_turn p (any_front p heard told k)) h e;
        now = λ is. told_ended calls more (get_or shown i []) (get_or second i None) it.puts it.lost (watched console n texts desk answers w).now (told_lawful shown 0 i i second answers.told zero_plus lawful.told)
            (λ p k. in_turn p (any_back p heard told (told_within p i second answers.told k))) read_all.now (sym (lost_at i answers.told) ∙ is);
      }

  -- turns one after another, after such calls
  pub ended_turns : (n : ℕ) (texts : List (List ℕ)) (desk : Desk) (turns : List TurnSeen) (calls : List Done) (events : List Event) (w : Watch) → AreTurns texts desk turns →
      Watched AnyVisit (get_or desk.seats (console - 1) None) (get_or desk.failed (console - 1) false) events w → AreEnded calls (get_or desk.failed (console - 1) false) w →
      AreEnded (calls ++ calls_of_turns texts desk turns) (get_or (desk_behind texts desk turns).failed (console - 1) false) (all_watched console n texts desk turns w)
  ended_turns n texts desk [] calls events w lawful h e = record { past = all_more calls [] w.past e.past; now = λ is. now_more w.now (e.now is) }
    where
      now_more : (now : Option Visit) → OnNow (HasEnded calls) now → OnNow (HasEnded (calls ++ [])) now
      now_more None k = tt
      now_more (Some v) k = any_front (ends_it v.id) calls [] k
  ended_turns n texts desk (t ∷ turns) calls events w lawful h e =
      let next = desk_after texts desk t.answers in
      let here = calls_of_turn texts desk t.answers in
      let w1 = watched console n texts desk t.answers w in
      let h1 = turn_step console AnyVisit (λ u v a b c k. tt) one n texts (1000 * n) t.shown desk t.answers events w lawful.0 (λ k d lt. tt) h in
      let e1 = ended_turn n texts t.shown desk t.answers calls events w lawful.0 h e in
      subst (λ (ds : List Done). AreEnded ds (get_or (desk_behind t.shown next turns).failed (console - 1) false) (all_watched console (suc n) t.shown next turns w1))
      (append_assoc calls here (calls_of_turns t.shown next turns))
      (ended_turns (suc n) t.shown next turns (calls ++ here) (events ++ events_at console (events_of_turn (1000 * n) texts desk t.answers)) w1 lawful.1.1 h1 e1)
