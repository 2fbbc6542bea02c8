-- Of a console's connections the core heard of the end of exactly those of which a call was answered by that end.
use Rattle.std.specs.Prelude.{Bool, true, false, ◌&&◌, ◌||◌, nat_eq, nat_lt, if◌then◌else◌, length, map, drop, get_or, Option, Some, None}
use Rattle.std.specs.List.{All, list_any}
use Rattle.std.proofs.Common.{◌≡◌, ◌≢◌, ℕ, zero, suc, ◌+◌, ◌-◌, ◌*◌, ◌≤◌, List, [], ◌∷◌, ◌++◌, refl, sym, ◌∙◌, ap, subst, arith, length-append}
use Rattle.std.proofs.lemmas.List.{append_assoc, append-nil, drop_all, drop-append-le}
use Rattle.std.proofs.lemmas.List.Elements.{All-append, All-cons, All-nil}
use Rattle.std.proofs.lemmas.List.Folds.{list_any-append}
use Rattle.ctss_types.specs.declared.script.Event.{Event}
use Rattle.console_link.specs.declared.link.Accepted.TheVariants as accepted
use Rattle.console_link.specs.declared.link.LinkGot.{LinkGot}
use Rattle.console_link.specs.declared.link.LinkGot.TheVariants as got
use Rattle.console_link.specs.declared.link.LinkTook.{LinkTook}
use Rattle.console_link.specs.declared.link.LinkTook.TheVariants as took
use Rattle.console_link.specs.Links.{LinkSeen, Done, DidAccept, DidClose, DidWait}
use Rattle.console_server.specs.Readings.{Gave, bytes_of, did_read, DidAll, Nothing, MayStop, IsReading, GoesOn, ReadsOn}
use Rattle.console_server.specs.Turns.{Talk, Desk, HeardOf, Told, Wrote, TurnAnswers, MayPut, IsPutting, IsHeard, AreHeard, IsHeardPart, AreHeardUntil, IsToldOf, IsTurn, if_over, calls_heard, all_calls_heard, calls_told, all_calls_told, calls_of_new, calls_accepted, last_accept, free_from, seats_with, seats_to_read, seats_to_write, calls_of_turn, events_of_turn, desk_after}
use Rattle.console_server.specs.Writings.{did_write}
use Rattle.console_server.specs.Server.{calls_to_read}
use Rattle.console_server.specs.Conversation.{TurnSeen, AreTurns, calls_of_turns, desk_behind}
use Rattle.console_server.specs.Visits.{Visit, events_at, ends_reading, ends_writing, ends_it}
use Rattle.console_server.proofs.DeskLaws.{false_is}
use Rattle.serve_laws.specs.VisitLaws.{calls_each, calls_heard_of}
use Rattle.serve_laws.proofs.Watching.{Watch, hung, ended, ended_if, new_visit, come, all_come, with_bytes, read, none_heard, none_told, heard_at, watched, all_watched, IsNow, OnNow, Watched}
use Rattle.serve_laws.proofs.AtConsole.{same, other, told_lawful, lost_at}
use Rattle.serve_laws.proofs.VisitSteps.{turn_come, turn_read, turn_step}
use Rattle.serve_laws.proofs.Passing.{did_split, IsApart}
use Rattle.serve_laws.proofs.OpenSteps.{IsOff, SeatIsOpen, AreOpen, off_at, reads_open, calls_are, turn_open}
use Rattle.serve_laws.proofs.EndSteps.{AnyVisit}

-- whether a call of one of these turns was answered by its end
abbrev pub has_ended : ℕ → List (List Done) → Bool
has_ended id calls = list_any (list_any (ends_it id)) calls

abbrev pub ended_since : List (List Done) → Visit → Bool
ended_since calls v = has_ended v.id (drop v.turn calls)

abbrev pub HasEnded : List (List Done) → Visit → Type 0
HasEnded calls v = ended_since calls v ≡ true

-- the visits that are over, and the one that isn't: whether its connection was lost in the last turn's writes
abbrev Goes : List (List Done) → Bool → Visit → Type 0
Goes calls lost v = (v.turn ≤ length calls) × (ended_since calls v ≡ lost)

pub record Ends (calls : List (List Done)) (lost : Bool) (w : Watch) : Type 0 where
  pub past : All (HasEnded calls) w.past
  pub now : OnNow (Goes calls lost) w.now

-- the same within a turn of which these calls were made
abbrev GoesIn : List (List Done) → List Done → Bool → Visit → Type 0
GoesIn calls here lost v = (v.turn ≤ length calls) × (ended_since (calls ++ here ∷ []) v ≡ lost)

pub record EndsIn (calls : List (List Done)) (here : List Done) (lost : Bool) (w : Watch) : Type 0 where
  pub past : All (HasEnded (calls ++ here ∷ [])) w.past
  pub now : OnNow (GoesIn calls here lost) w.now

pub ends_of : (calls : List (List Done)) (here : List Done) (lost : Bool) (w : Watch) → EndsIn calls here lost w → Ends (calls ++ here ∷ []) lost w
ends_of calls here lost w h = record { past = h.past; now = by_now w.now h.now }
  where
    by_now : (now : Option Visit) → OnNow (GoesIn calls here lost) now → OnNow (Goes (calls ++ here ∷ []) lost) now
    by_now None k = tt
    by_now (Some v) k = (longer v.turn (length calls) (length (calls ++ here ∷ [])) k.0 (length-append calls (here ∷ [])), k.1)
      where
        longer : (n m l : ℕ) → n ≤ m → l ≡ m + 1 → n ≤ l
        longer n m l le is = omega (arith, le, is)

or_none : (s : Bool) → (s || false) ≡ s
or_none true = refl
or_none false = refl

or_true : (s : Bool) → (s || true) ≡ true
or_true true = refl
or_true false = refl

-- calls of one more turn
more_calls : (v : Visit) (calls : List (List Done)) (here : List Done) → v.turn ≤ length calls → ended_since (calls ++ here ∷ []) v ≡ (ended_since calls v || list_any (ends_it v.id) here)
more_calls v calls here le =
    ap (has_ended v.id) (drop-append-le v.turn calls (here ∷ []) le)
    ∙ list_any-append (list_any (ends_it v.id)) (drop v.turn calls) (here ∷ [])
    ∙ ap (λ (t : Bool). ended_since calls v || t) (or_none (list_any (ends_it v.id) here))

any_more : {X : Type 0} (p : X → Bool) (n : ℕ) (xs ys : List X) → list_any p (drop n xs) ≡ true → list_any p (drop n (xs ++ ys)) ≡ true
any_more p zero xs ys h = list_any-append p xs ys ∙ ap (λ (t : Bool). t || list_any p ys) h
any_more p (suc n) [] ys h = false_is (sym h)
any_more p (suc n) (x ∷ xs) ys h = any_more p n xs ys h

-- further calls of the last turn
any_longer : (p : Done → Bool) (n : ℕ) (calls : List (List Done)) (here more : List Done) → list_any (list_any p) (drop n (calls ++ here ∷ [])) ≡ true → list_any (list_any p) (drop n (calls ++ (here ++ more) ∷ [])) ≡ true
any_longer p n [] here more h = one n h
  where
    one : (k : ℕ) → list_any (list_any p) (drop k (here ∷ [])) ≡ true → list_any (list_any p) (drop k ((here ++ more) ∷ [])) ≡ true
    one zero k = or_none (list_any p (here ++ more)) ∙ list_any-append p here more ∙ ap (λ (t : Bool). t || list_any p more) (sym (or_none (list_any p here)) ∙ k)
    one (suc m) k = none m k
      where
        none : (j : ℕ) → list_any (list_any p) (drop j []) ≡ true → list_any (list_any p) (drop j []) ≡ true
        none j e = e
any_longer p zero (c ∷ calls) here more h = by_first (any_longer p zero calls here more) (list_any p c) h
  where
    by_first : (list_any (list_any p) (calls ++ here ∷ []) ≡ true → list_any (list_any p) (calls ++ (here ++ more) ∷ []) ≡ true)
        → (t : Bool) → (t || list_any (list_any p) (calls ++ here ∷ [])) ≡ true → (t || list_any (list_any p) (calls ++ (here ++ more) ∷ [])) ≡ true
    by_first rest true k = refl
    by_first rest false k = rest k
any_longer p (suc n) (c ∷ calls) here more h = any_longer p n calls here more h

-- what is answered on a connection, up to its end

and_none : (s : Bool) → (s && false) ≡ false
and_none true = refl
and_none false = refl

reads_end : (over : Bool) (id : ℕ) (reads : List Gave) (left : ℕ) → IsReading over reads left → list_any (ends_it id) (map (did_read id) reads) ≡ over
reads_end over id [] left h = sym h.1
reads_end over id (r ∷ reads) left h = by_answer r.answer (λ n k. reads_end over id reads n k) h.1
  where
    rest : Bool
    rest = list_any (ends_it id) (map (did_read id) reads)

    by_answer : (answer : LinkGot) → ((n : ℕ) → IsReading over reads n → rest ≡ over) → MayStop answer left r.bytes (IsReading over reads) (reads ≡ []) over → ((nat_eq id id && ends_reading answer) || rest) ≡ over
    by_answer (got.Bytes n) more m = ap (λ (t : Bool). t || rest) (and_none (nat_eq id id)) ∙ more (left - n) m.3
    by_answer got.End more m = ap (λ (t : Bool). (t && true) || rest) (same id) ∙ sym m.1
    by_answer got.NotYet more m = ap (λ (t : Bool). t || rest) (and_none (nat_eq id id)) ∙ ap (λ (l : List Gave). list_any (ends_it id) (map (did_read id) l)) m.2 ∙ sym m.1
    by_answer got.Failed more m = ap (λ (t : Bool). (t && true) || rest) (same id) ∙ sym m.1

reads_on_end : (id : ℕ) (reads : List Gave) (left rest : ℕ) → ReadsOn reads left rest → list_any (ends_it id) (map (did_read id) reads) ≡ false
reads_on_end id [] left rest h = refl
reads_on_end id (r ∷ reads) left rest h = by_answer r.answer (λ n k. reads_on_end id reads n rest k) h.1
  where
    more_reads : Bool
    more_reads = list_any (ends_it id) (map (did_read id) reads)

    by_answer : (answer : LinkGot) → ((n : ℕ) → ReadsOn reads n rest → more_reads ≡ false) → GoesOn answer left r.bytes (λ n. ReadsOn reads n rest) → ((nat_eq id id && ends_reading answer) || more_reads) ≡ false
    by_answer (got.Bytes n) more m = ap (λ (t : Bool). t || more_reads) (and_none (nat_eq id id)) ∙ more (left - n) m.3
    by_answer got.End more m = false_is m
    by_answer got.NotYet more m = false_is m
    by_answer got.Failed more m = false_is m

puts_end : (lost : Bool) (id : ℕ) (puts : List Wrote) (may : ℕ) (text : List ℕ) → IsPutting lost puts may text → list_any (ends_it id) (map (did_write id) puts) ≡ lost
puts_end lost id [] may text h = sym h.1
puts_end lost id (p ∷ puts) may text h = by_answer p.answer (λ n l k. puts_end lost id puts n l k) h.1
  where
    rest : Bool
    rest = list_any (ends_it id) (map (did_write id) puts)

    by_answer : (answer : LinkTook) → ((n : ℕ) (l : List ℕ) → IsPutting lost puts n l → rest ≡ lost) → MayPut answer may text p.bytes (IsPutting lost puts) (puts ≡ []) lost → ((nat_eq id id && ends_writing answer) || rest) ≡ lost
    by_answer (took.Bytes n) more m = ap (λ (t : Bool). t || rest) (and_none (nat_eq id id)) ∙ more (may - n) (drop n text) m.3
    by_answer took.NotYet more m = ap (λ (t : Bool). t || rest) (and_none (nat_eq id id)) ∙ ap (λ (l : List Wrote). list_any (ends_it id) (map (did_write id) l)) m.2 ∙ sym m.1
    by_answer took.Failed more m = ap (λ (t : Bool). (t && true) || rest) (same id) ∙ sym m.1

-- a console's reads were answered by its connection's end if it is over
abbrev pub AnswersEnd : Option Talk → List Gave → Bool → Type 0
AnswersEnd None reads over = Unit {0}
AnswersEnd (Some t) reads over = list_any (ends_it t.id) (map (did_read t.id) reads) ≡ over

no_answers : (s : Option Talk) → AnswersEnd s [] false
no_answers None = tt
no_answers (Some t) = refl

heard_answers : (s : Option Talk) (reads : List Gave) (over : Bool) → IsHeard s reads over → AnswersEnd s reads over
heard_answers None reads over h = tt
heard_answers (Some t) reads over h = reads_end over t.id reads 1024 h

part_answers : (s : Option Talk) (reads : List Gave) (over : Bool) → IsHeardPart s reads over → AnswersEnd s reads over
part_answers None reads over h = tt
part_answers (Some t) reads true h = reads_end true t.id reads 1024 h
part_answers (Some t) reads false h = reads_on_end t.id reads 1024 h.0 h.1

pub all_answer : (i : ℕ) (seats : List (Option Talk)) (hs : List HeardOf) → AreHeard seats hs → AnswersEnd (get_or seats i None) (get_or hs i none_heard).reads (get_or hs i none_heard).over
all_answer i [] hs h = tt
all_answer i (s ∷ seats) [] h = false_is h
all_answer zero (s ∷ seats) (x ∷ hs) h = heard_answers s x.reads x.over h.0
all_answer (suc i) (s ∷ seats) (x ∷ hs) h = all_answer i seats hs h.1

pub until_answer : (i : ℕ) (seats : List (Option Talk)) (hs : List HeardOf) → AreHeardUntil seats hs → AnswersEnd (get_or seats i None) (get_or hs i none_heard).reads (get_or hs i none_heard).over
until_answer i [] hs h = tt
until_answer i (s ∷ seats) [] h = false_is h
until_answer zero (s ∷ seats) (x ∷ []) h = part_answers s x.reads x.over h
until_answer (suc i) (s ∷ seats) (x ∷ []) h = no_answers (get_or seats i None)
until_answer zero (s ∷ seats) (x ∷ y ∷ hs) h = heard_answers s x.reads x.over h.0
until_answer (suc i) (s ∷ seats) (x ∷ y ∷ hs) h = until_answer i seats (y ∷ hs) h.1

pub none_answer : (i : ℕ) (seats : List (Option Talk)) → AnswersEnd (get_or seats i None) [] false
none_answer i seats = no_answers (get_or seats i None)

-- calls on other numbers

any_both : (k : ℕ) (ds es : List Done) → list_any (ends_it k) ds ≡ false → list_any (ends_it k) (ds ++ es) ≡ list_any (ends_it k) es
any_both k ds es none = list_any-append (ends_it k) ds es ∙ ap (λ (t : Bool). t || list_any (ends_it k) es) none

any_first : (k : ℕ) (ds es : List Done) → list_any (ends_it k) es ≡ false → list_any (ends_it k) (ds ++ es) ≡ list_any (ends_it k) ds
any_first k ds es none = list_any-append (ends_it k) ds es ∙ ap (λ (t : Bool). list_any (ends_it k) ds || t) none ∙ or_none (list_any (ends_it k) ds)

close_none : (k id : ℕ) (over : Bool) → list_any (ends_it k) (if_over over (DidClose id ∷ [])) ≡ false
close_none k id true = refl
close_none k id false = refl

reads_off : (k id : ℕ) (reads : List Gave) → id ≢ k → list_any (ends_it k) (map (did_read id) reads) ≡ false
reads_off k id [] ne = refl
reads_off k id (r ∷ reads) ne = ap (λ (t : Bool). (t && ends_reading r.answer) || list_any (ends_it k) (map (did_read id) reads)) (other id k ne) ∙ reads_off k id reads ne

puts_off : (k id : ℕ) (puts : List Wrote) → id ≢ k → list_any (ends_it k) (map (did_write id) puts) ≡ false
puts_off k id [] ne = refl
puts_off k id (p ∷ puts) ne = ap (λ (t : Bool). (t && ends_writing p.answer) || list_any (ends_it k) (map (did_write id) puts)) (other id k ne) ∙ puts_off k id puts ne

heard_off : (k : ℕ) (s : Option Talk) (reads : List Gave) (over : Bool) → IsApart k s → list_any (ends_it k) (calls_heard s reads over) ≡ false
heard_off k None reads over off = refl
heard_off k (Some t) reads over off = any_first k (map (did_read t.id) reads) (if_over over (DidClose t.id ∷ [])) (close_none k t.id over) ∙ reads_off k t.id reads off

all_heard_off : (k : ℕ) (seats : List (Option Talk)) (hs : List HeardOf) → IsOff k seats → list_any (ends_it k) (all_calls_heard seats hs) ≡ false
all_heard_off k [] hs off = refl
all_heard_off k (s ∷ seats) [] off = refl
all_heard_off k (s ∷ seats) (h ∷ hs) off = any_both k (calls_heard s h.reads h.over) (all_calls_heard seats hs) (heard_off k s h.reads h.over off.0) ∙ all_heard_off k seats hs off.1

told_off : (k : ℕ) (s : Option Talk) (puts : List Wrote) (lost : Bool) → IsApart k s → list_any (ends_it k) (calls_told s puts lost) ≡ false
told_off k None puts lost off = refl
told_off k (Some t) puts lost off = any_first k (map (did_write t.id) puts) (if_over lost (DidClose t.id ∷ [])) (close_none k t.id lost) ∙ puts_off k t.id puts off

all_told_off : (k : ℕ) (seats : List (Option Talk)) (ts : List Told) → IsOff k seats → list_any (ends_it k) (all_calls_told seats ts) ≡ false
all_told_off k [] ts off = refl
all_told_off k (s ∷ seats) [] off = refl
all_told_off k (s ∷ seats) (t ∷ ts) off = any_both k (calls_told s t.puts t.lost) (all_calls_told seats ts) (told_off k s t.puts t.lost off.0) ∙ all_told_off k seats ts off.1

-- the calls on one console's connection are its own

not_some : (t : Talk) → None ≡ Some t → ⊥
not_some t is = cc

others_off : (f : ℕ → Bool) (t : Talk) (s : Option Talk) (seats : List (Option Talk)) → s ≡ Some t → SeatIsOpen f s seats → IsOff t.id seats
others_off f t s seats is h = (subst (λ (o : Option Talk). SeatIsOpen f o seats) is h).1

it_off : (f : ℕ → Bool) (i : ℕ) (t : Talk) (s : Option Talk) (seats : List (Option Talk)) → get_or seats i None ≡ Some t → SeatIsOpen f s seats → IsApart t.id s
it_off f i t None seats is h = tt
it_off f i t (Some u) seats is h = λ e. (subst (IsApart u.id) is (off_at u.id i seats h.1)) (sym e)

pub seat_ends : (f : ℕ → Bool) (i : ℕ) (seats : List (Option Talk)) (hs : List HeardOf) → AreOpen f seats → AnswersEnd (get_or seats i None) (get_or hs i none_heard).reads (get_or hs i none_heard).over
    → (t : Talk) → get_or seats i None ≡ Some t → list_any (ends_it t.id) (all_calls_heard seats hs) ≡ (get_or hs i none_heard).over
seat_ends f i [] hs h ends t is = absurd (not_some t is)
seat_ends f i (s ∷ seats) [] h ends t is = refl
seat_ends f zero (s ∷ seats) (x ∷ hs) h ends t is =
    any_first t.id (calls_heard s x.reads x.over) (all_calls_heard seats hs) (all_heard_off t.id seats hs (others_off f t s seats is h.0))
    ∙ ap (λ (o : Option Talk). list_any (ends_it t.id) (calls_heard o x.reads x.over)) is
    ∙ any_first t.id (map (did_read t.id) x.reads) (if_over x.over (DidClose t.id ∷ [])) (close_none t.id t.id x.over)
    ∙ subst (λ (o : Option Talk). AnswersEnd o x.reads x.over) is ends
seat_ends f (suc i) (s ∷ seats) (x ∷ hs) h ends t is =
    any_both t.id (calls_heard s x.reads x.over) (all_calls_heard seats hs) (heard_off t.id s x.reads x.over (it_off f i t s seats is h.0)) ∙ seat_ends f i seats hs h.1 ends t is

told_ends : (f : ℕ → Bool) (i : ℕ) (text : List ℕ) (seats : List (Option Talk)) (ts : List Told) → AreOpen f seats → IsToldOf text (get_or seats i None) (get_or ts i none_told).puts (get_or ts i none_told).lost
    → (t : Talk) → get_or seats i None ≡ Some t → list_any (ends_it t.id) (all_calls_told seats ts) ≡ (get_or ts i none_told).lost
told_ends f i text [] ts h lawful t is = absurd (not_some t is)
told_ends f i text (s ∷ seats) [] h lawful t is = refl
told_ends f zero text (s ∷ seats) (x ∷ ts) h lawful t is =
    any_first t.id (calls_told s x.puts x.lost) (all_calls_told seats ts) (all_told_off t.id seats ts (others_off f t s seats is h.0))
    ∙ ap (λ (o : Option Talk). list_any (ends_it t.id) (calls_told o x.puts x.lost)) is
    ∙ any_first t.id (map (did_write t.id) x.puts) (if_over x.lost (DidClose t.id ∷ [])) (close_none t.id t.id x.lost)
    ∙ puts_end x.lost t.id x.puts 4096 (drop t.place text) (subst (λ (o : Option Talk). IsToldOf text o x.puts x.lost) is lawful)
told_ends f (suc i) text (s ∷ seats) (x ∷ ts) h lawful t is =
    any_both t.id (calls_told s x.puts x.lost) (all_calls_told seats ts) (told_off t.id s x.puts x.lost (it_off f i t s seats is h.0)) ∙ told_ends f i text seats ts h.1 lawful t is

-- calls before the reads

accepted_none : (k : ℕ) (texts : List (List ℕ)) (seats : List (Option Talk)) (ids : List ℕ) → list_any (ends_it k) (calls_accepted texts seats ids) ≡ false
accepted_none k texts seats [] = refl
accepted_none k texts seats (id ∷ ids) = any_both k (calls_of_new (free_from 1 seats) id) (calls_accepted texts (seats_with texts id seats) ids) (new_none (free_from 1 seats)) ∙ accepted_none k texts (seats_with texts id seats) ids
  where
    new_none : (free : Option ℕ) → list_any (ends_it k) (calls_of_new free id) ≡ false
    new_none None = refl
    new_none (Some c) = refl

pub last_none : (k : ℕ) (ids : List ℕ) → list_any (ends_it k) (last_accept ids) ≡ false
last_none k ids = by_test (nat_lt (length ids) 32)
  where
    by_test : (t : Bool) → list_any (ends_it k) (if t then DidAccept accepted.NotYet ∷ [] else []) ≡ false
    by_test true = refl
    by_test false = refl

pub before_reads : (k : ℕ) (texts : List (List ℕ)) (seats : List (Option Talk)) (ids : List ℕ) (first last heard : List Done) → list_any (ends_it k) first ≡ false → list_any (ends_it k) last ≡ false
    → list_any (ends_it k) (first ++ (calls_accepted texts seats ids ++ (last ++ heard))) ≡ list_any (ends_it k) heard
before_reads k texts seats ids first last heard one two =
    any_both k first (calls_accepted texts seats ids ++ (last ++ heard)) one ∙ any_both k (calls_accepted texts seats ids) (last ++ heard) (accepted_none k texts seats ids) ∙ any_both k last heard two

-- a turn

hang_since : (calls : List (List Done)) (lost : Bool) (w : Watch) → Ends calls lost w → Ends calls false (ended_if lost w)
hang_since calls false w h = h
hang_since calls true w h = by_now w.now h.now
  where
    by_now : (now : Option Visit) → OnNow (Goes calls true) now → Ends calls false (ended w.past now)
    by_now None k = record { past = h.past; now = tt }
    by_now (Some v) k = record { past = All-append (HasEnded calls) w.past (hung v ∷ []) h.past (All-cons (HasEnded calls) (hung v) [] k.1 (All-nil (HasEnded calls))); now = tt }

come_since : (calls : List (List Done)) (console turn : ℕ) (texts : List (List ℕ)) (free : Option ℕ) (id : ℕ) (w : Watch) → length calls ≡ turn → Ends calls false w → Ends calls false (come console turn texts free id w)
come_since calls console turn texts None id w long h = h
come_since calls console turn texts (Some c) id w long h = by_test (nat_eq c console)
  where
    by_test : (t : Bool) → Ends calls false (if t then record w { now = Some (new_visit console turn texts id) } else w)
    by_test true = record { past = h.past; now = (at_end (length calls) turn long, ap (has_ended id) (drop_all turn calls (to_end (length calls) turn long))) }
      where
        at_end : (n m : ℕ) → n ≡ m → m ≤ n
        at_end n m e = omega (arith, e)

        to_end : (n m : ℕ) → n ≡ m → n ≤ m
        to_end n m e = omega (arith, e)
    by_test false = h

all_come_since : (calls : List (List Done)) (console turn : ℕ) (texts : List (List ℕ)) (seats : List (Option Talk)) (ids : List ℕ) (w : Watch) → length calls ≡ turn → Ends calls false w → Ends calls false (all_come console turn texts seats ids w)
all_come_since calls console turn texts seats [] w long h = h
all_come_since calls console turn texts seats (id ∷ ids) w long h =
    all_come_since calls console turn texts (seats_with texts id seats) ids (come console turn texts (free_from 1 seats) id w) long (come_since calls console turn texts (free_from 1 seats) id w long h)

past_since : (calls : List (List Done)) (here : List Done) (visits : List Visit) → All (HasEnded calls) visits → All (HasEnded (calls ++ here ∷ [])) visits
past_since calls here visits h = λ k d lt. any_more (list_any (ends_it (get_or visits k d).id)) (get_or visits k d).turn calls (here ∷ []) (h k d lt)

read_since : (calls : List (List Done)) (here : List Done) (s : Option Talk) (reads : List Gave) (over : Bool) (w : Watch) → ((t : Talk) → s ≡ Some t → list_any (ends_it t.id) here ≡ over)
    → IsNow s false w.now → Ends calls false w → EndsIn calls here false (read s reads over w)
read_since calls here None reads over w ends fits h = record { past = past_since calls here w.past h.past; now = by_now w.now fits }
  where
    by_now : (now : Option Visit) → IsNow None false now → OnNow (GoesIn calls here false) now
    by_now None k = tt
    by_now (Some v) k = absurd k
read_since calls here (Some t) reads over w ends fits h = by_now w.now fits h.now
  where
    past : All (HasEnded (calls ++ here ∷ [])) w.past
    past = past_since calls here w.past h.past

    by_now : (now : Option Visit) → IsNow (Some t) false now → OnNow (Goes calls false) now → EndsIn calls here false (ended_if over (record w { now = with_bytes (bytes_of reads) now }))
    by_now None k g = absurd k
    by_now (Some v) k g = by_over over (more_calls v calls here g.0 ∙ (λ j. g.1 j || list_any (ends_it (sym k.id j)) here) ∙ ends t refl)
      where
        longer : Visit
        longer = record v { bytes = v.bytes ++ bytes_of reads }

        by_over : (o : Bool) → ended_since (calls ++ here ∷ []) v ≡ o → EndsIn calls here false (ended_if o (record w { now = Some longer }))
        by_over true e = record { past = All-append (HasEnded (calls ++ here ∷ [])) w.past (hung longer ∷ []) past (All-cons (HasEnded (calls ++ here ∷ [])) (hung longer) [] e (All-nil (HasEnded (calls ++ here ∷ [])))); now = tt }
        by_over false e = record { past = past; now = (g.0, e) }

or_assoc : (a b c : Bool) → (a || (b || c)) ≡ ((a || b) || c)
or_assoc true b c = refl
or_assoc false b c = refl

told_since : (calls : List (List Done)) (here told : List Done) (s : Option Talk) (lost : Bool) (w : Watch) → ((t : Talk) → s ≡ Some t → list_any (ends_it t.id) told ≡ lost)
    → IsNow s false w.now → EndsIn calls here false w → EndsIn calls (here ++ told) lost w
told_since calls here told s lost w ends fits h =
    record {
      past = λ k d lt. any_longer (ends_it (get_or w.past k d).id) (get_or w.past k d).turn calls here told (h.past k d lt);
      now = by_now s w.now ends fits h.now;
    }
  where
    by_now : (o : Option Talk) (now : Option Visit) → ((t : Talk) → o ≡ Some t → list_any (ends_it t.id) told ≡ lost) → IsNow o false now → OnNow (GoesIn calls here false) now → OnNow (GoesIn calls (here ++ told) lost) now
    by_now o None e k g = tt
    by_now None (Some v) e k g = absurd k
    by_now (Some t) (Some v) e k g = (
      g.0,
      more_calls v calls (here ++ told) g.0
          ∙ ap (λ (b : Bool). ended_since calls v || b) (list_any-append (ends_it v.id) here told)
          ∙ or_assoc (ended_since calls v) (list_any (ends_it v.id) here) (list_any (ends_it v.id) told)
          ∙ (λ j. (sym (more_calls v calls here g.0) ∙ g.1) j || list_any (ends_it (sym k.id j)) told)
          ∙ e t refl,
    )

module _ (console : ℕ) (one : 1 ≤ console) where
  -- a turn up to its reads, with these calls
  pub since_read : (n : ℕ) (texts : List (List ℕ)) (desk : Desk) (answers : TurnAnswers) (calls : List (List Done)) (here : List Done) (events : List Event) (w : Watch) → length calls ≡ n →
      ((t : Talk) → get_or (seats_to_read texts desk answers) (console - 1) None ≡ Some t → list_any (ends_it t.id) here ≡ (heard_at console answers).over) →
      Watched AnyVisit (get_or desk.seats (console - 1) None) (get_or desk.failed (console - 1) false) events w → Ends calls (get_or desk.failed (console - 1) false) w →
      EndsIn calls here false (watched console n texts desk answers w)
  since_read n texts desk answers calls here events w long ends h e =
      let i = console - 1 in
      let lost = get_or desk.failed i false in
      let w1 = ended_if lost w in
      let w2 = all_come console n texts desk.seats answers.accepts w1 in
      let h2 = turn_come console AnyVisit (λ u v a b c k. tt) one n texts (1000 * n) desk answers events w (λ k d lt. tt) h in
      read_since calls here (get_or (seats_to_read texts desk answers) i None) (heard_at console answers).reads (heard_at console answers).over w2 ends h2.now
      (all_come_since calls console n texts desk.seats answers.accepts w1 long (hang_since calls lost w e))

  since_reads : (n : ℕ) (texts shown : List (List ℕ)) (desk : Desk) (answers : TurnAnswers) (calls : List (List Done)) (events : List Event) (w : Watch) (a b : LinkSeen) → length calls ≡ n → IsTurn texts shown desk answers →
      DidAll (calls_to_read texts desk answers) a b → AreOpen a.is_open desk.seats →
      Watched AnyVisit (get_or desk.seats (console - 1) None) (get_or desk.failed (console - 1) false) events w → Ends calls (get_or desk.failed (console - 1) false) w →
      EndsIn calls (calls_to_read texts desk answers) false (watched console n texts desk answers w)
  since_reads n texts shown desk answers calls events w a b long lawful did opens h e =
      let i = console - 1 in
      let first = seats_to_read texts desk answers in
      let read = reads_open texts desk answers a b did opens in
      since_read n texts desk answers calls (calls_to_read texts desk answers) events w long
      (λ t is. before_reads t.id texts desk.seats answers.accepts (DidWait 10 false ∷ []) (last_accept answers.accepts) (all_calls_heard first answers.heard) refl (last_none t.id answers.accepts)
      ∙ seat_ends (read.0).is_open i first answers.heard read.2 (all_answer i first answers.heard lawful.heard) t is)
      h e

  since_turn : (n : ℕ) (texts shown : List (List ℕ)) (desk : Desk) (answers : TurnAnswers) (calls : List (List Done)) (events : List Event) (w : Watch) (a b : LinkSeen) → length calls ≡ n → IsTurn texts shown desk answers →
      DidAll (calls_of_turn texts desk answers) a b → AreOpen a.is_open desk.seats →
      Watched AnyVisit (get_or desk.seats (console - 1) None) (get_or desk.failed (console - 1) false) events w → Ends calls (get_or desk.failed (console - 1) false) w →
      Ends (calls ++ calls_of_turn texts desk answers ∷ []) (get_or (desk_after texts desk answers).failed (console - 1) false) (watched console n texts desk answers w) × AreOpen b.is_open (desk_after texts desk answers).seats
  since_turn n texts shown desk answers calls events w a b long lawful did opens h e =
      let i = console - 1 in
      let second = seats_to_write texts desk answers in
      let here = calls_to_read texts desk answers in
      let told = all_calls_told second answers.told in
      let it = get_or answers.told i none_told in
      let seen = watched console n texts desk answers w in
      let zero_plus : i ≡ 0 + i = omega arith in
      let turn = turn_open texts desk answers a b did opens in
      let read_all = turn_read console AnyVisit (λ u v a b c k. tt) one n texts (1000 * n) desk answers events w (λ k d lt. tt) h in
      let reads : EndsIn calls here false seen = since_reads n texts shown desk answers calls events w a turn.0 long lawful turn.1 opens h e in
      let both : EndsIn calls (here ++ told) it.lost seen =
      told_since calls here told (get_or second i None) it.lost seen
      (told_ends (turn.0).is_open i (get_or shown i []) second answers.told turn.2 (told_lawful shown 0 i i second answers.told zero_plus lawful.told)) read_all.now reads in (
        subst (λ (l : Bool). Ends (calls ++ calls_of_turn texts desk answers ∷ []) l seen) (sym (lost_at i answers.told))
            (subst (λ (ds : List Done). Ends (calls ++ ds ∷ []) it.lost seen) (sym (calls_are texts desk answers)) (ends_of calls (here ++ told) it.lost seen both)),
        turn.3,
      )

  -- turns one after another
  pub since_turns : (n : ℕ) (texts : List (List ℕ)) (desk : Desk) (turns : List TurnSeen) (calls : List (List Done)) (events : List Event) (w : Watch) (a b : LinkSeen) → length calls ≡ n → AreTurns texts desk turns →
      DidAll (calls_of_turns texts desk turns) a b → AreOpen a.is_open desk.seats →
      Watched AnyVisit (get_or desk.seats (console - 1) None) (get_or desk.failed (console - 1) false) events w → Ends calls (get_or desk.failed (console - 1) false) w →
      Ends (calls ++ calls_each texts desk turns) (get_or (desk_behind texts desk turns).failed (console - 1) false) (all_watched console n texts desk turns w) × AreOpen b.is_open (desk_behind texts desk turns).seats
  since_turns n texts desk [] calls events w a b long lawful (Nothing _) opens h e =
      (subst (λ (l : List (List Done)). Ends l (get_or desk.failed (console - 1) false) w) (sym (append-nil calls)) e, opens)
  since_turns n texts desk (t ∷ turns) calls events w a b long lawful did opens h e =
      let next = desk_after texts desk t.answers in
      let here = calls_of_turn texts desk t.answers in
      let w1 = watched console n texts desk t.answers w in
      let parts = did_split here (calls_of_turns t.shown next turns) a b did in
      let h1 = turn_step console AnyVisit (λ u v a b c k. tt) one n texts (1000 * n) t.shown desk t.answers events w lawful.0 (λ k d lt. tt) h in
      let e1 = since_turn n texts t.shown desk t.answers calls events w a parts.0 long lawful.0 parts.1 opens h e in
      let rest = since_turns (suc n) t.shown next turns (calls ++ here ∷ []) (events ++ events_at console (events_of_turn (1000 * n) texts desk t.answers)) w1 parts.0 b (one_longer calls here n long) lawful.1.1 parts.2 e1.1 h1 e1.0 in (
        subst (λ (l : List (List Done)). Ends l (get_or (desk_behind t.shown next turns).failed (console - 1) false) (all_watched console (suc n) t.shown next turns w1))
            (append_assoc calls (here ∷ []) (calls_each t.shown next turns)) rest.0,
        rest.1,
      )
    where
      one_longer : (ds : List (List Done)) (d : List Done) (m : ℕ) → length ds ≡ m → length (ds ++ d ∷ []) ≡ suc m
      one_longer ds d m is = let l = length-append ds (d ∷ []) in omega (arith, l, is)

  -- the same but for the last turn's writes
  pub since_last : (n : ℕ) (texts : List (List ℕ)) (desk : Desk) (t : TurnSeen) (turns : List TurnSeen) (calls : List (List Done)) (events : List Event) (w : Watch) (a b : LinkSeen) → length calls ≡ n → AreTurns texts desk (t ∷ turns) →
      DidAll (calls_of_turns texts desk (t ∷ turns)) a b → AreOpen a.is_open desk.seats →
      Watched AnyVisit (get_or desk.seats (console - 1) None) (get_or desk.failed (console - 1) false) events w → Ends calls (get_or desk.failed (console - 1) false) w →
      Ends (calls ++ calls_heard_of texts desk (t ∷ turns)) false (all_watched console n texts desk (t ∷ turns) w)
  since_last n texts desk t [] calls events w a b long lawful did opens h e =
      let here = calls_of_turn texts desk t.answers in
      let parts = did_split here [] a b did in
      let turn = turn_open texts desk t.answers a parts.0 parts.1 opens in
      ends_of calls (calls_to_read texts desk t.answers) false (watched console n texts desk t.answers w) (since_reads n texts t.shown desk t.answers calls events w a turn.0 long lawful.0 turn.1 opens h e)
  since_last n texts desk t (u ∷ turns) calls events w a b long lawful did opens h e =
      let next = desk_after texts desk t.answers in
      let here = calls_of_turn texts desk t.answers in
      let w1 = watched console n texts desk t.answers w in
      let parts = did_split here (calls_of_turns t.shown next (u ∷ turns)) a b did in
      let h1 = turn_step console AnyVisit (λ u v a b c k. tt) one n texts (1000 * n) t.shown desk t.answers events w lawful.0 (λ k d lt. tt) h in
      let e1 = since_turn n texts t.shown desk t.answers calls events w a parts.0 long lawful.0 parts.1 opens h e in
      subst (λ (l : List (List Done)). Ends l false (all_watched console (suc n) t.shown next (u ∷ turns) w1)) (append_assoc calls (here ∷ []) (calls_heard_of t.shown next (u ∷ turns)))
      (since_last (suc n) t.shown next u turns (calls ++ here ∷ []) (events ++ events_at console (events_of_turn (1000 * n) texts desk t.answers)) w1 parts.0 b (one_longer calls here n long) lawful.1.1 parts.2 e1.1 h1 e1.0)
    where
      one_longer : (ds : List (List Done)) (d : List Done) (m : ℕ) → length ds ≡ m → length (ds ++ d ∷ []) ≡ suc m
      one_longer ds d m is = let l = length-append ds (d ∷ []) in omega (arith, l, is)
