-- The visits of many turns.
use Rattle.std.specs.Prelude.{length, Bool, true, false, replicate, take, drop, get_or, Option, Some, None}
use Rattle.std.specs.List.{All, AllZip, Contains, flat_map, list_any}
use Rattle.std.proofs.Common.{◌≡◌, ℕ, zero, suc, ◌-◌, ◌*◌, ◌≤◌, List, [], ◌∷◌, ◌++◌, refl, sym, ◌∙◌, ap, subst, arith}
use Rattle.std.proofs.lemmas.List.{append_assoc, append-nil}
use Rattle.std.proofs.lemmas.List.Elements.{All-append, All-cons, All-nil, Contains-get_or}
use Rattle.ctss_types.specs.declared.script.Event.{Event}
use Rattle.ctss_types.specs.declared.script.Event.TheVariants.{Dial, Hang}
use Rattle.console_wire.specs.Items.{items_from}
use Rattle.console_link.specs.Links.{LinkSeen, Done}
use Rattle.live_core.specs.Core.{Grows}
use Rattle.console_server.specs.Readings.{DidAll, Nothing}
use Rattle.console_server.specs.Turns.{Talk, Desk, if_over, end_of, calls_of_turn, events_of_turn, desk_after}
use Rattle.console_server.specs.History.{events_in}
use Rattle.console_server.specs.Conversation.{TurnSeen, AreTurns, calls_of_turns, events_of_turns, desk_behind, texts_behind}
use Rattle.console_server.specs.Visits.{Visit, OneAtATime, events_of_visit, events_at, IsSentFrom, HaveEnded, EndsAreHeard, ends_it}
use Rattle.console_server.proofs.DeskLaws.{false_is}
use Rattle.serve_laws.specs.VisitLaws.{accepted_in, calls_heard_of, EventsAreVisits}
use Rattle.serve_laws.proofs.Watching.{Watch, new_visit, watched, all_watched, said, IsNow, OnNow, Watched}
use Rattle.serve_laws.proofs.AtConsole.{at_both}
use Rattle.serve_laws.proofs.VisitSteps.{fm_both, turn_step}
use Rattle.serve_laws.proofs.Passing.{tells_still, tells_same, did_split, OnSeat, WasGiven}
use Rattle.serve_laws.proofs.SentSteps.{sent_from}
use Rattle.serve_laws.proofs.KeptSteps.{IsOver, IsOn, Kept, kept_turn}
use Rattle.serve_laws.proofs.OpenSteps.{AreOpen}
use Rattle.serve_laws.proofs.HungSteps.{HasEnded as HasEndedSince, ended_since, Ends, since_last}
use Rattle.serve_laws.proofs.EndSteps.{HasEnded, AnyVisit, any_watched, ended_turns, none_ended}

-- the texts

grows_on : (a b c : List ℕ) → Grows a b → Grows b c → Grows a c
grows_on a b c one two = (one.0 ++ two.0, two.1 ∙ ap (λ (l : List ℕ). l ++ two.0) one.1 ∙ append_assoc a one.0 two.0)

pub grows_none : (a : List ℕ) → Grows a a
grows_none a = ([], sym (append-nil a))

-- each console's text grows
grows_at : (i : ℕ) (xs ys : List (List ℕ)) → AllZip Grows xs ys → Grows (get_or xs i []) (get_or ys i [])
grows_at i [] [] h = grows_none []
grows_at i [] (y ∷ ys) h = absurd h
grows_at i (x ∷ xs) [] h = absurd h
grows_at zero (x ∷ xs) (y ∷ ys) h = h.0
grows_at (suc i) (x ∷ xs) (y ∷ ys) h = grows_at i xs ys h.1

grows_behind : (i : ℕ) (texts : List (List ℕ)) (desk : Desk) (turns : List TurnSeen) → AreTurns texts desk turns → Grows (get_or texts i []) (get_or (texts_behind texts turns) i [])
grows_behind i texts desk [] h = grows_none (get_or texts i [])
grows_behind i texts desk (t ∷ turns) h =
    grows_on (get_or texts i []) (get_or t.shown i []) (get_or (texts_behind t.shown turns) i []) (grows_at i texts t.shown h.1.0) (grows_behind i t.shown (desk_after texts desk t.answers) turns h.1.1)

-- what is left of all turns, and the texts there, one turn on

no_turn : {X : Type 0} (t : TurnSeen) (turns : List TurnSeen) → t ∷ turns ≡ [] → X
no_turn {X} t turns is = absurd (subst IsCons is tt)
  where
    IsCons : List TurnSeen → Type 0
    IsCons [] = ⊥
    IsCons (x ∷ xs) = Unit {0}

same_first : (t x : TurnSeen) (turns xs : List TurnSeen) → t ∷ turns ≡ x ∷ xs → t ≡ x
same_first t x turns xs is = cc

same_rest : (t x : TurnSeen) (turns xs : List TurnSeen) → t ∷ turns ≡ x ∷ xs → turns ≡ xs
same_rest t x turns xs is = cc

left_next : (n : ℕ) (t : TurnSeen) (turns all : List TurnSeen) → t ∷ turns ≡ drop n all → turns ≡ drop (suc n) all
left_next zero t turns [] is = no_turn t turns is
left_next zero t turns (x ∷ all) is = same_rest t x turns all is
left_next (suc n) t turns [] is = no_turn t turns is
left_next (suc n) t turns (x ∷ all) is = left_next n t turns all is

texts_next : (n : ℕ) (texts : List (List ℕ)) (t : TurnSeen) (turns all : List TurnSeen) → t ∷ turns ≡ drop n all → t.shown ≡ texts_behind texts (take (suc n) all)
texts_next zero texts t turns [] is = no_turn t turns is
texts_next zero texts t turns (x ∷ all) is = ap (λ (s : TurnSeen). s.shown) (same_first t x turns all is)
texts_next (suc n) texts t turns [] is = no_turn t turns is
texts_next (suc n) texts t turns (x ∷ all) is = texts_next n x.shown t turns all is

accepted_at : (n : ℕ) (t : TurnSeen) (turns all : List TurnSeen) → t ∷ turns ≡ drop n all → t.answers.accepts ≡ accepted_in n all
accepted_at zero t turns [] is = no_turn t turns is
accepted_at zero t turns (x ∷ all) is = ap (λ (s : TurnSeen). s.answers.accepts) (same_first t x turns all is)
accepted_at (suc n) t turns [] is = no_turn t turns is
accepted_at (suc n) t turns (x ∷ all) is = accepted_at n t turns all is

module _ (console : ℕ) (one : 1 ≤ console) (start : List (List ℕ)) (all : List TurnSeen) where
  -- a visit that came in its turn, and is sent its text from where that ended then
  pub record Came (v : Visit) : Type 0 where
    pub place : v.place ≡ end_of (texts_behind start (take v.turn all)) (Some console)
    pub number : Contains (accepted_in v.turn all) v.id

  pub came_still : (v w : Visit) → v.id ≡ w.id → v.turn ≡ w.turn → v.place ≡ w.place → Came v → Came w
  came_still v w id turn place c =
      record {
        place = sym place ∙ c.place ∙ ap (λ (n : ℕ). end_of (texts_behind start (take n all)) (Some console)) turn;
        number = subst (λ (n : ℕ). Contains (accepted_in n all) w.id) turn (subst (Contains (accepted_in v.turn all)) id c.number);
      }

  pub all_came : (n : ℕ) (texts : List (List ℕ)) (t : TurnSeen) (turns : List TurnSeen) → t ∷ turns ≡ drop n all → texts ≡ texts_behind start (take n all) → All (λ (id : ℕ). Came (new_visit console n texts id)) t.answers.accepts
  all_came n texts t turns left is k d lt =
      record {
        place = ap (λ (l : List (List ℕ)). end_of l (Some console)) is;
        number = subst (λ (ids : List ℕ). Contains ids (get_or t.answers.accepts k d)) (accepted_at n t turns all left) (Contains-get_or t.answers.accepts k d lt);
      }

  -- what the core hears at the console
  pub heard_turns : (n : ℕ) (texts : List (List ℕ)) (desk : Desk) (turns behind : List TurnSeen) (events : List Event) (w : Watch) → turns ++ behind ≡ drop n all → texts ≡ texts_behind start (take n all) → AreTurns texts desk turns →
      Watched Came (get_or desk.seats (console - 1) None) (get_or desk.failed (console - 1) false) events w →
      Watched Came (get_or (desk_behind texts desk turns).seats (console - 1) None) (get_or (desk_behind texts desk turns).failed (console - 1) false)
      (events ++ events_at console (events_in (events_of_turns n texts desk turns))) (all_watched console n texts desk turns w)
  heard_turns n texts desk [] behind events w left at lawful h =
      subst (λ (l : List Event). Watched Came (get_or desk.seats (console - 1) None) (get_or desk.failed (console - 1) false) l w) (sym (append-nil events)) h
  heard_turns n texts desk (t ∷ turns) behind events w left at lawful h =
      let next = desk_after texts desk t.answers in
      let here = events_of_turn (1000 * n) texts desk t.answers in
      let rest = events_in (events_of_turns (suc n) t.shown next turns) in
      let w1 = watched console n texts desk t.answers w in
      let h1 = turn_step console Came came_still one n texts (1000 * n) t.shown desk t.answers events w lawful.0 (all_came n texts t (turns ++ behind) left at) h in
      subst (λ (l : List Event). Watched Came (get_or (desk_behind t.shown next turns).seats (console - 1) None) (get_or (desk_behind t.shown next turns).failed (console - 1) false) l (all_watched console (suc n) t.shown next turns w1))
      (append_assoc events (events_at console here) (events_at console rest) ∙ ap (λ (l : List Event). events ++ l) (sym (at_both console here rest)))
      (heard_turns (suc n) t.shown next turns behind (events ++ events_at console here) w1 (left_next n t (turns ++ behind) all left) (texts_next n start t (turns ++ behind) all left) lawful.1.1 h1)

  -- what passes over its connections
  pub kept_turns : (n : ℕ) (texts : List (List ℕ)) (desk : Desk) (turns behind : List TurnSeen) (a b : LinkSeen) (events : List Event) (w : Watch) → turns ++ behind ≡ drop n all → texts ≡ texts_behind start (take n all) → AreTurns texts desk turns →
      texts_behind texts turns ≡ texts_behind start all → a.tells ≡ true → DidAll (calls_of_turns texts desk turns) a b →
      Watched Came (get_or desk.seats (console - 1) None) (get_or desk.failed (console - 1) false) events w → Kept console (get_or (texts_behind start all) (console - 1) []) a desk.seats w →
      Kept console (get_or (texts_behind start all) (console - 1) []) b (desk_behind texts desk turns).seats (all_watched console n texts desk turns w)
  kept_turns n texts desk [] behind a b events w left at lawful whole tells (Nothing _) h k = k
  kept_turns n texts desk (t ∷ turns) behind a b events w left at lawful whole tells did h k =
      let next = desk_after texts desk t.answers in
      let here = events_of_turn (1000 * n) texts desk t.answers in
      let w1 = watched console n texts desk t.answers w in
      let h1 = turn_step console Came came_still one n texts (1000 * n) t.shown desk t.answers events w lawful.0 (all_came n texts t (turns ++ behind) left at) h in
      let parts = did_split (calls_of_turn texts desk t.answers) (calls_of_turns t.shown next turns) a b did in
      let i = console - 1 in
      let last = get_or (texts_behind start all) i [] in
      let grown : Grows (get_or texts i []) last = subst (λ (l : List (List ℕ)). Grows (get_or texts i []) (get_or l i [])) whole (grows_behind i texts desk (t ∷ turns) lawful) in
      let grown_next : Grows (get_or t.shown i []) last = subst (λ (l : List (List ℕ)). Grows (get_or t.shown i []) (get_or l i [])) whole (grows_behind i t.shown next turns lawful.1.1) in
      let k1 = kept_turn console last one n texts grown t.shown desk t.answers a parts.0 w grown_next tells lawful.0 parts.1 h.now k in
      kept_turns (suc n) t.shown next turns behind parts.0 b (events ++ events_at console here) w1 (left_next n t (turns ++ behind) all left) (texts_next n start t (turns ++ behind) all left) lawful.1.1 whole
      (tells_still (calls_of_turn texts desk t.answers) a parts.0 tells parts.1) parts.2 h1 k1

-- all visits, in order

abbrev as_list : Option Visit → List Visit
as_list None = []
as_list (Some v) = v ∷ []

abbrev pub nothing_watched : Watch
nothing_watched = record { past = []; now = None }

not_over : (seat : Option Talk) (lost : Bool) (v : Visit) → IsNow seat lost (Some v) → v.hung ≡ false
not_over None true v h = h
not_over None false v h = absurd h
not_over (Some t) true v h = absurd h
not_over (Some t) false v h = h.hung

said_is : (seat : Option Talk) (lost : Bool) (now : Option Visit) → IsNow seat lost now → said now ≡ flat_map events_of_visit (as_list now)
said_is seat lost None h = refl
said_is seat lost (Some v) h =
    ap (λ (l : List Event). Dial ∷ l) (sym (append-nil (items_from [] v.bytes)) ∙ ap (λ (t : Bool). items_from [] v.bytes ++ if_over t (Hang ∷ [])) (sym (not_over seat lost v h)))
    ∙ sym (append-nil (events_of_visit v))

in_order : (past : List Visit) (now : Option Visit) → All (λ (v : Visit). v.hung ≡ true) past → OneAtATime (past ++ as_list now)
in_order [] None h = tt
in_order [] (Some v) h = tt
in_order (u ∷ []) None h = tt
in_order (u ∷ []) (Some v) h = (h 0 u (omega arith), tt)
in_order (u ∷ v ∷ past) now h = (h 0 u (omega arith), in_order (v ∷ past) now (λ k d lt. h (suc k) d (omega (arith, lt))))

all_visits : (P : Visit → Type 0) (past : List Visit) (now : Option Visit) → All P past → OnNow P now → All P (past ++ as_list now)
all_visits P past None h k = All-append P past [] h (All-nil P)
all_visits P past (Some v) h k = All-append P past (v ∷ []) h (All-cons P v [] k (All-nil P))

now_more : (P Q : Visit → Type 0) (o : Option Visit) → ((v : Visit) → P v → Q v) → OnNow P o → OnNow Q o
now_more P Q None f h = tt
now_more P Q (Some v) f h = f v h

abbrev no_talk : Option Talk
no_talk = None

pub none_at : (n i : ℕ) → get_or (replicate n no_talk) i None ≡ None
none_at zero i = refl
none_at (suc n) zero = refl
none_at (suc n) (suc i) = none_at n i

pub none_lost : (n i : ℕ) → get_or (replicate n false) i false ≡ false
none_lost zero i = refl
none_lost (suc n) zero = refl
none_lost (suc n) (suc i) = none_lost n i

pub nothing_heard : (P : Visit → Type 0) → Watched P None false [] nothing_watched
nothing_heard P = record { hung = All-nil (λ (v : Visit). v.hung ≡ true); heard = refl; now = tt; places = All-nil P; place = tt }

pub nothing_kept : (console : ℕ) (whole : List ℕ) (s : LinkSeen) (desk : Desk) → desk.seats ≡ replicate 32 None → Kept console whole s desk.seats nothing_watched
nothing_kept console whole s desk free =
    record {
      given = λ j. subst (OnSeat (WasGiven s)) (sym (ap (λ (l : List (Option Talk)). get_or l j None) free ∙ none_at 32 j)) tt;
      past = All-nil (IsOver console whole s desk.seats);
      now = tt;
    }

-- the visits of a console that is watched

abbrev pub visits_of : Watch → List Visit
visits_of w = w.past ++ as_list w.now

pub all_heard : (P : Visit → Type 0) (seat : Option Talk) (lost : Bool) (events : List Event) (w : Watch) → Watched P seat lost events w → events ≡ flat_map events_of_visit (visits_of w)
all_heard P seat lost events w h = h.heard ∙ ap (λ (l : List Event). flat_map events_of_visit w.past ++ l) (said_is seat lost w.now h.now) ∙ sym (fm_both w.past (as_list w.now))

pub all_in_order : (P : Visit → Type 0) (seat : Option Talk) (lost : Bool) (events : List Event) (w : Watch) → Watched P seat lost events w → OneAtATime (visits_of w)
all_in_order P seat lost events w h = in_order w.past w.now h.hung

pub all_places : (P : Visit → Type 0) (seat : Option Talk) (lost : Bool) (events : List Event) (w : Watch) → Watched P seat lost events w → All P (visits_of w)
all_places P seat lost events w h = all_visits P w.past w.now h.places h.place

pub all_taken : (console : ℕ) (whole : List ℕ) (b : LinkSeen) (seats : List (Option Talk)) (w : Watch) → Kept console whole b seats w → All (λ (v : Visit). (b.passed v.id).taken ≡ v.bytes) (visits_of w)
all_taken console whole b seats w k =
    all_visits (λ (v : Visit). (b.passed v.id).taken ≡ v.bytes) w.past w.now
    (λ j d lt. (k.past j d lt).carried.taken) (now_more (IsOn console whole b seats) (λ (v : Visit). (b.passed v.id).taken ≡ v.bytes) w.now (λ v on. on.carried.taken) k.now)

pub all_sent : (console : ℕ) (whole : List ℕ) (b : LinkSeen) (seats : List (Option Talk)) (w : Watch) → Kept console whole b seats w →
    All (λ (v : Visit). IsSentFrom v.place whole (b.passed v.id).sent) (visits_of w)
all_sent console whole b seats w k =
    all_visits (λ (v : Visit). IsSentFrom v.place whole (b.passed v.id).sent) w.past w.now
    (λ j d lt. sent_from _ whole _ (k.past j d lt).carried.sent)
    (now_more (IsOn console whole b seats) (λ (v : Visit). IsSentFrom v.place whole (b.passed v.id).sent) w.now (λ v on. sent_from v.place whole (b.passed v.id).sent on.carried.sent) k.now)

-- those of whose end the core heard are those that are over
pub all_ended : (P : Visit → Type 0) (calls : List Done) (seat : Option Talk) (lost : Bool) (events : List Event) (w : Watch) → Watched P seat lost events w → All (HasEnded calls) w.past → HaveEnded calls (visits_of w)
all_ended P calls seat lost events w h ends = all_visits Ends w.past w.now (λ k d lt is. ends k d lt) (by_now w.now h.now)
  where
    Ends : Visit → Type 0
    Ends v = v.hung ≡ true → list_any (ends_it v.id) calls ≡ true

    by_now : (now : Option Visit) → IsNow seat lost now → OnNow Ends now
    by_now None fits = tt
    by_now (Some v) fits = λ is. false_is (sym is ∙ not_over seat lost v fits)

pub all_since : (P : Visit → Type 0) (calls : List (List Done)) (seat : Option Talk) (lost : Bool) (events : List Event) (w : Watch) → Watched P seat lost events w → Ends calls false w → EndsAreHeard calls (visits_of w)
all_since P calls seat lost events w h ends = all_visits Tells w.past w.now (λ k d lt. h.hung k d lt ∙ sym (ends.past k d lt)) (by_now w.now h.now ends.now)
  where
    Tells : Visit → Type 0
    Tells v = v.hung ≡ ended_since calls v

    by_now : (now : Option Visit) → IsNow seat lost now → OnNow (λ (v : Visit). (v.turn ≤ length calls) × (ended_since calls v ≡ false)) now → OnNow Tells now
    by_now None fits k = tt
    by_now (Some v) fits k = not_over seat lost v fits ∙ sym k.1

-- no connection is open yet
pub none_open : (f : ℕ → Bool) (n : ℕ) → AreOpen f (replicate n no_talk)
none_open f zero = tt
none_open f (suc n) = (tt, none_open f n)

pub none_since : (lost : Bool) → Ends [] lost nothing_watched
none_since lost = record { past = All-nil (HasEndedSince []); now = tt }

-- nothing is heard yet of a desk without connections
pub nothing_at : (P : Visit → Type 0) (i : ℕ) (desk : Desk) → desk.seats ≡ replicate 32 None → desk.failed ≡ replicate 32 false → Watched P (get_or desk.seats i None) (get_or desk.failed i false) [] nothing_watched
nothing_at P i desk free unlost =
    let seat : get_or desk.seats i None ≡ None = ap (λ (l : List (Option Talk)). get_or l i None) free ∙ none_at 32 i in
    let lost : get_or desk.failed i false ≡ false = ap (λ (l : List Bool). get_or l i false) unlost ∙ none_lost 32 i in
    subst (λ (o : Option Talk). Watched P o (get_or desk.failed i false) [] nothing_watched) (sym seat)
    (subst (λ (l : Bool). Watched P None l [] nothing_watched) (sym lost) (nothing_heard P))

-- the core heard of those that ended, but for the last turn's writes
ends_heard : (console : ℕ) (one : 1 ≤ console) (texts : List (List ℕ)) (desk : Desk) (turns : List TurnSeen) (a b : LinkSeen) (P : Visit → Type 0) (seat : Option Talk) (lost : Bool) (events : List Event) →
    desk.seats ≡ replicate 32 None → desk.failed ≡ replicate 32 false → AreTurns texts desk turns → DidAll (calls_of_turns texts desk turns) a b → Watched P seat lost events (all_watched console 0 texts desk turns nothing_watched) →
    EndsAreHeard (calls_heard_of texts desk turns) (visits_of (all_watched console 0 texts desk turns nothing_watched))
ends_heard console one texts desk [] a b P seat lost events free unlost lawful did h = All-nil (λ (v : Visit). v.hung ≡ ended_since [] v)
ends_heard console one texts desk (t ∷ turns) a b P seat lost events free unlost lawful did h =
    all_since P (calls_heard_of texts desk (t ∷ turns)) seat lost events (all_watched console 0 texts desk (t ∷ turns) nothing_watched) h
    (since_last console one 0 texts desk t turns [] [] nothing_watched a b refl lawful did (subst (AreOpen a.is_open) (sym free) (none_open a.is_open 32)) (nothing_at AnyVisit (console - 1) desk free unlost)
    (none_since (get_or desk.failed (console - 1) false)))

pub events_are_visits : EventsAreVisits
events_are_visits console texts desk turns a b one free unlost lawful did =
    let i = console - 1 in
    let whole = get_or (texts_behind texts turns) i [] in
    let P = Came console one texts turns in
    let start : Watched P (get_or desk.seats i None) (get_or desk.failed i false) [] nothing_watched = nothing_at P i desk free unlost in
    let w = all_watched console 0 texts desk turns nothing_watched in
    let events = events_in (events_of_turns 0 texts desk turns) in
    let seats = (desk_behind texts desk turns).seats in
    let seat = get_or seats i None in
    let lost = get_or (desk_behind texts desk turns).failed i false in
    let here : turns ++ [] ≡ turns = append-nil turns in
    let ends : All (HasEnded (calls_of_turns texts desk turns)) w.past =
    (ended_turns console one 0 texts desk turns [] [] nothing_watched lawful (any_watched P (get_or desk.seats i None) (get_or desk.failed i false) [] nothing_watched start) (none_ended (get_or desk.failed i false))).past in
    let h : Watched P seat lost (events_at console events) w = heard_turns console one texts turns 0 texts desk turns [] [] nothing_watched here refl lawful start in
    let kept : b.tells ≡ true → Kept console whole b seats w = λ tells.
    kept_turns console one texts turns 0 texts desk turns [] a b [] nothing_watched here refl lawful refl (sym (tells_same (calls_of_turns texts desk turns) a b did) ∙ tells) did start (nothing_kept console whole a desk free) in (
      visits_of w,
      record {
        heard = all_heard P seat lost (events_at console events) w h;
        order = all_in_order P seat lost (events_at console events) w h;
        places = λ k d lt. (all_places P seat lost (events_at console events) w h k d lt).place;
        taken = λ tells. all_taken console whole b seats w (kept tells);
        sent = λ tells. all_sent console whole b seats w (kept tells);
      },
      λ k d lt. (all_places P seat lost (events_at console events) w h k d lt).number,
      all_ended P (calls_of_turns texts desk turns) seat lost (events_at console events) w h ends,
      ends_heard console one texts desk turns a b P seat lost (events_at console events) free unlost lawful did h,
    )
