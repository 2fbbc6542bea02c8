-- One more turn behind others.
use Rattle.std.specs.Prelude.{map, length, take, None}
use Rattle.std.specs.List.{AllZip}
use Rattle.std.proofs.Common.{◌≡◌, ℕ, zero, suc, ◌+◌, ◌*◌, ◌<◌, ◌≤◌, List, [], ◌∷◌, ◌++◌, refl, sym, ◌∙◌, ap, subst, arith, ◌⊎◌, inl, inr, length-append}
use Rattle.std.proofs.lemmas.List.{append_assoc, append-nil, take-append-le, take_all}
use Rattle.ctss_types.specs.declared.script.Timed.{Timed}
use Rattle.console_link.specs.Links.{LinkSeen, Done}
use Rattle.console_server.specs.declared.fault.ServeFault.{ServeFault}
use Rattle.live_core.specs.Core.{CoreSeen, CoreCall, Took, Went, Grows}
use Rattle.console_server.specs.Readings.{DidAll, Nothing}
use Rattle.console_server.specs.Turns.{Desk, IsTurn, calls_of_turn, events_of_turn, desk_after}
use Rattle.console_server.specs.Seats.{StandAll}
use Rattle.console_server.specs.History.{heard_in, events_in}
use Rattle.console_server.specs.Server.{ServerState, IsDeskOf, TurnIsDone, TurnIsCut, IsCutTurn, calls_until, ends_with}
use Rattle.console_server.specs.Conversation.{TurnSeen, AreTurns, calls_of_turns, events_of_turns, desk_behind, texts_behind, HasShown, AreShown, TurnsAreDone, TurnsAreCut}
use Rattle.console_server.proofs.Following.{did_both}

plus_none : (m : ℕ) → m ≡ m + 0
plus_none m = omega arith

plus_suc : (a b : ℕ) → suc a + b ≡ a + suc b
plus_suc a b = omega arith

heard_end : (n : ℕ) (given : List (List Timed)) (es : List Timed) → heard_in n (given ++ es ∷ []) ≡ heard_in n given ++ (map Took es ++ Went (1000 * (n + length given + 1)) None ∷ [])
heard_end n [] es = ap (λ (k : ℕ). map Took es ++ Went (1000 * (k + 1)) None ∷ []) (plus_none n)
heard_end n (x ∷ given) es =
    ap (λ (l : List CoreCall). map Took x ++ Went (1000 * (n + 1)) None ∷ l) (heard_end (suc n) given es ∙ ap (λ (k : ℕ). heard_in (suc n) given ++ (map Took es ++ Went (1000 * (k + 1)) None ∷ [])) (plus_suc n (length given)))
    ∙ sym (append_assoc (map Took x) (Went (1000 * (n + 1)) None ∷ heard_in (suc n) given) (map Took es ++ Went (1000 * (n + length (x ∷ given) + 1)) None ∷ []))

events_end : (given : List (List Timed)) (es : List Timed) → events_in (given ++ es ∷ []) ≡ events_in given ++ es
events_end [] es = append-nil es
events_end (x ∷ given) es = ap (λ (l : List Timed). x ++ l) (events_end given es) ∙ sym (append_assoc x (events_in given) es)

-- what one turn more adds to the texts, the desk, the calls and the events
pub texts_end : (texts : List (List ℕ)) (turns : List TurnSeen) (t : TurnSeen) → texts_behind texts (turns ++ t ∷ []) ≡ t.shown
texts_end texts [] t = refl
texts_end texts (u ∷ turns) t = texts_end u.shown turns t

desk_end : (texts : List (List ℕ)) (desk : Desk) (turns : List TurnSeen) (t : TurnSeen) →
    desk_behind texts desk (turns ++ t ∷ []) ≡ desk_after (texts_behind texts turns) (desk_behind texts desk turns) t.answers
desk_end texts desk [] t = refl
desk_end texts desk (u ∷ turns) t = desk_end u.shown (desk_after texts desk u.answers) turns t

calls_end : (texts : List (List ℕ)) (desk : Desk) (turns : List TurnSeen) (t : TurnSeen) →
    calls_of_turns texts desk (turns ++ t ∷ []) ≡ calls_of_turns texts desk turns ++ calls_of_turn (texts_behind texts turns) (desk_behind texts desk turns) t.answers
calls_end texts desk [] t = append-nil (calls_of_turn texts desk t.answers)
calls_end texts desk (u ∷ turns) t =
    let here = calls_of_turn texts desk u.answers in
    let after = desk_after texts desk u.answers in
    ap (λ (l : List Done). here ++ l) (calls_end u.shown after turns t)
    ∙ sym (append_assoc here (calls_of_turns u.shown after turns) (calls_of_turn (texts_behind u.shown turns) (desk_behind u.shown after turns) t.answers))

turns_end : (n : ℕ) (texts : List (List ℕ)) (desk : Desk) (turns : List TurnSeen) (t : TurnSeen) →
    events_of_turns n texts desk (turns ++ t ∷ []) ≡ events_of_turns n texts desk turns ++ events_of_turn (1000 * (n + length turns)) (texts_behind texts turns) (desk_behind texts desk turns) t.answers ∷ []
turns_end n texts desk [] t = ap (λ (k : ℕ). events_of_turn (1000 * k) texts desk t.answers ∷ []) (plus_none n)
turns_end n texts desk (u ∷ turns) t =
    let after = desk_after texts desk u.answers in
    ap (λ (l : List (List Timed)). events_of_turn (1000 * n) texts desk u.answers ∷ l)
    (turns_end (suc n) u.shown after turns t
    ∙ ap (λ (k : ℕ). events_of_turns (suc n) u.shown after turns ++ events_of_turn (1000 * k) (texts_behind u.shown turns) (desk_behind u.shown after turns) t.answers ∷ []) (plus_suc n (length turns)))

turns_long : (n : ℕ) (texts : List (List ℕ)) (desk : Desk) (turns : List TurnSeen) → length (events_of_turns n texts desk turns) ≡ length turns
turns_long n texts desk [] = refl
turns_long n texts desk (u ∷ turns) = ap suc (turns_long (suc n) u.shown (desk_after texts desk u.answers) turns)

lawful_end : (texts : List (List ℕ)) (desk : Desk) (turns : List TurnSeen) (t : TurnSeen) → AreTurns texts desk turns →
    IsTurn (texts_behind texts turns) t.shown (desk_behind texts desk turns) t.answers → AllZip Grows (texts_behind texts turns) t.shown → AreTurns texts desk (turns ++ t ∷ [])
lawful_end texts desk [] t before here grows = (here, (grows, tt))
lawful_end texts desk (u ∷ turns) t before here grows = (before.0, (before.1.0, lawful_end u.shown (desk_after texts desk u.answers) turns t before.1.1 here grows))

module _ {C L : Type 0} (goes : C → List CoreCall → C → Type 0) (none : (a : C) → goes a [] a) (on : (a b c : C) (hs gs : List CoreCall) → goes a hs b → goes b gs c → goes a (hs ++ gs) c) (see : C → CoreSeen) (look : L → LinkSeen) where
  abbrev no_events : List (List Timed)
  no_events = []

  abbrev no_turns : List TurnSeen
  no_turns = []

  -- before the first turn the texts are those of the core itself
  shown_none : (o : C) → AreShown goes see o no_events (see o).texts no_turns
  shown_none o zero le = (o, none o, refl)
  shown_none o (suc k) le = (o, none o, refl)

  -- one turn more: the texts up to it are those of before, and the last are those of the core behind it
  shown_more : (o q : C) (given : List (List Timed)) (es : List Timed) (texts : List (List ℕ)) (turns : List TurnSeen) (t : TurnSeen) → length given ≡ length turns → AreShown goes see o given texts turns →
      goes o (heard_in 0 (given ++ es ∷ [])) q → (see q).texts ≡ t.shown → AreShown goes see o (given ++ es ∷ []) texts (turns ++ t ∷ [])
  shown_more o q given es texts turns t many before here is k le = by_place (decide k (length turns))
    where
      decide : (a b : ℕ) → (a ≤ b) ⊎ (b < a)
      decide a b = grind arith

      Goal : List (List Timed) → List TurnSeen → Type 0
      Goal gs ts = HasShown goes see o (heard_in 0 gs) (texts_behind texts ts)

      by_place : (k ≤ length turns) ⊎ (length turns < k) → Goal (take k (given ++ es ∷ [])) (take k (turns ++ t ∷ []))
      by_place (inl lt) =
          subst (λ (ts : List TurnSeen). Goal (take k (given ++ es ∷ [])) ts) (sym (take-append-le k turns (t ∷ []) lt))
          (subst (λ (gs : List (List Timed)). Goal gs (take k turns)) (sym (take-append-le k given (es ∷ []) (omega (arith, many, lt)))) (before k lt))
      by_place (inr gt) =
          subst (λ (ts : List TurnSeen). Goal (take k (given ++ es ∷ [])) ts) (sym (take_all k (turns ++ t ∷ []) (omega (arith, length-append turns (t ∷ []), gt))))
          (subst (λ (gs : List (List Timed)). Goal gs (turns ++ t ∷ [])) (sym (take_all k (given ++ es ∷ []) (omega (arith, length-append given (es ∷ []), many, gt))))
          (q, here, is ∙ sym (texts_end texts turns t)))

  pub turns_none : (desk : Desk) (o : ServerState C L) → IsDeskOf o desk → TurnsAreDone goes see look 0 desk o o
  turns_none desk o d = record {
    turns = [];
    many = refl;
    lawful = tt;
    link = Nothing (look o.link.now);
    core = none o.core;
    noted = sym (append-nil o.events);
    shown = refl;
    each = shown_none o.core;
    seats = d.seats;
    failed = sym d.failed;
  }

  -- the desk after the turns that were done is that of the tasks and flags
  pub desk_is : (n : ℕ) (desk : Desk) (o p : ServerState C L) → (s : TurnsAreDone goes see look n desk o p) → IsDeskOf p (desk_behind (see o.core).texts desk s.turns)
  desk_is n desk o p s = record { seats = s.seats; failed = sym s.failed }

  pub turns_more : (n : ℕ) (desk : Desk) (o p q : ServerState C L) → (s : TurnsAreDone goes see look n desk o p) → TurnIsDone goes see look n (desk_behind (see o.core).texts desk s.turns) p q →
      TurnsAreDone goes see look (n + 1) desk o q
  turns_more n desk o p q s d =
      let texts = (see o.core).texts in
      let here = desk_behind texts desk s.turns in
      let t : TurnSeen = record { answers = d.turn; shown = (see q.core).texts } in
      let given = events_of_turns 0 texts desk s.turns in
      let es = events_of_turn (1000 * n) (texts_behind texts s.turns) here d.turn in
      let number : 0 + length s.turns ≡ n = omega (arith, s.many) in
      let events : events_of_turns 0 texts desk (s.turns ++ t ∷ []) ≡ given ++ es ∷ [] =
      turns_end 0 texts desk s.turns t ∙ ap (λ (k : ℕ). given ++ events_of_turn (1000 * k) (texts_behind texts s.turns) here d.turn ∷ []) number in
      let place : 0 + length given ≡ n = omega (arith, turns_long 0 texts desk s.turns, s.many) in
      let calls : heard_in 0 (events_of_turns 0 texts desk (s.turns ++ t ∷ [])) ≡ heard_in 0 given ++ (map Took es ++ Went (1000 * (n + 1)) None ∷ []) =
      ap (heard_in 0) events ∙ heard_end 0 given es ∙ ap (λ (k : ℕ). heard_in 0 given ++ (map Took es ++ Went (1000 * (k + 1)) None ∷ [])) place in
      let core : goes p.core (map Took es ++ Went (1000 * (n + 1)) None ∷ []) q.core =
      subst (λ (ts : List (List ℕ)). goes p.core (map Took (events_of_turn (1000 * n) ts here d.turn) ++ Went (1000 * (n + 1)) None ∷ []) q.core) s.shown d.core in
      let all_core : goes o.core (heard_in 0 (events_of_turns 0 texts desk (s.turns ++ t ∷ []))) q.core = subst (λ (l : List CoreCall). goes o.core l q.core) (sym calls) (on o.core p.core q.core _ _ s.core core) in
      let noted : q.events ≡ p.events ++ es = subst (λ (ts : List (List ℕ)). q.events ≡ p.events ++ events_of_turn (1000 * n) ts here d.turn) s.shown d.noted in
      record {
        turns = s.turns ++ t ∷ [];
        many = length-append s.turns (t ∷ []) ∙ ap (λ (k : ℕ). k + 1) s.many;
        lawful = lawful_end texts desk s.turns t s.lawful (subst (λ (ts : List (List ℕ)). IsTurn ts t.shown here d.turn) s.shown d.lawful) (subst (λ (ts : List (List ℕ)). AllZip Grows ts t.shown) s.shown d.went.texts);
        link = subst (λ (ds : List Done). DidAll ds (look o.link.now) (look q.link.now)) (sym (calls_end texts desk s.turns t))
            (did_both _ _ _ _ _ s.link (subst (λ (ts : List (List ℕ)). DidAll (calls_of_turn ts here d.turn) (look p.link.now) (look q.link.now)) s.shown d.link));
        core = all_core;
        noted = noted ∙ ap (λ (l : List Timed). l ++ es) s.noted ∙ append_assoc o.events (events_in given) es ∙ ap (λ (l : List Timed). o.events ++ l) (sym (ap events_in events ∙ events_end given es));
        shown = sym (texts_end texts s.turns t);
        each = subst (λ (l : List (List Timed)). AreShown goes see o.core l texts (s.turns ++ t ∷ [])) (sym events)
            (shown_more o.core q.core given es texts s.turns t (turns_long 0 texts desk s.turns) s.each (subst (λ (l : List (List Timed)). goes o.core (heard_in 0 l) q.core) events all_core) refl);
        seats = subst (λ (k : Desk). StandAll q.seats k.seats) (sym (desk_end texts desk s.turns t)) (subst (λ (ts : List (List ℕ)). StandAll q.seats (desk_after ts here d.turn).seats) s.shown d.seats_are);
        failed = subst (λ (k : Desk). q.failed ≡ k.failed) (sym (desk_end texts desk s.turns t)) (subst (λ (ts : List (List ℕ)). q.failed ≡ (desk_after ts here d.turn).failed) s.shown d.failed_are);
      }

  -- the turn behind those that were done failed
  pub turns_cut : (n count : ℕ) (desk : Desk) (fault : ServeFault) (o p q : ServerState C L) → n < count → (s : TurnsAreDone goes see look n desk o p) → TurnIsCut goes see look n (desk_behind (see o.core).texts desk s.turns) fault p q →
      TurnsAreCut goes see look count desk fault o q
  turns_cut n count desk fault o p q lt s d =
      let texts = (see o.core).texts in
      let here = desk_behind texts desk s.turns in
      let now = texts_behind texts s.turns in
      let cut : IsCutTurn n now here d.answers d.at fault d.events = subst (λ (ts : List (List ℕ)). IsCutTurn n ts here d.answers d.at fault d.events) s.shown d.cut in
      let link : DidAll (calls_until now here d.answers d.at) (look p.link.now) (look q.link.now) =
      subst (λ (ts : List (List ℕ)). DidAll (calls_until ts here d.answers d.at) (look p.link.now) (look q.link.now)) s.shown d.link in
      let part : d.events ≡ take (length d.events) (events_of_turn (1000 * n) now here d.answers) =
      subst (λ (ts : List (List ℕ)). d.events ≡ take (length d.events) (events_of_turn (1000 * n) ts here d.answers)) s.shown d.part in
      record {
        turns = s.turns;
        few = omega (arith, s.many, lt);
        lawful = s.lawful;
        each = s.each;
        answers = d.answers;
        at = d.at;
        events = d.events;
        cut = subst (λ (k : ℕ). IsCutTurn k now here d.answers d.at fault d.events) (sym s.many) cut;
        link = did_both (calls_of_turns texts desk s.turns) (calls_until now here d.answers d.at) (look o.link.now) (look p.link.now) (look q.link.now) s.link link;
        part = subst (λ (k : ℕ). d.events ≡ take (length d.events) (events_of_turn (1000 * k) now here d.answers)) (sym s.many) part;
        core = subst (λ (k : ℕ). goes o.core (heard_in 0 (events_of_turns 0 texts desk s.turns) ++ (map Took d.events ++ ends_with k fault d.at)) q.core) (sym s.many) (on o.core p.core q.core _ _ s.core d.core);
        noted = d.noted ∙ ap (λ (l : List Timed). l ++ d.events) s.noted;
      }
