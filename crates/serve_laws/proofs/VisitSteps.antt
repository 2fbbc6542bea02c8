-- What a turn adds to a console's visits.
use Rattle.std.specs.Prelude.{Bool, true, false, nat_eq, if◌then◌else◌, get_or, Option, Some, None}
use Rattle.std.specs.List.{All, flat_map}
use Rattle.std.proofs.Common.{◌≡◌, ◌≢◌, ℕ, suc, ◌+◌, ◌-◌, ◌≤◌, List, [], ◌∷◌, ◌++◌, refl, sym, ◌∙◌, ap, subst, arith}
use Rattle.std.proofs.lemmas.List.{append_assoc, append-nil}
use Rattle.std.proofs.lemmas.List.Elements.{All-append, All-cons, All-nil}
use Rattle.ctss_types.specs.declared.script.Event.{Event}
use Rattle.ctss_types.specs.declared.script.Event.TheVariants.{Dial, Hang}
use Rattle.console_wire.specs.Items.{items_from, piece_from}
use Rattle.console_wire.proofs.Cuts.{items_of_both, piece_of_both}
use Rattle.console_server.specs.Readings.{Gave, bytes_of, timed, all_timed}
use Rattle.console_server.specs.Turns.{Talk, Desk, TurnAnswers, IsTurn, Wrote, IsToldOf, if_over, talk_of, events_heard, all_events_heard, seat_after, free_from, put_first, seats_with, dial, dials, seated, seat_told, hangs, seats_to_read, seats_to_write, events_of_turn, desk_after}
use Rattle.console_server.specs.Visits.{Visit, events_of_visit, events_at}
use Rattle.serve_laws.proofs.Watching.{Watch, hung, ended, ended_if, new_visit, come, all_come, with_bytes, read, read_at, heard_at, watched, none_told, said, IsNow, OnNow, Watched}
use Rattle.serve_laws.proofs.AtConsole.{same_of, not_same, some_is, none_is, number_of, at_both, all_here, hang_if, hangs_at, heard_there, seat_heard, seat_sent, told_lawful, lost_at, free_seat, put_here, put_there, dial_here, dial_there}

pub fm_both : (xs ys : List Visit) → flat_map events_of_visit (xs ++ ys) ≡ flat_map events_of_visit xs ++ flat_map events_of_visit ys
fm_both [] ys = refl
fm_both (x ∷ xs) ys = ap (λ (l : List Event). events_of_visit x ++ l) (fm_both xs ys) ∙ sym (append_assoc (events_of_visit x) (flat_map events_of_visit xs) (flat_map events_of_visit ys))

all_one : (P : Visit → Type 0) (v : Visit) → P v → All P (v ∷ [])
all_one P v h = All-cons P v [] h (All-nil P)

items_none : items_from [] [] ≡ []
unfolding items_from
items_none = refl

piece_none : piece_from [] [] ≡ []
unfolding piece_from
piece_none = refl

module _ (console : ℕ) (P : Visit → Type 0) (keeps : (v w : Visit) → v.id ≡ w.id → v.turn ≡ w.turn → v.place ≡ w.place → P v → P w) where
  -- its end is heard
  is_ended : (events : List Event) (past : List Visit) (v : Visit) → All (λ (x : Visit). x.hung ≡ true) past → events ≡ flat_map events_of_visit past ++ said (Some v) → All P past → P v → Watched P None false (events ++ Hang ∷ []) (ended past (Some v))
  is_ended events past v all is places place =
      record {
        hung = All-append (λ (x : Visit). x.hung ≡ true) past (hung v ∷ []) all (all_one (λ (x : Visit). x.hung ≡ true) (hung v) refl);
        heard = ap (λ (l : List Event). l ++ Hang ∷ []) is
            ∙ append_assoc (flat_map events_of_visit past) (said (Some v)) (Hang ∷ [])
            ∙ sym (append-nil (flat_map events_of_visit (past ++ hung v ∷ [])) ∙ fm_both past (hung v ∷ []) ∙ ap (λ (l : List Event). flat_map events_of_visit past ++ l) (append-nil (events_of_visit (hung v))));
        now = tt;
        places = All-append P past (hung v ∷ []) places (all_one P (hung v) (keeps v (hung v) refl refl refl place));
        place = tt;
      }

  -- the last turn's writes lost it
  pub hang_step : (seat : Option Talk) (lost : Bool) (events : List Event) (w : Watch) → Watched P seat lost events w → Watched P seat false (events ++ hang_if lost) (ended_if lost w)
  hang_step seat false events w h = record { hung = h.hung; heard = append-nil events ∙ h.heard; now = h.now; places = h.places; place = h.place }
  hang_step None true events w h = by_now w.now refl h.now h.heard h.place
    where
      by_now : (now : Option Visit) → w.now ≡ now → IsNow None true now → events ≡ flat_map events_of_visit w.past ++ said now → OnNow P now → Watched P None false (events ++ Hang ∷ []) (ended w.past w.now)
      by_now None is fits heard place = absurd fits
      by_now (Some v) is fits heard place = subst (λ (o : Option Visit). Watched P None false (events ++ Hang ∷ []) (ended w.past o)) (sym is) (is_ended events w.past v h.hung heard h.places place)
  hang_step (Some t) true events w h = absurd (by_now w.now h.now)
    where
      by_now : (now : Option Visit) → IsNow (Some t) true now → ⊥
      by_now None fits = fits
      by_now (Some v) fits = fits

  -- it was read
  pub read_step : (tick : ℕ) (seat : Option Talk) (reads : List Gave) (over : Bool) (events : List Event) (w : Watch) → Watched P seat false events w →
      Watched P (seat_after seat reads over) false (events ++ events_at console (events_heard tick console seat reads over)) (read seat reads over w)
  read_step tick None reads over events w h = record { hung = h.hung; heard = append-nil events ∙ h.heard; now = h.now; places = h.places; place = h.place }
  read_step tick (Some t) reads over events w h = by_now w.now h.now h.heard h.place
    where
      items : List Event
      items = items_from t.piece (bytes_of reads)

      at_end : (over' : Bool) → events_at console (events_heard tick console (Some t) reads over') ≡ items ++ if_over over' (Hang ∷ [])
      at_end true = at_both console (all_timed tick console items) (timed tick console Hang ∷ []) ∙ (λ i. all_here console tick items i ++ all_here console tick (Hang ∷ []) i)
      at_end false = at_both console (all_timed tick console items) [] ∙ (λ i. all_here console tick items i ++ [])

      by_now : (now : Option Visit) → IsNow (Some t) false now → events ≡ flat_map events_of_visit w.past ++ said now → OnNow P now →
          Watched P (seat_after (Some t) reads over) false (events ++ events_at console (events_heard tick console (Some t) reads over)) (ended_if over (record { past = w.past; now = with_bytes (bytes_of reads) now }))
      by_now None fits heard place = absurd fits
      by_now (Some v) fits heard place = by_over over
        where
          more : Visit
          more = record v { bytes = v.bytes ++ bytes_of reads }

          heard_more : events ++ items ≡ flat_map events_of_visit w.past ++ said (Some more)
          heard_more =
              ap (λ (l : List Event). l ++ items) heard
              ∙ append_assoc (flat_map events_of_visit w.past) (said (Some v)) items
              ∙ ap (λ (l : List Event). flat_map events_of_visit w.past ++ (Dial ∷ l)) (ap (λ (p : List ℕ). items_from [] v.bytes ++ items_from p (bytes_of reads)) fits.piece ∙ sym (items_of_both [] v.bytes (bytes_of reads)))

          by_over : (o : Bool) → Watched P (seat_after (Some t) reads o) false (events ++ events_at console (events_heard tick console (Some t) reads o)) (ended_if o (record { past = w.past; now = Some more }))
          by_over true =
              subst (λ (l : List Event). Watched P None false l (ended w.past (Some more))) (append_assoc events items (Hang ∷ []) ∙ ap (λ (l : List Event). events ++ l) (sym (at_end true)))
              (is_ended (events ++ items) w.past more h.hung heard_more h.places (keeps v more refl refl refl place))
          by_over false =
              record {
                hung = h.hung;
                heard = ap (λ (l : List Event). events ++ l) (at_end false ∙ append-nil items) ∙ heard_more;
                now = record { hung = fits.hung; id = fits.id; piece = ap (λ (p : List ℕ). piece_from p (bytes_of reads)) fits.piece ∙ sym (piece_of_both [] v.bytes (bytes_of reads)) };
                places = h.places;
                place = keeps v more refl refl refl place;
              }

  -- its text was sent
  pub told_step : (text : List ℕ) (seat : Option Talk) (puts : List Wrote) (lost : Bool) (events : List Event) (w : Watch) → IsToldOf text seat puts lost → Watched P seat false events w → Watched P (seat_told seat puts lost) lost events w
  told_step text None puts lost events w lawful h = subst (λ (l : Bool). Watched P None l events w) (sym lawful.1) h
  told_step text (Some t) puts lost events w lawful h = record { hung = h.hung; heard = h.heard; now = by_now lost w.now h.now; places = h.places; place = h.place }
    where
      by_now : (l : Bool) (now : Option Visit) → IsNow (Some t) false now → IsNow (seat_told (Some t) puts l) l now
      by_now true None fits = fits
      by_now true (Some v) fits = fits.hung
      by_now false None fits = fits
      by_now false (Some v) fits = record { hung = fits.hung; id = fits.id; piece = fits.piece }

  module _ (one : 1 ≤ console) (turn : ℕ) (texts : List (List ℕ)) where
    -- one new connection
    come_step : (tick id : ℕ) (seats : List (Option Talk)) (events : List Event) (w : Watch) → P (new_visit console turn texts id) → Watched P (get_or seats (console - 1) None) false events w →
        Watched P (get_or (seats_with texts id seats) (console - 1) None) false (events ++ events_at console (dial tick (free_from 1 seats))) (come console turn texts (free_from 1 seats) id w)
    come_step tick id seats events w new h = by_free (free_from 1 seats) refl
      where
        seat : Option Talk
        seat = get_or seats (console - 1) None

        came : Watch → Watch
        came x = record x { now = Some (new_visit console turn texts id) }

        Goal : Option ℕ → Type 0
        Goal free = Watched P (get_or (put_first (talk_of texts free id) seats) (console - 1) None) false (events ++ events_at console (dial tick free)) (come console turn texts free id w)

        still : (t : Talk) → ((c : ℕ) → free_from 1 seats ≡ Some c → c ≢ 1 + (console - 1)) → Watched P (get_or (put_first t seats) (console - 1) None) false (events ++ []) w
        still t apart =
            subst (λ (s : Option Talk). Watched P s false (events ++ []) w) (sym (put_there 1 (console - 1) t seats apart))
            (record { hung = h.hung; heard = append-nil events ∙ h.heard; now = h.now; places = h.places; place = h.place })

        here : Watched P None false events w → Watched P (Some (talk_of texts (Some console) id)) false (events ++ Dial ∷ []) (record w { now = Some (new_visit console turn texts id) })
        here k = by_now w.now k.now k.heard
          where
            by_now : (now : Option Visit) → IsNow None false now → events ≡ flat_map events_of_visit w.past ++ said now → Watched P (Some (talk_of texts (Some console) id)) false (events ++ Dial ∷ []) (record w { now = Some (new_visit console turn texts id) })
            by_now None fits heard =
                record {
                  hung = h.hung;
                  heard = ap (λ (l : List Event). l ++ Dial ∷ []) (heard ∙ append-nil (flat_map events_of_visit w.past)) ∙ ap (λ (l : List Event). flat_map events_of_visit w.past ++ (Dial ∷ l)) (sym items_none);
                  now = record { hung = refl; id = refl; piece = sym piece_none };
                  places = h.places;
                  place = new;
                }
            by_now (Some v) fits heard = absurd fits

        by_free : (free : Option ℕ) → free_from 1 seats ≡ free → Goal free
        by_free None is = still (talk_of texts None id) (λ c some. none_is c (sym is ∙ some))
        by_free (Some c) is = by_test (nat_eq c console) refl
          where
            by_test : (t : Bool) → nat_eq c console ≡ t → Goal (Some c)
            by_test true e =
                let same_console : c ≡ console = same_of c console e in
                let free : get_or seats (console - 1) None ≡ None = free_seat 1 c (console - 1) seats is (same_console ∙ number_of console one) in
                let events_are : events_at console (dial tick (Some c)) ≡ Dial ∷ [] = ap (λ (n : ℕ). events_at console (dial tick (Some n))) same_console ∙ dial_here console tick in
                let seat_is : get_or (put_first (talk_of texts (Some c) id) seats) (console - 1) None ≡ Some (talk_of texts (Some console) id) =
                put_here 1 c (console - 1) (talk_of texts (Some c) id) seats is (same_console ∙ number_of console one) ∙ ap (λ (n : ℕ). Some (talk_of texts (Some n) id)) same_console in
                let watch_is : come console turn texts (Some c) id w ≡ came w = ap (λ (t : Bool). if t then came w else w) e in
                subst (λ (o : Option Talk). Watched P o false (events ++ events_at console (dial tick (Some c))) (come console turn texts (Some c) id w)) (sym seat_is)
                (subst (λ (l : List Event). Watched P (Some (talk_of texts (Some console) id)) false (events ++ l) (come console turn texts (Some c) id w)) (sym events_are)
                (subst (λ (x : Watch). Watched P (Some (talk_of texts (Some console) id)) false (events ++ Dial ∷ []) x) (sym watch_is)
                (here (subst (λ (o : Option Talk). Watched P o false events w) free h))))
            by_test false e =
                let apart : c ≢ console = not_same c console e in
                let elsewhere : (d : ℕ) → free_from 1 seats ≡ Some d → d ≢ 1 + (console - 1) = λ d some at. apart (some_is c d (sym is ∙ some) ∙ at ∙ sym (number_of console one)) in
                let watch_is : come console turn texts (Some c) id w ≡ w = ap (λ (t : Bool). if t then came w else w) e in
                subst (λ (l : List Event). Watched P (get_or (put_first (talk_of texts (Some c) id) seats) (console - 1) None) false (events ++ l) (come console turn texts (Some c) id w)) (sym (dial_there console c tick apart))
                (subst (λ (x : Watch). Watched P (get_or (put_first (talk_of texts (Some c) id) seats) (console - 1) None) false (events ++ []) x) (sym watch_is) (still (talk_of texts (Some c) id) elsewhere))

    -- all new connections of a turn
    all_come_step : (tick : ℕ) (seats : List (Option Talk)) (ids : List ℕ) (events : List Event) (w : Watch) → All (λ (id : ℕ). P (new_visit console turn texts id)) ids → Watched P (get_or seats (console - 1) None) false events w →
        Watched P (get_or (seated texts seats ids) (console - 1) None) false (events ++ events_at console (dials tick texts seats ids)) (all_come console turn texts seats ids w)
    all_come_step tick seats [] events w news h = subst (λ (l : List Event). Watched P (get_or seats (console - 1) None) false l w) (sym (append-nil events)) h
    all_come_step tick seats (id ∷ ids) events w news h =
        let first = dial tick (free_from 1 seats) in
        let rest = dials tick texts (seats_with texts id seats) ids in
        subst (λ (l : List Event). Watched P (get_or (seated texts (seats_with texts id seats) ids) (console - 1) None) false l (all_come console turn texts (seats_with texts id seats) ids (come console turn texts (free_from 1 seats) id w)))
        (append_assoc events (events_at console first) (events_at console rest) ∙ ap (λ (l : List Event). events ++ l) (sym (at_both console first rest)))
        (all_come_step tick (seats_with texts id seats) ids (events ++ events_at console first) (come console turn texts (free_from 1 seats) id w) (λ k d lt. news (suc k) d (omega (arith, lt))) (come_step tick id seats events w (news 0 id (omega arith)) h))

    -- a turn up to its accepts
    pub turn_come : (tick : ℕ) (desk : Desk) (answers : TurnAnswers) (events : List Event) (w : Watch) → All (λ (id : ℕ). P (new_visit console turn texts id)) answers.accepts →
        Watched P (get_or desk.seats (console - 1) None) (get_or desk.failed (console - 1) false) events w →
        Watched P (get_or (seats_to_read texts desk answers) (console - 1) None) false ((events ++ hang_if (get_or desk.failed (console - 1) false)) ++ events_at console (dials tick texts desk.seats answers.accepts))
        (all_come console turn texts desk.seats answers.accepts (ended_if (get_or desk.failed (console - 1) false) w))
    turn_come tick desk answers events w news h =
        let lost = get_or desk.failed (console - 1) false in
        all_come_step tick desk.seats answers.accepts (events ++ hang_if lost) (ended_if lost w) news (hang_step (get_or desk.seats (console - 1) None) lost events w h)

    -- a turn up to its reads
    pub turn_read : (tick : ℕ) (desk : Desk) (answers : TurnAnswers) (events : List Event) (w : Watch) → All (λ (id : ℕ). P (new_visit console turn texts id)) answers.accepts →
        Watched P (get_or desk.seats (console - 1) None) (get_or desk.failed (console - 1) false) events w →
        Watched P (get_or (seats_to_write texts desk answers) (console - 1) None) false (events ++ events_at console (events_of_turn tick texts desk answers)) (watched console turn texts desk answers w)
    turn_read tick desk answers events w news h =
        let i = console - 1 in
        let lost = get_or desk.failed i false in
        let first = seats_to_read texts desk answers in
        let second = seats_to_write texts desk answers in
        let heard = heard_at console answers in
        let hung_events = hangs tick 1 desk.failed in
        let dialled = dials tick texts desk.seats answers.accepts in
        let said_events = all_events_heard tick 1 first answers.heard in
        let one_events = events ++ hang_if lost in
        let two_events = one_events ++ events_at console dialled in
        let three_events = two_events ++ events_at console (events_heard tick console (get_or first i None) heard.reads heard.over) in
        let w1 = ended_if lost w in
        let w2 = all_come console turn texts desk.seats answers.accepts w1 in
        let w3 = read_at console texts desk answers w2 in
        let h2 : Watched P (get_or first i None) false two_events w2 = turn_come tick desk answers events w news h in
        let h3 : Watched P (seat_after (get_or first i None) heard.reads heard.over) false three_events w3 = read_step tick (get_or first i None) heard.reads heard.over two_events w2 h2 in
        let h4 : Watched P (get_or second i None) false three_events w3 = subst (λ (o : Option Talk). Watched P o false three_events w3) (sym (seat_heard i first answers.heard)) h3 in
        let events_are : three_events ≡ events ++ events_at console (events_of_turn tick texts desk answers) =
        (λ j. ((events ++ sym (hangs_at console 1 i tick desk.failed (number_of console one)) j) ++ events_at console dialled) ++ sym (heard_there console 1 i tick first answers.heard (number_of console one)) j)
        ∙ append_assoc (events ++ events_at console hung_events) (events_at console dialled) (events_at console said_events)
        ∙ append_assoc events (events_at console hung_events) (events_at console dialled ++ events_at console said_events)
        ∙ ap (λ (l : List Event). events ++ l) (ap (λ (l : List Event). events_at console hung_events ++ l) (sym (at_both console dialled said_events)) ∙ sym (at_both console hung_events (dialled ++ said_events))) in
        subst (λ (l : List Event). Watched P (get_or second i None) false l w3) events_are h4

    -- a whole turn
    pub turn_step : (tick : ℕ) (shown : List (List ℕ)) (desk : Desk) (answers : TurnAnswers) (events : List Event) (w : Watch) → IsTurn texts shown desk answers → All (λ (id : ℕ). P (new_visit console turn texts id)) answers.accepts →
        Watched P (get_or desk.seats (console - 1) None) (get_or desk.failed (console - 1) false) events w →
        Watched P (get_or (desk_after texts desk answers).seats (console - 1) None) (get_or (desk_after texts desk answers).failed (console - 1) false)
        (events ++ events_at console (events_of_turn tick texts desk answers)) (watched console turn texts desk answers w)
    turn_step tick shown desk answers events w lawful news h =
        let i = console - 1 in
        let second = seats_to_write texts desk answers in
        let told = get_or answers.told i none_told in
        let now = events ++ events_at console (events_of_turn tick texts desk answers) in
        let seen = watched console turn texts desk answers w in
        let zero_plus : i ≡ 0 + i = omega arith in
        let read_all : Watched P (get_or second i None) false now seen = turn_read tick desk answers events w news h in
        let told_all : Watched P (seat_told (get_or second i None) told.puts told.lost) told.lost now seen =
        told_step (get_or shown i []) (get_or second i None) told.puts told.lost now seen (told_lawful shown 0 i i second answers.told zero_plus lawful.told) read_all in
        subst (λ (l : Bool). Watched P (get_or (desk_after texts desk answers).seats i None) l now seen) (sym (lost_at i answers.told))
        (subst (λ (o : Option Talk). Watched P o told.lost now seen) (sym (seat_sent shown 0 i second answers.told lawful.told)) told_all)
