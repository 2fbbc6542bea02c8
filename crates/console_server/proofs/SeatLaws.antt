-- What a console's connection sent in a turn.
use Rattle.std.specs.Prelude.{Bool, true, false, nat_eq, if◌then◌else◌, map, length, Option, Some, None}
use Rattle.std.proofs.Math.Seq.{take-append_seam}
use Rattle.std.proofs.Common.{◌≡◌, ◌≢◌, arith, ℕ, List, [], ◌∷◌, ◌++◌, refl, sym, ◌∙◌, ap, subst}
use Rattle.std.proofs.lemmas.Bool.Decides.{nat_tests}
use Rattle.std.proofs.lemmas.List.{append-nil}
use Rattle.ctss_types.specs.declared.script.Event.TheVariants.{Hang}
use Rattle.ctss_types.specs.declared.script.Timed.{Timed}
use Rattle.console_wire.specs.Items.{half_of, items_from}
use Rattle.console_link.specs.Links.{LinkSeen, Done, Did, DidClose}
use Rattle.console_server.specs.declared.tasks.Task.{Task}
use Rattle.live_core.specs.Core.{CoreCall}
use Rattle.console_server.specs.Given.{IsGiven, IsGivenPart}
use Rattle.console_server.specs.Readings.{bytes_of, did_read, DidAll, Nothing, timed, all_timed, Drained, DrainedPart}
use Rattle.console_server.specs.Turns.{Talk}
use Rattle.console_server.specs.Seats.{Stands, SeatIsHeard, SeatIsHeardPart}
use Rattle.console_server.proofs.Following.{did_one, given_both}

not_same : (k n : ℕ) → k ≢ n → nat_eq k n ≡ false
not_same k n other = grind (arith, nat_tests)

-- the close of one connection leaves the others
pub not_closed : (task : Task) (b c : LinkSeen) (k : ℕ) → k ≢ task.id → Did (DidClose task.id) b c → c.is_open k ≡ b.is_open k
not_closed task b c k other did = did.opens k ∙ ap (λ (t : Bool). if t then false else b.is_open k) (not_same k task.id other)

module _ {C : Type 0} (goes : C → List CoreCall → C → Type 0) (none : (a : C) → goes a [] a) (on : (a b c : C) (hs gs : List CoreCall) → goes a hs b → goes b gs c → goes a (hs ++ gs) c) where
  pub nothing_given : (p : C) (x : List Timed) → IsGiven goes [] p p x x
  nothing_given p x = record { core = none p; noted = sym (append-nil x) }

  pub heard_none : (tick console : ℕ) (talk : Option Talk) (a : LinkSeen) (p : C) (x : List Timed) → Stands None talk → SeatIsHeard goes tick console talk a a p p x x None
  heard_none tick console None a p x s = record { reads = []; over = false; lawful = (refl, refl); link = Nothing a; core = nothing_given p x; stands = tt }
  heard_none tick console (Some t) a p x s = absurd s

  pub heard_over : (tick console : ℕ) (task : Task) (talk : Option Talk) (a b c : LinkSeen) (p q r : C) (x y z : List Timed) (half : List ℕ) (over : Bool) → Stands (Some task) talk →
      ((piece : List ℕ) → task.wire ≡ half_of piece → Drained goes tick console task.id piece over a b p q x y half) → over ≡ true →
      Did (DidClose task.id) b c → IsGiven goes (timed tick console Hang ∷ []) q r y z → SeatIsHeard goes tick console talk a c p r x z None
  heard_over tick console task None a b c p q r x y z half over s drained ended did given = absurd s
  heard_over tick console task (Some t) a b c p q r x y z half over s drained ended did given =
      let d = subst (λ (o : Bool). Drained goes tick console task.id t.piece o a b p q x y half) ended (drained t.piece s.wire) in
      record {
        reads = d.reads;
        over = true;
        lawful = d.lawful;
        link = subst (λ (n : ℕ). DidAll (map (did_read n) d.reads ++ DidClose n ∷ []) a c) s.id (did_one (map (did_read task.id) d.reads) (DidClose task.id) a b c d.link did);
        core = given_both goes none on _ _ p q r x y z d.core given;
        stands = tt;
      }

  pub heard_on : (tick console : ℕ) (task : Task) (talk : Option Talk) (a b : LinkSeen) (p q : C) (x y : List Timed) (half : List ℕ) (over : Bool) → Stands (Some task) talk →
      ((piece : List ℕ) → task.wire ≡ half_of piece → Drained goes tick console task.id piece over a b p q x y half) → over ≡ false →
      SeatIsHeard goes tick console talk a b p q x y (Some (record task { wire = half }))
  heard_on tick console task None a b p q x y half over s drained ended = absurd s
  heard_on tick console task (Some t) a b p q x y half over s drained ended =
      let d = subst (λ (o : Bool). Drained goes tick console task.id t.piece o a b p q x y half) ended (drained t.piece s.wire) in
      record {
        reads = d.reads;
        over = false;
        lawful = d.lawful;
        link = subst (λ (ds : List Done). DidAll ds a b) (sym (append-nil (map (did_read t.id) d.reads))) (subst (λ (n : ℕ). DidAll (map (did_read n) d.reads) a b) s.id d.link);
        core = subst (λ (es : List Timed). IsGiven goes es p q x y) (sym (append-nil (all_timed tick console (items_from t.piece (bytes_of d.reads))))) d.core;
        stands = record { id = s.id; wire = d.half_is; place = s.place };
      }

  -- memory lacked while it was read
  pub heard_short : (tick console : ℕ) (task : Task) (talk : Option Talk) (a b : LinkSeen) (p q : C) (x y : List Timed) → Stands (Some task) talk →
      ((piece : List ℕ) → task.wire ≡ half_of piece → DrainedPart goes tick console task.id piece a b p q x y) →
      SeatIsHeardPart goes tick console talk a b p q x y
  heard_short tick console task None a b p q x y s drained = absurd s
  heard_short tick console task (Some t) a b p q x y s drained =
      let d = drained t.piece s.wire in
      record {
        reads = d.reads;
        over = false;
        lawful = d.goes_on;
        link = subst (λ (ds : List Done). DidAll ds a b) (sym (append-nil (map (did_read t.id) d.reads))) (subst (λ (n : ℕ). DidAll (map (did_read n) d.reads) a b) s.id d.link);
        core = subst (λ (es : List Timed). IsGivenPart goes es p q x y) (sym (append-nil (all_timed tick console (items_from t.piece (bytes_of d.reads))))) d.core;
      }

  -- memory lacked for the event of its end
  pub heard_cut : (tick console : ℕ) (task : Task) (talk : Option Talk) (a b c : LinkSeen) (p q r : C) (x y z : List Timed) (half : List ℕ) (over : Bool) → Stands (Some task) talk →
      ((piece : List ℕ) → task.wire ≡ half_of piece → Drained goes tick console task.id piece over a b p q x y half) → over ≡ true →
      Did (DidClose task.id) b c → IsGiven goes [] q r y z → SeatIsHeardPart goes tick console talk a c p r x z
  heard_cut tick console task None a b c p q r x y z half over s drained ended did given = absurd s
  heard_cut tick console task (Some t) a b c p q r x y z half over s drained ended did given =
      let d = subst (λ (o : Bool). Drained goes tick console task.id t.piece o a b p q x y half) ended (drained t.piece s.wire) in
      let front = all_timed tick console (items_from t.piece (bytes_of d.reads)) in
      record {
        reads = d.reads;
        over = true;
        lawful = d.lawful;
        link = subst (λ (n : ℕ). DidAll (map (did_read n) d.reads ++ DidClose n ∷ []) a c) s.id (did_one (map (did_read task.id) d.reads) (DidClose task.id) a b c d.link did);
        core = (length front, subst (λ (es : List Timed). IsGiven goes es p r x z) (append-nil front ∙ sym (take-append_seam front (timed tick console Hang ∷ []))) (given_both goes none on front [] p q r x y z d.core given));
      }
