-- One connection after another is accepted.
use Rattle.std.specs.Prelude.{Bool, true, nat_eq, nat_lt, if◌then◌else◌, length, take, Option}
use Rattle.std.proofs.Math.Seq.{take-append_seam}
use Rattle.std.proofs.Common.{◌≡◌, ℕ, ◌<◌, List, [], ◌∷◌, ◌++◌, refl, sym, ◌∙◌, ap, subst, arith, length-append}
use Rattle.std.proofs.lemmas.Bool.Decides.{nat_tests}
use Rattle.std.proofs.lemmas.List.{append_assoc, append-nil}
use Rattle.ctss_types.specs.declared.script.Timed.{Timed}
use Rattle.console_link.specs.declared.link.Accepted.TheVariants as accepted
use Rattle.console_link.specs.Links.{LinkSeen, Done, Did, DidAccept}
use Rattle.console_server.specs.declared.tasks.Task.{Task}
use Rattle.live_core.specs.Core.{CoreCall}
use Rattle.console_server.specs.Given.{IsGiven}
use Rattle.console_server.specs.Readings.{DidAll, Nothing, Then}
use Rattle.console_server.specs.Turns.{Talk, free_from, seats_with, calls_of_new, dial, calls_accepted, dials, seated, last_accept}
use Rattle.console_server.specs.Seats.{StandAll, SeatsAreTaken, AreAccepted, AreDialled, AreDialledPart}
use Rattle.console_server.proofs.Following.{did_both, did_one, given_both}

same_number : (n : ℕ) → nat_eq n n ≡ true
same_number n = grind (arith, nat_tests)

module _ (texts : List (List ℕ)) where
  calls_end : (seats : List (Option Talk)) (ids : List ℕ) (id : ℕ) → calls_accepted texts seats (ids ++ id ∷ []) ≡ calls_accepted texts seats ids ++ DidAccept (accepted.New id) ∷ calls_of_new (free_from 1 (seated texts seats ids)) id
  calls_end seats [] id = ap (λ (l : List Done). DidAccept (accepted.New id) ∷ l) (append-nil (calls_of_new (free_from 1 seats) id))
  calls_end seats (x ∷ ids) id =
      ap (λ (l : List Done). DidAccept (accepted.New x) ∷ (calls_of_new (free_from 1 seats) x ++ l)) (calls_end (seats_with texts x seats) ids id)
      ∙ ap (λ (l : List Done). DidAccept (accepted.New x) ∷ l) (sym (append_assoc (calls_of_new (free_from 1 seats) x) (calls_accepted texts (seats_with texts x seats) ids) (DidAccept (accepted.New id) ∷ calls_of_new (free_from 1 (seated texts (seats_with texts x seats) ids)) id)))

  dials_end : (tick : ℕ) (seats : List (Option Talk)) (ids : List ℕ) (id : ℕ) → dials tick texts seats (ids ++ id ∷ []) ≡ dials tick texts seats ids ++ dial tick (free_from 1 (seated texts seats ids))
  dials_end tick seats [] id = append-nil (dial tick (free_from 1 seats))
  dials_end tick seats (x ∷ ids) id =
      ap (λ (l : List Timed). dial tick (free_from 1 seats) ++ l) (dials_end tick (seats_with texts x seats) ids id)
      ∙ sym (append_assoc (dial tick (free_from 1 seats)) (dials tick texts (seats_with texts x seats) ids) (dial tick (free_from 1 (seated texts (seats_with texts x seats) ids))))

  seated_end : (seats : List (Option Talk)) (ids : List ℕ) (id : ℕ) → seated texts seats (ids ++ id ∷ []) ≡ seats_with texts id (seated texts seats ids)
  seated_end seats [] id = refl
  seated_end seats (x ∷ ids) id = seated_end (seats_with texts x seats) ids id

module _ {C : Type 0} (goes : C → List CoreCall → C → Type 0) (none : (a : C) → goes a [] a) (on : (a b c : C) (hs gs : List CoreCall) → goes a hs b → goes b gs c → goes a (hs ++ gs) c) where
  pub taken_none : (tick : ℕ) (texts : List (List ℕ)) (desk : List (Option Talk)) (a : LinkSeen) (p : C) (x : List Timed) (now : List (Option Task)) → StandAll now desk → SeatsAreTaken goes tick texts desk [] a a p p x x now
  taken_none tick texts desk a p x now s = record { link = Nothing a; core = record { core = none p; noted = sym (append-nil x) }; stands = s }

  pub taken_more : (tick : ℕ) (texts : List (List ℕ)) (desk : List (Option Talk)) (ids : List ℕ) (id : ℕ) (a b c d : LinkSeen) (p q r : C) (x y z : List Timed) (was now : List (Option Task)) →
      SeatsAreTaken goes tick texts desk ids a b p q x y was → Did (DidAccept (accepted.New id)) b c → DidAll (calls_of_new (free_from 1 (seated texts desk ids)) id) c d →
      IsGiven goes (dial tick (free_from 1 (seated texts desk ids))) q r y z → StandAll now (seats_with texts id (seated texts desk ids)) → SeatsAreTaken goes tick texts desk (ids ++ id ∷ []) a d p r x z now
  taken_more tick texts desk ids id a b c d p q r x y z was now s did closes given stands =
      record {
        link = subst (λ (ds : List Done). DidAll ds a d) (sym (calls_end texts desk ids id)) (did_both _ _ a b d s.link (Then (DidAccept (accepted.New id)) _ b c d did closes));
        core = subst (λ (es : List Timed). IsGiven goes es p r x z) (sym (dials_end texts tick desk ids id)) (given_both goes none on _ _ p q r x y z s.core given);
        stands = subst (StandAll now) (sym (seated_end texts desk ids id)) stands;
      }

  few_calls : (ids : List ℕ) → length ids < 32 → last_accept ids ≡ DidAccept accepted.NotYet ∷ []
  few_calls ids few = ap (λ (t : Bool). if t then DidAccept accepted.NotYet ∷ [] else []) (below (length ids) few)
    where
      below : (n : ℕ) → n < 32 → nat_lt n 32 ≡ true
      below n h = grind (arith, nat_tests)

  all_calls : (ids : List ℕ) → length ids ≡ 32 → last_accept ids ≡ []
  all_calls ids is = ap (λ (n : ℕ). if nat_lt n 32 then DidAccept accepted.NotYet ∷ [] else []) is

  pub accepted_few : (tick : ℕ) (texts : List (List ℕ)) (desk : List (Option Talk)) (ids : List ℕ) (a b c : LinkSeen) (p q : C) (x y : List Timed) (now : List (Option Task)) →
      SeatsAreTaken goes tick texts desk ids a b p q x y now → length ids < 32 → Did (DidAccept accepted.NotYet) b c → AreAccepted goes tick texts desk a c p q x y now
  accepted_few tick texts desk ids a b c p q x y now s few did =
      record {
        ids = ids;
        few = omega (arith, few);
        link = subst (λ (ds : List Done). DidAll (calls_accepted texts desk ids ++ ds) a c) (sym (few_calls ids few)) (did_both _ _ a b c s.link (Then (DidAccept accepted.NotYet) [] b c c did (Nothing c)));
        core = s.core;
        stands = s.stands;
      }

  pub accepted_all : (tick : ℕ) (texts : List (List ℕ)) (desk : List (Option Talk)) (ids : List ℕ) (a b : LinkSeen) (p q : C) (x y : List Timed) (now : List (Option Task)) →
      SeatsAreTaken goes tick texts desk ids a b p q x y now → length ids ≡ 32 → AreAccepted goes tick texts desk a b p q x y now
  accepted_all tick texts desk ids a b p q x y now s is =
      record {
        ids = ids;
        few = omega (arith, is);
        link = subst (λ (ds : List Done). DidAll ds a b) (sym (ap (λ (ds : List Done). calls_accepted texts desk ids ++ ds) (all_calls ids is) ∙ append-nil (calls_accepted texts desk ids))) s.link;
        core = s.core;
        stands = s.stands;
      }

  -- the listener failed
  pub accept_failed : (tick : ℕ) (texts : List (List ℕ)) (desk : List (Option Talk)) (ids : List ℕ) (a b c : LinkSeen) (p q : C) (x y : List Timed) (now : List (Option Task)) →
      SeatsAreTaken goes tick texts desk ids a b p q x y now → length ids < 32 → Did (DidAccept accepted.Failed) b c → AreDialled goes tick texts desk a c p q x y
  accept_failed tick texts desk ids a b c p q x y now s few did =
      record {
        ids = ids;
        few = few;
        link = did_one (calls_accepted texts desk ids) (DidAccept accepted.Failed) a b c s.link did;
        core = s.core;
      }

  -- memory lacked for the Dial of the last one
  pub dial_failed : (tick : ℕ) (texts : List (List ℕ)) (desk : List (Option Talk)) (ids : List ℕ) (id : ℕ) (a b c d : LinkSeen) (p q r : C) (x y z : List Timed) (now : List (Option Task)) →
      SeatsAreTaken goes tick texts desk ids a b p q x y now → length ids < 32 → Did (DidAccept (accepted.New id)) b c → DidAll (calls_of_new (free_from 1 (seated texts desk ids)) id) c d →
      IsGiven goes [] q r y z → AreDialledPart goes tick texts desk a d p r x z
  dial_failed tick texts desk ids id a b c d p q r x y z now s few did closes last =
      let front = dials tick texts desk ids in
      let back = dial tick (free_from 1 (seated texts desk ids)) in
      let both : dials tick texts desk (ids ++ id ∷ []) ≡ front ++ back = dials_end texts tick desk ids id in
      let part : front ++ [] ≡ take (length front) (dials tick texts desk (ids ++ id ∷ [])) = append-nil front ∙ sym (ap (take (length front)) both ∙ take-append_seam front back) in
      record {
        ids = ids ++ id ∷ [];
        few = omega (arith, length-append ids (id ∷ []), few);
        link = subst (λ (ds : List Done). DidAll ds a d) (sym (calls_end texts desk ids id)) (did_both _ _ a b d s.link (Then (DidAccept (accepted.New id)) _ b c d did closes));
        core = (length front, subst (λ (es : List Timed). IsGiven goes es p r x z) part (given_both goes none on front [] p q r x y z s.core last));
      }
