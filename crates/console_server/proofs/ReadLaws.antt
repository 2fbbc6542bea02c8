-- Reading a connection, read by read.
use Rattle.std.specs.declared.result.Result.{Result}
use Rattle.std.specs.Prelude.{Ok, Err, OnOk, OnErr, Bool, true, false, map, length}
use Rattle.std.proofs.lemmas.Bool.{true≢false}
use Rattle.std.proofs.Common.{◌≡◌, ℕ, ◌-◌, ◌<◌, ◌≤◌, List, [], ◌∷◌, ◌++◌, refl, sym, ◌∙◌, ap, subst}
use Rattle.std.proofs.lemmas.List.{append_assoc, append-nil, map-append}
use Rattle.ctss_types.specs.declared.script.Timed.{Timed}
use Rattle.console_wire.specs.Items.{half_of, items_from, piece_from}
use Rattle.console_wire.proofs.Cuts.{piece_of_both}
use Rattle.console_link.specs.declared.link.LinkGot.{LinkGot}
use Rattle.console_link.specs.declared.link.LinkGot.TheVariants as got
use Rattle.console_link.specs.Links.{LinkSeen, Done, Did, DidRead}
use Rattle.live_core.specs.Core.{CoreCall}
use Rattle.console_server.specs.Given.{IsGiven, IsGivenPart}
use Rattle.console_server.specs.Readings.{Nothing, Gave, bytes_of, did_read, DidAll, MayStop, IsReading, GoesOn, ReadsOn, all_timed, ReadSoFar, Drained, DrainedPart}
use Rattle.console_server.proofs.Following.{did_one, fed_both, fed_both_part, given_none, half_none}

bytes_more : (reads : List Gave) (r : Gave) → bytes_of (reads ++ r ∷ []) ≡ bytes_of reads ++ r.bytes
bytes_more [] r = append-nil r.bytes
bytes_more (s ∷ reads) r = ap (λ (l : List ℕ). s.bytes ++ l) (bytes_more reads r) ∙ sym (append_assoc s.bytes (bytes_of reads) r.bytes)

goes : (answer : LinkGot) (left : ℕ) (bytes : List ℕ) (P Q : ℕ → Type 0) → ((n : ℕ) → P n → Q n) → GoesOn answer left bytes P → GoesOn answer left bytes Q
goes (got.Bytes n) left bytes P Q f h = (h.0, h.1, h.2, f (left - n) h.3)
goes got.End left bytes P Q f h = h
goes got.NotYet left bytes P Q f h = h
goes got.Failed left bytes P Q f h = h

false_of : {X : Type 0} → true ≡ false → X
false_of h = absurd (true≢false h)

goes_stop : (answer : LinkGot) (left : ℕ) (bytes : List ℕ) (P Q : ℕ → Type 0) (stops : Type 0) (over : Bool) → ((n : ℕ) → P n → Q n) → GoesOn answer left bytes P → MayStop answer left bytes Q stops over
goes_stop (got.Bytes n) left bytes P Q stops over f h = (h.0, h.1, h.2, f (left - n) h.3)
goes_stop got.End left bytes P Q stops over f h = false_of h
goes_stop got.NotYet left bytes P Q stops over f h = false_of h
goes_stop got.Failed left bytes P Q stops over f h = false_of h

reads_more : (reads more : List Gave) (left mid rest : ℕ) → ReadsOn reads left mid → ReadsOn more mid rest → ReadsOn (reads ++ more) left rest
reads_more [] more left mid rest is h = subst (λ (n : ℕ). ReadsOn more n rest) (sym is) h
reads_more (r ∷ reads) more left mid rest h then = (h.0, goes r.answer left r.bytes _ _ (λ n k. reads_more reads more n mid rest k then) h.1)

reads_stop : (over : Bool) (reads more : List Gave) (left mid : ℕ) → ReadsOn reads left mid → IsReading over more mid → IsReading over (reads ++ more) left
reads_stop over [] more left mid is h = subst (IsReading over more) (sym is) h
reads_stop over (r ∷ reads) more left mid h then = (h.0, goes_stop r.answer left r.bytes _ _ _ over (λ n k. reads_stop over reads more n mid k then) h.1)

calls_more : (id : ℕ) (reads : List Gave) (r : Gave) (a b c : LinkSeen) → DidAll (map (did_read id) reads) a b → Did (did_read id r) b c → DidAll (map (did_read id) (reads ++ r ∷ [])) a c
calls_more id reads r a b c sofar did = subst (λ (ds : List Done). DidAll ds a c) (sym (map-append (did_read id) reads (r ∷ []))) (did_one _ _ a b c sofar did)

abbrev no_reads : List Gave
no_reads = []

pub on_ok : {T E : Type 0} {P Q : Type 0} (result : Result T E) → (P → Q) → OnOk result P → OnOk result Q
on_ok (Ok v) f p = f p
on_ok (Err e) f p = tt

pub on_err : {T E : Type 0} {P : Type 0} (result : Result T E) → P → OnErr result P
on_err (Ok v) p = tt
on_err (Err e) p = p

module _ {C : Type 0} (goes : C → List CoreCall → C → Type 0) (none : (a : C) → goes a [] a) (on : (a b c : C) (hs gs : List CoreCall) → goes a hs b → goes b gs c → goes a (hs ++ gs) c) where
  module _ (tick console id : ℕ) (piece : List ℕ) (a b c : LinkSeen) (p q r : C) (x y z : List Timed) (half : List ℕ) where
    -- a read gave bytes, and what they complete was given
    pub read_on : (left n : ℕ) (bytes new : List ℕ) → (s : ReadSoFar goes tick console id piece left a b p q x y half) →
        0 < left → 1 ≤ n → n ≤ left → length bytes ≡ n → Did (DidRead id (got.Bytes n) bytes) b c →
        IsGiven goes (all_timed tick console (items_from (piece_from piece (bytes_of s.reads)) bytes)) q r y z →
        new ≡ half_of (piece_from (piece_from piece (bytes_of s.reads)) bytes) →
        ReadSoFar goes tick console id piece (left - n) a c p r x z new
    read_on left n bytes new s some one within len did given is =
        let last : Gave = record { answer = got.Bytes n; bytes = bytes } in
        let all = bytes_more s.reads last in
        record {
          reads = s.reads ++ last ∷ [];
          goes_on = reads_more s.reads (last ∷ []) 1024 left (left - n) s.goes_on (some, (one, within, len, refl));
          link = calls_more id s.reads last a b c s.link did;
          core = subst (λ (l : List ℕ). IsGiven goes (all_timed tick console (items_from piece l)) p r x z) (sym all) (fed_both goes none on tick console piece (bytes_of s.reads) bytes p q r x y z s.core given);
          half_is = is ∙ ap half_of (sym (ap (piece_from piece) all ∙ piece_of_both piece (bytes_of s.reads) bytes));
        }

    -- memory lacked for what the last read's bytes complete
    pub read_short : (left n : ℕ) (bytes : List ℕ) → (s : ReadSoFar goes tick console id piece left a b p q x y half) →
        0 < left → 1 ≤ n → n ≤ left → length bytes ≡ n → Did (DidRead id (got.Bytes n) bytes) b c →
        IsGivenPart goes (all_timed tick console (items_from (piece_from piece (bytes_of s.reads)) bytes)) q r y z →
        DrainedPart goes tick console id piece a c p r x z
    read_short left n bytes s some one within len did part =
        let last : Gave = record { answer = got.Bytes n; bytes = bytes } in
        let all = bytes_more s.reads last in
        record {
          reads = s.reads ++ last ∷ [];
          goes_on = (left - n, reads_more s.reads (last ∷ []) 1024 left (left - n) s.goes_on (some, (one, within, len, refl)));
          link = calls_more id s.reads last a b c s.link did;
          core = subst (λ (l : List ℕ). IsGivenPart goes (all_timed tick console (items_from piece l)) p r x z) (sym all) (fed_both_part goes none on tick console piece (bytes_of s.reads) bytes p q r x y z s.core part);
        }

  -- a read gave no bytes
  pub read_stops : (tick console id : ℕ) (piece : List ℕ) (a b c : LinkSeen) (p q : C) (x y : List Timed) (half : List ℕ) (left : ℕ) (answer : LinkGot) (over : Bool) → (s : ReadSoFar goes tick console id piece left a b p q x y half) → 0 < left → MayStop answer left [] (IsReading over []) (no_reads ≡ []) over →
      Did (DidRead id answer []) b c → Drained goes tick console id piece over a c p q x y half
  read_stops tick console id piece a b c p q x y half left answer over s some stops did =
      let last : Gave = record { answer = answer; bytes = [] } in
      let all = bytes_more s.reads last ∙ append-nil (bytes_of s.reads) in
      record {
        reads = s.reads ++ last ∷ [];
        lawful = reads_stop over s.reads (last ∷ []) 1024 left s.goes_on (some, stops);
        link = calls_more id s.reads last a b c s.link did;
        core = subst (λ (l : List ℕ). IsGiven goes (all_timed tick console (items_from piece l)) p q x y) (sym all) s.core;
        half_is = s.half_is ∙ ap (λ (l : List ℕ). half_of (piece_from piece l)) (sym all);
      }

  -- all 1024 bytes came
  pub read_full : (tick console id : ℕ) (piece : List ℕ) (a b : LinkSeen) (p q : C) (x y : List Timed) (half : List ℕ) → ReadSoFar goes tick console id piece 0 a b p q x y half → Drained goes tick console id piece false a b p q x y half
  read_full tick console id piece a b p q x y half s =
      record {
        reads = s.reads;
        lawful = subst (λ (rs : List Gave). IsReading false rs 1024) (append-nil s.reads) (reads_stop false s.reads [] 1024 0 s.goes_on (refl, refl));
        link = s.link;
        core = s.core;
        half_is = s.half_is;
      }

  -- nothing was read yet
  pub read_none : (tick console id : ℕ) (piece : List ℕ) (a : LinkSeen) (p : C) (x : List Timed) (half : List ℕ) → half ≡ half_of piece → ReadSoFar goes tick console id piece 1024 a a p p x x half
  read_none tick console id piece a p x half is =
      record { reads = []; goes_on = refl; link = Nothing a; core = given_none goes none on tick console piece p x; half_is = is ∙ ap half_of (half_none piece) }
