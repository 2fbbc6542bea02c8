-- A link after more calls.
use Rattle.std.specs.Prelude.{map, take, drop, length, get_or}
use Rattle.std.proofs.Math.Seq.{take-append_seam, take-append-add}
use Rattle.ctss_types.specs.declared.script.Event.{Event}
use Rattle.console_wire.specs.Items.{half_of, items_at, piece_after, items_from, piece_from}
use Rattle.console_wire.proofs.Cuts.{items_of_both, piece_of_both}
use Rattle.std.proofs.Common.{◌≡◌, ℕ, ◌+◌, ◌<◌, List, [], ◌∷◌, ◌++◌, refl, sym, ◌∙◌, ap, subst}
use Rattle.std.proofs.lemmas.List.{append_assoc, append-nil, map-append, take_more, take-append-drop}
use Rattle.ctss_types.specs.declared.script.Timed.{Timed}
use Rattle.console_link.specs.Links.{LinkSeen, Done, Did}
use Rattle.live_core.specs.Core.{CoreSeen, CoreCall, Took}
use Rattle.console_server.specs.Given.{IsGiven, IsGivenPart, StaysReady}
use Rattle.console_server.specs.Readings.{DidAll, Nothing, Then, timed, all_timed}

pub did_both : (ds es : List Done) (s t u : LinkSeen) → DidAll ds s t → DidAll es t u → DidAll (ds ++ es) s u
did_both [] es s t u (Nothing _) more = more
did_both (d ∷ ds) es s t u (Then _ _ _ m _ did rest) more = Then d (ds ++ es) s m u did (did_both ds es m t u rest more)

pub did_one : (ds : List Done) (d : Done) (s t u : LinkSeen) → DidAll ds s t → Did d t u → DidAll (ds ++ d ∷ []) s u
did_one ds d s t u sofar did = did_both ds (d ∷ []) s t u sofar (Then d [] t u u did (Nothing u))

-- a core that twice stays ready
pub stays_on : {C : Type 0} (see : C → CoreSeen) (holds : C → Type 0) {a b c : C} → StaysReady see holds a b
    → StaysReady see holds b c → StaysReady see holds a c
stays_on see holds one two = record { same = two.same ∙ one.same; ready = two.ready }

-- one byte more behind those that were fed
pub fed_more : (tick console : ℕ) (piece bytes : List ℕ) (b : ℕ) →
    all_timed tick console (items_from piece (bytes ++ b ∷ [])) ≡ all_timed tick console (items_from piece bytes) ++ all_timed tick console (items_at (piece_from piece bytes) b)
unfolding items_from
fed_more tick console piece bytes b =
    ap (all_timed tick console) (items_of_both piece bytes (b ∷ []) ∙ ap (λ (l : List Event). items_from piece bytes ++ l) (append-nil (items_at (piece_from piece bytes) b)))
    ∙ map-append (timed tick console) (items_from piece bytes) (items_at (piece_from piece bytes) b)

pub piece_more : (piece bytes : List ℕ) (b : ℕ) → piece_from piece (bytes ++ b ∷ []) ≡ piece_after (piece_from piece bytes) b
unfolding piece_from
piece_more piece bytes b = piece_of_both piece bytes (b ∷ [])

-- what came of some bytes is a beginning of what comes of all
pub fed_part : (tick console : ℕ) (piece bytes more : List ℕ) →
    (n : ℕ) × (all_timed tick console (items_from piece bytes) ≡ take n (all_timed tick console (items_from piece (bytes ++ more))))
fed_part tick console piece bytes more =
    let front = all_timed tick console (items_from piece bytes) in
    let rest = all_timed tick console (items_from (piece_from piece bytes) more) in
    let both : all_timed tick console (items_from piece (bytes ++ more)) ≡ front ++ rest = ap (all_timed tick console) (items_of_both piece bytes more) ∙ map-append (timed tick console) (items_from piece bytes) (items_from (piece_from piece bytes) more) in
    (length front, sym (ap (take (length front)) both ∙ take-append_seam front rest))

pub half_none : (piece : List ℕ) → piece ≡ piece_from piece []
unfolding piece_from
half_none piece = refl

pub half_next : (piece bytes half : List ℕ) (i : ℕ) → i < length bytes → half ≡ half_of (piece_after (piece_from piece (take i bytes)) (get_or bytes i 0)) → half ≡ half_of (piece_from piece (take (i + 1) bytes))
half_next piece bytes half i lt is = is ∙ ap half_of (sym (ap (piece_from piece) (take_more bytes i 0 lt) ∙ piece_more piece (take i bytes) (get_or bytes i 0)))

module _ {C : Type 0} (goes : C → List CoreCall → C → Type 0) (none : (a : C) → goes a [] a) (on : (a b c : C) (hs gs : List CoreCall) → goes a hs b → goes b gs c → goes a (hs ++ gs) c) where
  pub given_both : (es fs : List Timed) (a b c : C) (x y z : List Timed) → IsGiven goes es a b x y → IsGiven goes fs b c y z → IsGiven goes (es ++ fs) a c x z
  given_both es fs a b c x y z one two =
      record {
        core = subst (λ (hs : List CoreCall). goes a hs c) (sym (map-append Took es fs)) (on a b c (map Took es) (map Took fs) one.core two.core);
        noted = two.noted ∙ ap (λ (l : List Timed). l ++ fs) one.noted ∙ append_assoc x es fs;
      }

  -- nothing was given yet
  pub given_none : (tick console : ℕ) (piece : List ℕ) (a : C) (x : List Timed) → IsGiven goes (all_timed tick console (items_from piece [])) a a x x
  unfolding items_from
  given_none tick console piece a x = record { core = none a; noted = sym (append-nil x) }

  -- the next byte was fed
  pub fed_next : (tick console : ℕ) (piece bytes : List ℕ) (i : ℕ) (a b c : C) (x y z : List Timed) → i < length bytes →
      IsGiven goes (all_timed tick console (items_from piece (take i bytes))) a b x y →
      IsGiven goes (all_timed tick console (items_at (piece_from piece (take i bytes)) (get_or bytes i 0))) b c y z →
      IsGiven goes (all_timed tick console (items_from piece (take (i + 1) bytes))) a c x z
  fed_next tick console piece bytes i a b c x y z lt one two =
      subst (λ (es : List Timed). IsGiven goes es a c x z)
      (sym (ap (λ (l : List ℕ). all_timed tick console (items_from piece l)) (take_more bytes i 0 lt) ∙ fed_more tick console piece (take i bytes) (get_or bytes i 0)))
      (given_both _ _ a b c x y z one two)

  -- memory lacked for what the next byte completes
  pub fed_stops : (tick console : ℕ) (piece bytes : List ℕ) (i : ℕ) (a b c : C) (x y z : List Timed) →
      IsGiven goes (all_timed tick console (items_from piece (take i bytes))) a b x y → IsGiven goes [] b c y z → IsGivenPart goes (all_timed tick console (items_from piece bytes)) a c x z
  fed_stops tick console piece bytes i a b c x y z one two =
      let part = fed_part tick console piece (take i bytes) (drop i bytes) in
      let whole : all_timed tick console (items_from piece (take i bytes)) ++ [] ≡ take part.0 (all_timed tick console (items_from piece bytes)) =
      append-nil _ ∙ part.1 ∙ ap (λ (l : List ℕ). take part.0 (all_timed tick console (items_from piece l))) (take-append-drop i bytes) in
      (part.0, subst (λ (es : List Timed). IsGiven goes es a c x z) whole (given_both _ _ a b c x y z one two))

  -- what more bytes complete was given
  pub fed_both : (tick console : ℕ) (piece bytes more : List ℕ) (a b c : C) (x y z : List Timed) →
      IsGiven goes (all_timed tick console (items_from piece bytes)) a b x y →
      IsGiven goes (all_timed tick console (items_from (piece_from piece bytes) more)) b c y z →
      IsGiven goes (all_timed tick console (items_from piece (bytes ++ more))) a c x z
  fed_both tick console piece bytes more a b c x y z one two =
      subst (λ (es : List Timed). IsGiven goes es a c x z)
      (sym (ap (all_timed tick console) (items_of_both piece bytes more) ∙ map-append (timed tick console) (items_from piece bytes) (items_from (piece_from piece bytes) more)))
      (given_both _ _ a b c x y z one two)

  pub fed_both_part : (tick console : ℕ) (piece bytes more : List ℕ) (a b c : C) (x y z : List Timed) →
      IsGiven goes (all_timed tick console (items_from piece bytes)) a b x y →
      IsGivenPart goes (all_timed tick console (items_from (piece_from piece bytes) more)) b c y z →
      IsGivenPart goes (all_timed tick console (items_from piece (bytes ++ more))) a c x z
  fed_both_part tick console piece bytes more a b c x y z one two =
      let front = all_timed tick console (items_from piece bytes) in
      let rest = all_timed tick console (items_from (piece_from piece bytes) more) in
      let both : all_timed tick console (items_from piece (bytes ++ more)) ≡ front ++ rest = ap (all_timed tick console) (items_of_both piece bytes more) ∙ map-append (timed tick console) (items_from piece bytes) (items_from (piece_from piece bytes) more) in
      let cut : front ++ take two.0 rest ≡ take (length front + two.0) (all_timed tick console (items_from piece (bytes ++ more))) = sym (ap (take (length front + two.0)) both ∙ take-append-add front rest two.0) in
      (length front + two.0, subst (λ (es : List Timed). IsGiven goes es a c x z) cut (given_both _ _ a b c x y z one two.1))
