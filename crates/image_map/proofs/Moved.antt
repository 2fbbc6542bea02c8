-- What two moves of blocks leave, one after the other, and one in which the drum failed.
use Rattle.std.specs.Prelude.{Result, Ok, Err, OnOk, OnErr}
use Rattle.std.proofs.Common.{◌∙◌, refl, le_refl, le_trans}
use Rattle.faults.specs.Faults.{Rose}
use Rattle.medium.specs.declared.medium.Medium.{Ghosts}
use Rattle.image_map.specs.Image.{state}
use Rattle.image_map.specs.Loads.{FailedIn}
use Rattle.image_map.specs.Moves.{Move, CanMove, Holds, AreMoved, StopsIn}
use Rattle.image_map.specs.declared.image.Image.{Image}
use Rattle.image_map.proofs.Calls.{on_err}

pub holds_both : {D : Type 0} {g : Ghosts D} {a b c : Image D g} → Holds a b → Holds b c → Holds a c
holds_both one two = record {
  same = two.same ∙ one.same;
  serves = two.serves;
  quotas = two.quotas ∙ one.quotas;
  sizes = two.sizes ∙ one.sizes;
  usable = two.usable ∙ one.usable;
  words = two.words;
  faults_grow = le_trans one.faults_grow two.faults_grow;
}

pub holds_none : {D : Type 0} {g : Ghosts D} {a : Image D g} → CanMove a → Holds a a
holds_none {a = a} can = record {
  same = refl;
  serves = can.serves;
  quotas = refl;
  sizes = refl;
  usable = refl;
  words = can.words;
  faults_grow = le_refl (state a).drum.faults;
}

pub stops_in : {D : Type 0} {g : Ghosts D} {T E : Type 0} (r : Result T E) (move : Move) (old new : Image D g)
    → FailedIn (state old).drum.calls (state new).drum.calls move.calls → Rose (state old).drum.faults (state new).drum.faults → OnErr r (StopsIn move old new)
stops_in r move old new failed cause =
    let stops : StopsIn move old new = record { failed = failed; cause = cause } in
    on_err r (StopsIn move old new) stops

-- what an answer says of one move is turned into what it says of another

pub done_from : {D : Type 0} {g : Ghosts D} {T E : Type 0} (r : Result T E) (one two : Move) (a b a' b' : Image D g)
    → OnOk r (AreMoved one a b) → (AreMoved one a b → AreMoved two a' b') → OnOk r (AreMoved two a' b')
done_from (Ok x) one two a b a' b' done f = f done
done_from (Err e) one two a b a' b' done f = tt

pub fails_from : {D : Type 0} {g : Ghosts D} {T E : Type 0} (r : Result T E) (one two : Move) (a b a' b' : Image D g)
    → OnErr r (StopsIn one a b) → (StopsIn one a b → StopsIn two a' b') → OnErr r (StopsIn two a' b')
fails_from (Ok x) one two a b a' b' fails f = tt
fails_from (Err e) one two a b a' b' fails f = f fails
