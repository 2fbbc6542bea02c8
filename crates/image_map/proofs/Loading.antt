-- One block is loaded: what lies at its place goes to the drum, and then its copy comes, or plus zeros do.
use Rattle.std.specs.Prelude.{Bool, false, Option, None, Some, IsTrue, IsSome, ◌↔◌}
use Rattle.std.proofs.Common.{◌≡◌, ◌≢◌, ◌∙◌, ℕ, ◌+◌, ◌≤◌, List, ◌++◌, refl, sym, ap, subst}
use Rattle.std.proofs.lemmas.Bool.{false≢true}
use Rattle.medium.specs.Medium.{Call}
use Rattle.medium.specs.declared.medium.Medium.{Ghosts}
use Rattle.drum_slots.specs.Keys.{key}
use Rattle.drum_slots.specs.Kept.{ServesSlots}
use Rattle.drum_slots.specs.Slots.{slot_of}
use Rattle.drum_slots.specs.Table.{records_of, record_of}
use Rattle.drum_slots.specs.declared.table.SlotTable.{SlotTable}
use Rattle.onion_swap.specs.Places.{owner_of, base_of}
use Rattle.image_map.specs.Image.{state}
use Rattle.image_map.specs.Loads.{BlockMap, dumped, emptied, dump_calls, fetch_calls, block_taken, load_one, calls_one, with_calls, FailedIn}
use Rattle.image_map.specs.Moves.{Move, a_dump, a_fetch, a_loading, CanMove, Holds, AreMoved, StopsIn, TakesBlank}
use Rattle.image_map.specs.State.{ImageState, base, block_map_in}
use Rattle.image_map.specs.declared.image.Image.{Image}
use Rattle.image_map.proofs.Calls.{with_calls-append, fetch_failed, emptied_none, emptied_some, dump_calls_none, dump_calls_some}
use Rattle.image_map.proofs.Moved.{holds_none}
use Rattle.image_map.proofs.Moves.{eq_no}

-- what lies at a place went to the drum, if it had an owner
abbrev emptying : ImageState → ℕ → Move
emptying s place = record {
  to = emptied s.slots.quotas.items s.layout.bases (block_map_in s) place;
  calls = dump_calls (block_map_in s) place;
}

pub record IsEmptied {D : Type 0} {g : Ghosts D} (place : ℕ) (old new : Image D g) : Type 0 where
  pub holds : Holds old new
  pub moved : AreMoved (emptying (state old) place) old new
  pub bases : new.tables.owners.bases ≡ old.tables.owners.bases

-- it had one
pub after_dump : {D : Type 0} {g : Ghosts D} (old new now : Image D g) (v q place : ℕ) → now ≡ new → v ≡ owner_of old.tables.owners.owners place → q ≡ place
    → owner_of old.tables.owners.owners place ≢ 0 → Holds old new → AreMoved (a_dump (state old) v q) old new
    → new.tables.owners.bases ≡ old.tables.owners.bases
    → IsEmptied place old now
after_dump {D = D} {g = g} old new now v q place same owner at some holds done bases =
    let s = state old in
    let h : BlockMap = block_map_in s in
    let is : IsEmptied place old new = record {
      holds = holds;
      moved = record {
        block_map = done.block_map ∙ (λ j. dumped s.slots.quotas.items s.layout.bases h (owner j) (at j))
            ∙ sym (emptied_some s.slots.quotas.items s.layout.bases h place some);
        images = done.images;
        calls = done.calls ∙ ap (λ (l : List Call). with_calls s.drum.calls l) (sym (dump_calls_some h place some));
      };
      bases = bases;
    } in
    subst (λ (i : Image D g). IsEmptied place old i) (sym same) is

-- it had none
pub not_dumped : {D : Type 0} {g : Ghosts D} (old now : Image D g) (place : ℕ) → now ≡ old
    → owner_of old.tables.owners.owners place ≡ 0 → CanMove old → IsEmptied place old now
not_dumped {D = D} {g = g} old now place same none can =
    let s = state old in
    let h : BlockMap = block_map_in s in
    let is : IsEmptied place old old = record {
      holds = holds_none can;
      moved = record {
        block_map = sym (emptied_none s.slots.quotas.items s.layout.bases h place none);
        images = λ u some. refl;
        calls = ap (λ (l : List Call). with_calls s.drum.calls l) (sym (dump_calls_none h place none));
      };
      bases = refl;
    } in
    subst (λ (i : Image D g). IsEmptied place old i) (sym same) is

-- then the block came; it has the words of its place
pub loading_done : {D : Type 0} {g : Ghosts D} (old mid new : Image D g) (u b : ℕ) (words : ℕ → List ℕ)
    → owner_of old.tables.owners.owners (base (state old) u + b) ≢ u
    → IsEmptied (base (state old) u + b) old mid → AreMoved (a_fetch (state mid) u b (words (base (state mid) u + b))) mid new
    → AreMoved (a_loading (state old) u b (words (base (state old) u + b))) old new
loading_done old mid new u b words other is came =
    let s = state old in
    let h : BlockMap = block_map_in s in
    let quotas = s.slots.quotas.items in
    let ws : List ℕ = words (base s u + b) in
    let gone : BlockMap = emptied quotas s.layout.bases h (base s u + b) in
    let rest : List Call = fetch_calls (slot_of gone.slots (key quotas u b)) ws in
    let one : load_one quotas s.layout.bases h u b ≡ block_taken quotas s.layout.bases gone u b (slot_of gone.slots (key quotas u b)) = rw (eq_no _ _ other) refl in
    let made : calls_one quotas s.layout.bases h u b ws ≡ dump_calls h (base s u + b) ++ rest = rw (eq_no _ _ other) refl in
    record {
      block_map = came.block_map
          ∙ (λ j. block_taken (is.holds.quotas j).items (is.bases j) (is.moved.block_map j) u b
          (slot_of (is.moved.block_map j).slots (key (is.holds.quotas j).items u b)))
          ∙ sym one;
      images = λ v some. came.images v some ∙ is.moved.images v some;
      calls = came.calls
          ∙ (λ j. with_calls (is.moved.calls j)
          (fetch_calls (slot_of (is.moved.block_map j).slots (key (is.holds.quotas j).items u b)) (words (base_of (is.bases j) u + b))))
          ∙ sym (with_calls-append s.drum.calls (dump_calls h (base s u + b)) rest)
          ∙ ap (λ (l : List Call). with_calls s.drum.calls l) (sym made);
    }

-- or its read failed
pub loading_stops : {D : Type 0} {g : Ghosts D} (old mid new : Image D g) (u b : ℕ) (words : ℕ → List ℕ)
    → owner_of old.tables.owners.owners (base (state old) u + b) ≢ u
    → IsEmptied (base (state old) u + b) old mid → StopsIn (a_fetch (state mid) u b (words (base (state mid) u + b))) mid new
    → FailedIn (state old).drum.calls (state new).drum.calls (a_loading (state old) u b (words (base (state old) u + b))).calls
loading_stops old mid new u b words other is stops =
    let s = state old in
    let m = state mid in
    let here : FailedIn m.drum.calls (state new).drum.calls (fetch_calls (record_of m.slots u b) (words (base s u + b)))
    = subst (λ (l : List ℕ). FailedIn m.drum.calls (state new).drum.calls (fetch_calls (record_of m.slots u b) (words (base_of l u + b))))
    is.bases stops.failed in
    fetch_failed s.slots.quotas.items s.layout.bases (block_map_in s) u b (words (base s u + b)) s.drum.calls m.drum.calls (state new).drum.calls
    (block_map_in m) m.slots.quotas.items other is.moved.block_map (λ j. (is.holds.quotas j).items) is.moved.calls here

-- a block with no copy came as plus zeros

pub none_from : (o : Option ℕ) (has : Bool) → (IsTrue has ↔ IsSome o) → has ≡ false → o ≡ None
none_from None has iff is = refl
none_from (Some r) has iff is = absurd (false≢true (sym is ∙ iff.1 refl))

pub blank_moves : {D : Type 0} {g : Ghosts D} (old new : Image D g) (u b : ℕ) (words : List ℕ)
    → record_of old.tables.kept.slots u b ≡ None → TakesBlank u b old new
    → AreMoved (a_fetch (state old) u b words) old new
blank_moves {g = g} old new u b words none came =
    let s = state old in
    let h : BlockMap = block_map_in s in
    let now : block_map_in (state new) ≡ block_taken s.slots.quotas.items s.layout.bases h u b None =
    λ j. record { owners = came.owners j; slots = (came.table j).slots.slots.items; free = (came.table j).slots.free.items } in
    record {
      block_map = now ∙ ap (λ (o : Option ℕ). block_taken s.slots.quotas.items s.layout.bases h u b o) (sym none);
      images = came.images;
      calls = (λ j. g.calls (came.table j).drum.now) ∙ ap (λ (o : Option ℕ). with_calls s.drum.calls (fetch_calls o words)) (sym none);
    }

pub blank_holds : {D : Type 0} {g : Ghosts D} (a old new : Image D g) (u b : ℕ) → Holds a old → TakesBlank u b old new → Holds a new
blank_holds {D = D} {g = g} a old new u b h came = record {
  same = (λ j. (came.table j).drum.ghost_name) ∙ h.same;
  serves = subst (λ (k : SlotTable D). ServesSlots (g.contents k.drum.now) (g.record_count k.drum.now) (g.words_each k.drum.now) (records_of k.slots))
      (sym came.table) h.serves;
  quotas = (λ j. (came.table j).slots.quotas) ∙ h.quotas;
  sizes = came.sizes ∙ h.sizes;
  usable = came.usable ∙ h.usable;
  words = came.words;
  faults_grow = subst (λ (k : SlotTable D). (state a).drum.faults ≤ g.faults k.drum.now) (sym came.table) h.faults_grow;
}
