-- claim: what a load does to bases, owners, slots and free records, and which calls of the drum it makes.
use Rattle.std.specs.Prelude.{◌≡◌, ℕ, zero, suc, ◌+◌, ◌-◌, ◌<◌, Bool, true, false, nat_eq, if◌then◌else◌, List, [], ◌∷◌, ◌++◌, length, slice_set, Option, None, Some}
use Rattle.medium.specs.Medium.{Call, CallList, with_call, read_call, write_call}
use Rattle.drum_slots.specs.declared.slots.Slots.{Slots}
use Rattle.drum_slots.specs.Keys.{key}
use Rattle.drum_slots.specs.Slots.{slot_of, first_free}
use Rattle.onion_swap.specs.Places.{owner_of, base_of}
use Rattle.plan_model.specs.Loads.{core_places}

-- who owns which place, which record keeps which copy, and which records are free
pub record BlockMap : Type 0 where
  pub owners : List ℕ
  pub slots : List (Option ℕ)
  pub free : List Bool

abbrev pub block_map_of : List ℕ → Slots → BlockMap
block_map_of owners s = record { owners = owners; slots = s.slots.items; free = s.free.items }

-- the block of user v at a place goes to the least free record
abbrev pub dumped : (quotas bases : List ℕ) → BlockMap → ℕ → ℕ → BlockMap
dumped quotas bases h v q = record {
  owners = slice_set h.owners q 0;
  slots = slice_set h.slots (key quotas v (q - base_of bases v)) (Some (first_free h.free));
  free = slice_set h.free (first_free h.free) false;
}

-- the first part, where a user is to lie elsewhere: a place of its own goes to the drum
abbrev pub put_one : (quotas bases : List ℕ) → BlockMap → ℕ → ℕ → BlockMap
put_one quotas bases h u q = if nat_eq (owner_of h.owners q) u then dumped quotas bases h u q else h

-- its places below q do, in rising order
abbrev pub put_to : (quotas bases : List ℕ) → BlockMap → ℕ → ℕ → BlockMap
put_to quotas bases h u zero = h
put_to quotas bases h u (suc q) = put_one quotas bases (put_to quotas bases h u q) u q

-- the calls for that
abbrev pub put_calls_one : BlockMap → ℕ → ℕ → List Call
put_calls_one h u q = if nat_eq (owner_of h.owners q) u then write_call (first_free h.free) false ∷ [] else []

abbrev pub put_calls_to : (quotas bases : List ℕ) → BlockMap → ℕ → ℕ → List Call
put_calls_to quotas bases h u zero = []
put_calls_to quotas bases h u (suc q) = put_calls_to quotas bases h u q ++ put_calls_one (put_to quotas bases h u q) u q

-- the second part: user u takes the place of its block; its copy, if it has one, is kept no more and its record is free
abbrev pub block_taken : (quotas bases : List ℕ) → BlockMap → ℕ → ℕ → Option ℕ → BlockMap
block_taken quotas bases h u b None = record { owners = slice_set h.owners (base_of bases u + b) u; slots = h.slots; free = h.free }
block_taken quotas bases h u b (Some r) = record {
  owners = slice_set h.owners (base_of bases u + b) u;
  slots = slice_set h.slots (key quotas u b) None;
  free = slice_set h.free r true;
}

-- what lies at a place goes to the drum if it has an owner
abbrev pub emptied : (quotas bases : List ℕ) → BlockMap → ℕ → BlockMap
emptied quotas bases h q = if nat_eq (owner_of h.owners q) 0 then h else dumped quotas bases h (owner_of h.owners q) q

-- one block is loaded, if it isn't in core
abbrev pub load_one : (quotas bases : List ℕ) → BlockMap → ℕ → ℕ → BlockMap
load_one quotas bases h u b =
    if nat_eq (owner_of h.owners (base_of bases u + b)) u then h
    else block_taken quotas bases (emptied quotas bases h (base_of bases u + b)) u b (slot_of (emptied quotas bases h (base_of bases u + b)).slots (key quotas u b))

-- the blocks below n are loaded, in rising order
abbrev pub load_to : (quotas bases : List ℕ) → BlockMap → ℕ → ℕ → BlockMap
load_to quotas bases h u zero = h
load_to quotas bases h u (suc b) = load_one quotas bases (load_to quotas bases h u b) u b

-- the calls for what lies at a place and goes to the drum, if it has an owner
abbrev pub dump_calls : BlockMap → ℕ → List Call
dump_calls h q = if nat_eq (owner_of h.owners q) 0 then [] else write_call (first_free h.free) false ∷ []

-- the calls for a block that comes from the drum, if it has a copy; the read gives these words
abbrev pub fetch_calls : Option ℕ → List ℕ → List Call
fetch_calls None ws = []
fetch_calls (Some r) ws = read_call r false ws ∷ []

-- the calls for one block
abbrev pub calls_one : (quotas bases : List ℕ) → BlockMap → ℕ → ℕ → List ℕ → List Call
calls_one quotas bases h u b ws =
    if nat_eq (owner_of h.owners (base_of bases u + b)) u then []
    else dump_calls h (base_of bases u + b) ++ fetch_calls (slot_of (emptied quotas bases h (base_of bases u + b)).slots (key quotas u b)) ws

-- the calls for the blocks below n, in rising order; a read of a block gives the words that are told of its place
abbrev pub calls_to : (quotas bases : List ℕ) → BlockMap → ℕ → ℕ → (ℕ → List ℕ) → List Call
calls_to quotas bases h u zero words = []
calls_to quotas bases h u (suc b) words = calls_to quotas bases h u b words ++ calls_one quotas bases (load_to quotas bases h u b) u b (words (base_of bases u + b))

-- both parts, of which the first is nothing where the user stays: its n blocks lie from a place on then
abbrev pub map_before : (quotas bases : List ℕ) → BlockMap → ℕ → (stays : Bool) → BlockMap
map_before quotas bases h u true = h
map_before quotas bases h u false = put_to quotas bases h u core_places

abbrev pub bases_before : List ℕ → ℕ → (stays : Bool) → ℕ → List ℕ
bases_before bases u true base = bases
bases_before bases u false base = slice_set bases u base

abbrev pub calls_before : (quotas bases : List ℕ) → BlockMap → ℕ → (stays : Bool) → List Call
calls_before quotas bases h u true = []
calls_before quotas bases h u false = put_calls_to quotas bases h u core_places

-- several calls more
abbrev pub with_calls : Option CallList → List Call → Option CallList
with_calls told [] = told
with_calls told (c ∷ cs) = with_calls (with_call told c) cs

-- the first calls, of which the one at this place failed
abbrev pub cut : List Call → ℕ → List Call
cut [] k = []
cut (c ∷ cs) zero = record { is_write = c.is_write; at = c.at; failed = true; words = [] } ∷ []
cut (c ∷ cs) (suc k) = c ∷ cut cs k

-- some of these calls were made, from the first on, and the last one that was made failed
abbrev pub FailedIn : Option CallList → Option CallList → List Call → Type 0
FailedIn old new all = (k : ℕ) × ((k < length all) × (new ≡ with_calls old (cut all k)))

-- how many of these calls are writes
abbrev pub count_writes : List Call → ℕ
count_writes [] = 0
count_writes (c ∷ cs) = (if c.is_write then 1 else 0) + count_writes cs

-- how many are reads
abbrev pub count_reads : List Call → ℕ
count_reads [] = 0
count_reads (c ∷ cs) = (if c.is_write then 0 else 1) + count_reads cs
