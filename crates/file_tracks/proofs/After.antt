-- What a port is after a call of its directory.
use Rattle.std.specs.Prelude.{Bool, true, false, Option, None}
use Rattle.std.proofs.Common.{◌≡◌, ℕ, ◌+◌, ◌≤◌, List, length, refl, sym, ◌∙◌, ap, subst, arith}
use Rattle.faults.specs.Faults.{WhereTold}
use Rattle.track_store.specs.Tracks.{count_taken, ServesTracks}
use Rattle.track_store.specs.Words.{record_at}
use Rattle.file_tracks.specs.Stored.{occurs, IsDirectory, StandBeside, LeavesOthers}
use Rattle.file_tracks.specs.Directories.{IsOne}
use Rattle.file_tracks.specs.Seen.{tells_of}
use Rattle.file_tracks.specs.Kept.{IsAfter, held_still, after_none, after_both}
use Rattle.file_tracks.specs.Tracked.{Tracked, IsOn, Frees}
use Rattle.file_tracks.specs.declared.table.Filed.{Filed}
use Rattle.file_tracks.specs.declared.table.TrackTable.{TrackTable}

-- a test that is yes only where something holds
pub not_yes : (b : Bool) (P : Type 0) → (b ≡ true → P) → (P → ⊥) → b ≡ false
not_yes true P is other = absurd (other (is refl))
not_yes false P is other = refl

-- what holds of one directory by itself
pub one_of : (o : Option (List (List ℕ))) (taken : List Bool) (d : TrackTable) → IsDirectory o taken d.quota d.used d.files.items → IsOne None d
one_of o taken d h = record { few = h.few; counted = h.counted; tracked = h.tracked; modes = h.modes; differ = h.differ; whole = tt }

-- tracks elsewhere, where nothing is written
pub beside_only : (o o' : Option (List (List ℕ))) (taken taken' : List Bool) (fs fs' : List Filed) → o' ≡ o
    → ((others : ℕ → ℕ) → StandBeside others taken fs → StandBeside others taken' fs')
    → (others : ℕ → ℕ) → StandBeside others taken fs → LeavesOthers o o' taken taken' fs fs' others
beside_only o o' taken taken' fs fs' same h others beside = record {
  beside = h others beside;
  held = subst (λ (p : Option (List (List ℕ))). WhereTold o (λ was. WhereTold p (λ now. (t : ℕ) → 1 ≤ others t → record_at now t ≡ record_at was t))) (sym same) (held_still o others);
}

-- a call that reads
pub after_read : (o o' : Option (List (List ℕ))) (taken taken' : List Bool) (d : TrackTable) → o' ≡ o → taken' ≡ taken → IsAfter o o' taken taken' d d
after_read o o' taken taken' d same tracks = record {
  telling = ap tells_of same;
  many = ap length tracks;
  counts = ap (λ (ts : List Bool). count_taken ts + d.used) tracks;
  others = beside_only o o' taken taken' d.files.items d.files.items same (λ others beside. subst (λ (ts : List Bool). StandBeside others ts d.files.items) (sym tracks) beside);
}

-- a call that only takes tracks and gives them back
pub after_taking : (o o' : Option (List (List ℕ))) (taken taken' : List Bool) (d d' : TrackTable) → o' ≡ o → length taken' ≡ length taken
    → count_taken taken' + d.used ≡ count_taken taken + d'.used → ((others : ℕ → ℕ) → StandBeside others taken d.files.items → StandBeside others taken' d'.files.items)
    → IsAfter o o' taken taken' d d'
after_taking o o' taken taken' d d' same many counts beside = record {
  telling = ap tells_of same;
  many = many;
  counts = counts;
  others = beside_only o o' taken taken' d.files.items d'.files.items same beside;
}

-- a call of the table alone
pub after_naming : (o : Option (List (List ℕ))) (taken : List Bool) (d d' : TrackTable) → d'.used ≡ d.used → ((t : ℕ) → occurs t d'.files.items ≡ occurs t d.files.items)
    → IsAfter o o taken taken d d'
after_naming o taken d d' used places =
    after_taking o o taken taken d d' refl refl (ap (λ (n : ℕ). count_taken taken + n) (sym used))
    (λ others beside t. (let a = beside t in let b = places t in omega (arith, a, b)))

-- a call of the store that does nothing, and two calls
pub frees_none : (s : Tracked) (d : TrackTable) → IsOn s d → Frees s s d d
frees_none s d on = record { on = on; after = after_none s.contents s.taken d; quota = refl; less = omega arith }

pub frees_both : {r s t : Tracked} {d e f : TrackTable} → Frees r s d e → Frees s t e f → Frees r t d f
frees_both one two = record {
  on = two.on;
  after = after_both one.after two.after;
  quota = two.quota ∙ one.quota;
  less = (let a = one.less in let b = two.less in omega (arith, a, b));
}

-- a disk that serves still does
pub serves_still : (o o' : Option (List (List ℕ))) (count count' each each' n n' : ℕ) → ServesTracks o count each n → o' ≡ o → count' ≡ count → each' ≡ each → n' ≡ n → ServesTracks o' count' each' n'
serves_still o o' count count' each each' n n' h same counts eachs many =
    subst (λ (p : Option (List (List ℕ))). ServesTracks p count' each' n') (sym same)
    (subst (λ (k : ℕ). ServesTracks o k each' n') (sym counts) (subst (λ (k : ℕ). ServesTracks o count k n') (sym eachs) (subst (λ (k : ℕ). ServesTracks o count each k) (sym many) h)))
