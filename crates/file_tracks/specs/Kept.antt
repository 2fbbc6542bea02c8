-- proof: what a port over a directory on tracks needs, and what its calls leave of the tracks that stand elsewhere.
use Rattle.std.specs.Prelude.{◌≡◌, refl, ℕ, ◌+◌, ◌≤◌, ◌<◌, Bool, false, List, length, Option, None, Some}
use Rattle.std.proofs.Common.{◌∙◌, sym, arith, le_refl, le_trans, true≢false}
use Rattle.faults.specs.Faults.{WhereTold}
use Rattle.track_store.specs.Tracks.{count_taken, ServesTracks}
use Rattle.track_store.specs.Words.{record_at}
use Rattle.file_tracks.specs.Stored.{IsDirectory, StandBeside, LeavesOthers}
use Rattle.file_tracks.specs.Seen.{tells_of}
use Rattle.file_tracks.specs.declared.table.TrackTable.{TrackTable}

-- the disk serves the tracks, the directory stands on them, and no call of the disk has failed
pub record IsPort (contents : Option (List (List ℕ))) (count each : ℕ) (taken : List Bool) (d : TrackTable) (failed : Bool) : Type 0 where
  pub directory : IsDirectory contents taken d.quota d.used d.files.items
  pub serves : ServesTracks contents count each (length taken)
  pub small : d.quota < 65536
  pub well : failed ≡ false

-- the disk tells its records as before, as many tracks more are taken as the directory uses more, and what stands elsewhere is left
pub record IsAfter (contents contents' : Option (List (List ℕ))) (taken taken' : List Bool) (d d' : TrackTable) : Type 0 where
  pub telling : tells_of contents' ≡ tells_of contents
  pub many : length taken' ≡ length taken
  pub counts : count_taken taken' + d.used ≡ count_taken taken + d'.used
  pub others : (others : ℕ → ℕ) → StandBeside others taken d.files.items → LeavesOthers contents contents' taken taken' d.files.items d'.files.items others

-- what calls leave: as long as none has failed at the disk, all tracks elsewhere are as they were
pub record CallsLeave (contents contents' : Option (List (List ℕ))) (taken taken' : List Bool) (faults faults' : ℕ) (d d' : TrackTable) (failed failed' : Bool) : Type 0 where
  pub quota : d'.quota ≡ d.quota
  pub rises : faults ≤ faults'
  pub after : failed' ≡ false → (failed ≡ false) × IsAfter contents contents' taken taken' d d'

-- tracks that stand elsewhere hold what they held
abbrev pub SameElsewhere : Option (List (List ℕ)) → Option (List (List ℕ)) → (ℕ → ℕ) → Type 0
SameElsewhere contents contents' others = WhereTold contents (λ was. WhereTold contents' (λ now. (t : ℕ) → 1 ≤ others t → record_at now t ≡ record_at was t))

pub held_still : (contents : Option (List (List ℕ))) (others : ℕ → ℕ) → SameElsewhere contents contents others
held_still None others = tt
held_still (Some r) others = λ t some. refl

held_both : (a b c : Option (List (List ℕ))) (others : ℕ → ℕ) → tells_of b ≡ tells_of a → SameElsewhere a b others → SameElsewhere b c others → SameElsewhere a c others
unfolding tells_of
held_both None b c others told x y = tt
held_both (Some r) None c others told x y = absurd (true≢false (sym told))
held_both (Some r) (Some s) None others told x y = tt
held_both (Some r) (Some s) (Some p) others told x y = λ t some. y t some ∙ x t some

pub after_none : (contents : Option (List (List ℕ))) (taken : List Bool) (d : TrackTable) → IsAfter contents contents taken taken d d
after_none contents taken d = record {
  telling = refl;
  many = refl;
  counts = refl;
  others = λ others beside. record { beside = beside; held = held_still contents others };
}

pub after_both : {a b c : Option (List (List ℕ))} {s t u : List Bool} {d e f : TrackTable} → IsAfter a b s t d e → IsAfter b c t u e f → IsAfter a c s u d f
after_both {a = a} {b = b} {c = c} one two = record {
  telling = two.telling ∙ one.telling;
  many = two.many ∙ one.many;
  counts = (let p = one.counts in let q = two.counts in omega (arith, p, q));
  others = λ others beside.
      (let x = one.others others beside in
      let y = two.others others x.beside in
      record { beside = y.beside; held = held_both a b c others one.telling x.held y.held });
}

pub goes_stays : (contents : Option (List (List ℕ))) (taken : List Bool) (faults : ℕ) (d : TrackTable) (failed : Bool) → CallsLeave contents contents taken taken faults faults d d failed failed
goes_stays contents taken faults d failed = record { quota = refl; rises = le_refl faults; after = λ well. (well, after_none contents taken d) }

pub goes_both : {a b c : Option (List (List ℕ))} {s t u : List Bool} {k m n : ℕ} {d e f : TrackTable} {p q r : Bool} → CallsLeave a b s t k m d e p q → CallsLeave b c t u m n e f q r → CallsLeave a c s u k n d f p r
goes_both one two = record {
  quota = two.quota ∙ one.quota;
  rises = le_trans one.rises two.rises;
  after = λ well. (let y = two.after well in let x = one.after y.0 in (x.0, after_both x.1 y.1));
}
