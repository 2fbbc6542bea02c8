-- The records of a disk after words were written into some, where it tells them.
use Rattle.std.specs.Prelude.{Option, Some, None, drop}
use Rattle.std.proofs.Common.{◌≡◌, ℕ, List, [], ◌∷◌, refl, sym, ap, subst}
use Rattle.faults.specs.Faults.{WhereTold}
use Rattle.track_store.specs.Words.{with_words}
use Rattle.file_tracks.specs.Stored.{MayBe}
use Rattle.file_tracks.specs.Seen.{tells_of}
use Rattle.file_tracks.proofs.Joined.{set_all, with_words_is}

no_rows : (ts ws : List ℕ) → with_words None ts ws ≡ None
no_rows [] ws = refl
no_rows (t ∷ ts) ws = no_rows ts (drop 432 ws)

-- what holds of them
pub told_words : (o : Option (List (List ℕ))) (ts ws : List ℕ) (P : List (List ℕ) → Type 0) → WhereTold o (λ was. P (set_all was ts ws)) → WhereTold (with_words o ts ws) P
told_words None ts ws P h = subst (λ (q : Option (List (List ℕ))). WhereTold q P) (sym (no_rows ts ws)) tt
told_words (Some r) ts ws P h = subst (λ (q : Option (List (List ℕ))). WhereTold q P) (sym (with_words_is r ts ws)) h

-- what holds of them and of those before
pub both_words : (o : Option (List (List ℕ))) (ts ws : List ℕ) (P : List (List ℕ) → List (List ℕ) → Type 0) → WhereTold o (λ was. P was (set_all was ts ws))
    → WhereTold o (λ was. WhereTold (with_words o ts ws) (P was))
both_words None ts ws P h = tt
both_words (Some r) ts ws P h = told_words (Some r) ts ws (P r) h

-- records that it may have, if the written words are these
pub may_words : (o : Option (List (List ℕ))) (ts ws vs : List ℕ) (was : List (List ℕ)) → MayBe o was → WhereTold o (λ r. ws ≡ vs) → MayBe (with_words o ts ws) (set_all was ts vs)
may_words None ts ws vs was m e = told_words None ts ws (λ r. r ≡ set_all was ts vs) tt
may_words (Some r) ts ws vs was m e = told_words (Some r) ts ws (λ p. p ≡ set_all was ts vs) (λ j. set_all (m j) ts (e j))

-- a disk that is written tells as before
pub tells_still : (o : Option (List (List ℕ))) (ts ws : List ℕ) → tells_of (with_words o ts ws) ≡ tells_of o
unfolding tells_of
tells_still None ts ws = ap tells_of (no_rows ts ws)
tells_still (Some contents) ts ws = ap tells_of (with_words_is contents ts ws)
