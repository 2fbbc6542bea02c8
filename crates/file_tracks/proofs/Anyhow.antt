-- Rows that a disk may have which doesn't tell them.
use Rattle.std.specs.Prelude.{Bool, Option, Some, None, replicate}
use Rattle.std.specs.List.{All}
use Rattle.std.proofs.Common.{◌≡◌, ◌≢◌, ℕ, zero, suc, ◌*◌, ◌<◌, ◌≤◌, min, List, length, refl, sym, ◌∙◌, ap, subst, arith, inl, inr}
use Rattle.std.proofs.lemmas.List.{length-replicate}
use Rattle.std.proofs.lemmas.Bool.{cases_eq}
use Rattle.faults.specs.Faults.{WhereTold}
use Rattle.track_store.proofs.Taken.{taken_below}
use Rattle.track_store.specs.Words.{record_at, tracks_joined}
use Rattle.file_model.specs.Files.{tracks_of_words}
use Rattle.file_tracks.specs.Places.{count_in}
use Rattle.file_tracks.specs.Stored.{occurs, IsWhole, IsDirectory, MayBe}
use Rattle.file_tracks.specs.declared.table.Filed.{Filed}
use Rattle.file_tracks.proofs.Joined.{set_all, other_row, joined_same, whole_rows}
use Rattle.file_tracks.proofs.Replaced.{bit_le, bit_taken}
use Rattle.file_tracks.proofs.Tables.{occurs_at}

-- contents of so many zeros
abbrev pub zeros : ℕ → List (List ℕ)
zeros n = replicate n (replicate 432 0)

pub zeros_row : (n t : ℕ) → t < n → length (record_at (zeros n) t) ≡ 432
zeros_row zero t h = absurd (omega arith)
zeros_row (suc n) zero h = length-replicate {A = ℕ} 432 0
zeros_row (suc n) (suc t) h = zeros_row n t (omega arith)

some : (n : ℕ) → n ≢ 0 → 1 ≤ n
some zero h = absurd (h refl)
some (suc n) h = omega arith

module _ (told : Option (List (List ℕ))) (taken : List Bool) (quota used : ℕ) (fs : List Filed) (usable : IsDirectory told taken quota used fs) where
  within : (t : ℕ) → 1 ≤ occurs t fs → t < length taken
  within t h = taken_below taken t (bit_taken taken t (let a = usable.once t in omega (arith, a, h)))

  pub any_rows : (contents : List (List ℕ)) × (MayBe told contents × All (IsWhole contents) fs)
  any_rows = by_told told refl
    where
      by_told : (o : Option (List (List ℕ))) → told ≡ o → (contents : List (List ℕ)) × (MayBe o contents × All (IsWhole contents) fs)
      by_told None is = (zeros (length taken), (tt, λ i f low t h. zeros_row (length taken) t (within t (let o = occurs_at t fs i f low in omega (arith, o, h)))))
      by_told (Some r) is = (r, (refl, subst (λ (x : Option (List (List ℕ))). WhereTold x (λ contents. All (IsWhole contents) fs)) is usable.whole))

  -- contents in which these tracks of the files hold the words that were read
  pub any_span : (ts span : List ℕ) → ((t : ℕ) → count_in t ts ≤ occurs t fs) → length span ≡ 432 * length ts
      → WhereTold told (λ r. span ≡ tracks_joined r ts)
      → (contents : List (List ℕ)) × (MayBe told contents × (All (IsWhole contents) fs × (tracks_joined contents ts ≡ span)))
  any_span ts span among len given = by_told told refl
    where
      nothing : List (List ℕ)
      nothing = zeros (length taken)

      once : (t : ℕ) → count_in t ts ≤ 1
      once t = let a = usable.once t in let b = bit_le taken t in let o = among t in omega (arith, a, b, o)

      inside : (t : ℕ) → 1 ≤ count_in t ts → t < length nothing
      inside t h = let o = among t in let w = within t (omega (arith, o, h)) in let l = length-replicate {A = List ℕ} (length taken) (replicate 432 0) in omega (arith, w, l)

      row_there : (t : ℕ) → 1 ≤ occurs t fs → length (record_at (set_all nothing ts span) t) ≡ 432
      row_there t h = elim (cases_eq (count_in t ts) 0) [
        | inl none ↦ ap length (other_row nothing ts span t none) ∙ zeros_row (length taken) t (within t h)
        | inr more ↦ whole_rows nothing ts span once inside len t (some (count_in t ts) more)
      ]

      by_told : (o : Option (List (List ℕ))) → told ≡ o → (contents : List (List ℕ)) × (MayBe o contents × (All (IsWhole contents) fs × (tracks_joined contents ts ≡ span)))
      by_told None is = (set_all nothing ts span, (tt, (λ j f k t h. row_there t (let o = occurs_at t fs j f k in omega (arith, o, h)), joined_same nothing ts span once inside len)))
      by_told (Some r) is = (
        r,
        (
          refl,
          (
            subst (λ (x : Option (List (List ℕ))). WhereTold x (λ contents. All (IsWhole contents) fs)) is usable.whole,
            sym (subst (λ (x : Option (List (List ℕ))). WhereTold x (λ r. span ≡ tracks_joined r ts)) is given),
          ),
        ),
      )

-- the tracks of a file hold all its words
pub enough : (n k w : ℕ) → n ≡ 432 * k → k ≡ tracks_of_words w → w ≤ n
enough n k w e t = omega (arith, e, t)

pub least : (n w r : ℕ) → r ≡ min n w → w ≤ n → r ≡ w
least n w r e h = omega (arith, e, h)
