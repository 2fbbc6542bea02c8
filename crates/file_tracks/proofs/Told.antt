-- What is said where a medium tells.
use Rattle.std.specs.Prelude.{Option, None, Some, drop}
use Rattle.std.proofs.Common.{◌≡◌, ℕ, ◌+◌, ◌<◌, ◌≤◌, List, [], ◌∷◌, ◌++◌, length, get_or, refl, sym, ap, ◌∙◌, append_assoc}
use Rattle.std.proofs.lemmas.List.{drop_more, drop_all}
use Rattle.faults.specs.Faults.{WhereTold}
use Rattle.track_store.specs.Words.{record_at, tracks_joined}

pub told_all : {X : Type 0} (o : Option X) (P : X → Type 0) → ((x : X) → P x) → WhereTold o P
told_all None P h = tt
told_all (Some x) P h = h x

pub told_map : {X : Type 0} (o : Option X) (P Q : X → Type 0) → ((x : X) → P x → Q x) → WhereTold o P → WhereTold o Q
told_map None P Q h p = tt
told_map (Some x) P Q h p = h x p

pub told_both : {X : Type 0} (o : Option X) (P Q R : X → Type 0) → ((x : X) → P x → Q x → R x) → WhereTold o P → WhereTold o Q → WhereTold o R
told_both None P Q R h p q = tt
told_both (Some x) P Q R h p q = h x p q

-- the words of tracks, one track on
pub joined_more : (contents : List (List ℕ)) (ts : List ℕ) (i : ℕ) (xs ys : List ℕ) → i < length ts → ys ≡ xs ++ record_at contents (get_or ts i 0) → tracks_joined contents ts ≡ xs ++ tracks_joined contents (drop i ts)
    → tracks_joined contents ts ≡ ys ++ tracks_joined contents (drop (i + 1) ts)
joined_more contents ts i xs ys inside more is =
    is
    ∙ ap (λ (us : List ℕ). xs ++ tracks_joined contents us) (drop_more ts i 0 inside)
    ∙ sym (append_assoc xs (record_at contents (get_or ts i 0)) (tracks_joined contents (drop (i + 1) ts)))
    ∙ ap (λ (zs : List ℕ). zs ++ tracks_joined contents (drop (i + 1) ts)) (sym more)

append-nil : (xs : List ℕ) → xs ++ [] ≡ xs
append-nil [] = refl
append-nil (x ∷ xs) = ap (λ (ys : List ℕ). x ∷ ys) (append-nil xs)

pub joined_end : (contents : List (List ℕ)) (ts : List ℕ) (i : ℕ) (xs : List ℕ) → length ts ≤ i → tracks_joined contents ts ≡ xs ++ tracks_joined contents (drop i ts) → xs ≡ tracks_joined contents ts
joined_end contents ts i xs past is = sym (is ∙ ap (λ (us : List ℕ). xs ++ tracks_joined contents us) (drop_all i ts past) ∙ append-nil xs)
