-- One user more of the lists of a made script.
use Rattle.std.proofs.Common.{◌≡◌, ◌<◌, ◌-◌, ℕ, zero, suc, List, [], ◌∷◌, ◌++◌, ap, ◌∙◌, arith, append_assoc}
use Rattle.ctss_types.specs.declared.script.Account.{Account}
use Rattle.ctss_types.specs.declared.script.Timed.{Timed}
use Rattle.ctss_types.specs.declared.file.OwnedFile.{OwnedFile}
use Rattle.text_model.specs.Made.{account_at, made_accounts, drawn, file_at, made_files, events_at, made_events}

-- a file more
pub one_file : (left i x : ℕ) (list : List OwnedFile) → 0 < left → (list ++ file_at i x ∷ []) ++ made_files (left - 1) (suc i) (drawn (drawn x)) ≡ list ++ made_files left i x
one_file zero i x list some = absurd (omega (arith, some))
one_file (suc k) i x list some =
    let count : suc k - 1 ≡ k = omega arith in
    append_assoc list (file_at i x ∷ []) (made_files (suc k - 1) (suc i) (drawn (drawn x))) ∙ (λ j. list ++ file_at i x ∷ made_files (count j) (suc i) (drawn (drawn x)))

-- an item more behind a list that is said in other words
one_more : {X : Type 0} (xs ys : List X) (x : X) (zs : List X) → ys ≡ xs → zs ≡ ys ++ x ∷ [] → zs ≡ xs ++ x ∷ []
one_more xs ys x zs same is = is ∙ ap (λ (l : List _). l ++ x ∷ []) same

-- six items, one after another
pub six_more : {X : Type 0} (xs l1 l2 l3 l4 l5 l6 : List X) (a b c d e f : X) → l1 ≡ xs ++ a ∷ [] → l2 ≡ l1 ++ b ∷ [] → l3 ≡ l2 ++ c ∷ []
    → l4 ≡ l3 ++ d ∷ [] → l5 ≡ l4 ++ e ∷ [] → l6 ≡ l5 ++ f ∷ [] → l6 ≡ xs ++ a ∷ b ∷ c ∷ d ∷ e ∷ f ∷ []
six_more xs l1 l2 l3 l4 l5 l6 a b c d e f h1 h2 h3 h4 h5 h6 =
    one_more ((((((xs ++ a ∷ []) ++ b ∷ []) ++ c ∷ []) ++ d ∷ []) ++ e ∷ [])) l5 f l6
    (one_more (((((xs ++ a ∷ []) ++ b ∷ []) ++ c ∷ []) ++ d ∷ [])) l4 e l5
    (one_more ((((xs ++ a ∷ []) ++ b ∷ []) ++ c ∷ [])) l3 d l4
    (one_more (((xs ++ a ∷ []) ++ b ∷ [])) l2 c l3
    (one_more (xs ++ a ∷ []) l1 b l2 h1 h2) h3) h4) h5) h6
    ∙ simp append_assoc
