-- The first card of words.
use Rattle.std.proofs.Common.{◌≡◌, ℕ, ◌<◌, List, [], ◌∷◌, ◌++◌, length, take, drop, min, arith, refl, sym, subst, append_assoc}
use Rattle.std.proofs.lemmas.List.{append-nil}
use Rattle.std.specs.Prelude.{codes}
use Rattle.std.specs.List.{flat_map}
use Rattle.text_model.specs.Canonical.{octal, word_cards}
use Rattle.text_model.specs.Parts.{line}

-- the first n words on a card, and the others behind it
abbrev split_at : List ℕ → ℕ → List ℕ
split_at ws n = line (codes "O" ++ flat_map octal (take n ws)) ++ word_cards (drop n ws)

one : (x : List ℕ) → line (codes "O" ++ x) ≡ line (codes "O" ++ (x ++ [])) ++ []
one x = rw (append-nil x) (sym (append-nil (line (codes "O" ++ x))))

two : (x y : List ℕ) → line (codes "O" ++ (x ++ y)) ≡ line (codes "O" ++ (x ++ (y ++ []))) ++ []
two x y = rw (append-nil y) (sym (append-nil (line (codes "O" ++ (x ++ y)))))

three : (x y z : List ℕ) → line (codes "O" ++ (x ++ (y ++ z))) ≡ line (codes "O" ++ (x ++ (y ++ (z ++ [])))) ++ []
three x y z = rw (append-nil z) (sym (append-nil (line (codes "O" ++ (x ++ (y ++ z))))))

four : (x y z u : List ℕ) → line (codes "O" ++ (x ++ (y ++ (z ++ u)))) ≡ line (codes "O" ++ (x ++ (y ++ (z ++ (u ++ []))))) ++ []
four x y z u = rw (append-nil u) (sym (append-nil (line (codes "O" ++ (x ++ (y ++ (z ++ u)))))))

five : (x y z u v rest : List ℕ)
    → line (codes "O" ++ (x ++ (y ++ (z ++ (u ++ v))))) ++ rest ≡ line (codes "O" ++ (x ++ (y ++ (z ++ (u ++ (v ++ [])))))) ++ rest
five x y z u v rest = rw (append-nil v) refl

first_split : (ws : List ℕ) → 0 < length ws → word_cards ws ≡ split_at ws (min (length ws) 5)
first_split [] h = absurd (omega arith)
first_split (a ∷ []) h = one (octal a)
first_split (a ∷ b ∷ []) h = two (octal a) (octal b)
first_split (a ∷ b ∷ c ∷ []) h = three (octal a) (octal b) (octal c)
first_split (a ∷ b ∷ c ∷ d ∷ []) h = four (octal a) (octal b) (octal c) (octal d)
first_split (a ∷ b ∷ c ∷ d ∷ e ∷ ws) h =
    let most : min (length (a ∷ b ∷ c ∷ d ∷ e ∷ ws)) 5 ≡ 5 = omega arith in
    let P : ℕ → Type 0 = λ n. word_cards (a ∷ b ∷ c ∷ d ∷ e ∷ ws) ≡ split_at (a ∷ b ∷ c ∷ d ∷ e ∷ ws) n in
    subst P (sym most) (five (octal a) (octal b) (octal c) (octal d) (octal e) (word_cards ws))

pub first_card : (ws : List ℕ) (n : ℕ) → n ≡ min (length ws) 5 → 0 < length ws
    → word_cards ws ≡ line (codes "O" ++ flat_map octal (take n ws)) ++ word_cards (drop n ws)
first_card ws n e h = let P : ℕ → Type 0 = λ k. word_cards ws ≡ split_at ws k in subst P (sym e) (first_split ws h)

-- the cards so far, one more, and those of what is left
pub card_more : (text ws card more : List ℕ) (n : ℕ) → n ≡ min (length ws) 5 → 0 < length ws → card ≡ take n ws → more ≡ drop n ws
    → text ++ word_cards ws ≡ (text ++ line (codes "O" ++ flat_map octal card)) ++ word_cards more
card_more text ws card more n e h f g =
    rw (f, g, first_card ws n e h) (sym (append_assoc text (line (codes "O" ++ flat_map octal (take n ws))) (word_cards (drop n ws))))

-- no words have no cards
pub none_left : (ws : List ℕ) → length ws ≡ 0 → word_cards ws ≡ []
none_left [] none = refl
none_left (w ∷ ws) none = absurd (omega (arith, none))
