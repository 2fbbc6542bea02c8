-- Words of six characters each.
use Rattle.std.proofs.Common.{◌≡◌, ℕ, ◌+◌, ◌-◌, ◌*◌, ◌<◌, ◌≤◌, List, [], ◌∷◌, ◌++◌, length, take, drop, replicate, zero, suc, arith, refl, sym, ap, ◌∙◌, append_assoc, length-take, length-append}
use Rattle.std.proofs.lemmas.List.{take-replicate, drop-replicate, take-take, drop-take, length-replicate, append-nil}
use Rattle.ctss_types.specs.Words.{name_of}
use Rattle.fap_model.specs.Statements.{packed_words}
use Rattle.fap_read.specs.Given.{words_in}
use Rattle.fap_read.proofs.Blanks.{columns_padded}

dropped_padded : (j k m : ℕ) (xs : List ℕ) → j + k ≤ m → take k (drop j (xs ++ replicate m 32)) ≡ take k (drop j xs ++ replicate k 32)
dropped_padded zero k m xs h = columns_padded k m xs (omega arith) ∙ sym (columns_padded k k xs (omega arith))
dropped_padded (suc j) k m [] h =
    ap (λ (l : List ℕ). take k l) (drop-replicate (suc j) m 32)
    ∙ take-replicate k (m - suc j) 32 (omega arith)
    ∙ sym (take-replicate k k 32 (omega arith))
dropped_padded (suc j) k m (x ∷ xs) h = dropped_padded j k m xs (omega arith)

-- blanks behind a name of at most six characters change nothing
padded_name : (t : List ℕ) → length t ≤ 6 → name_of (t ++ replicate (6 - length t) 32) ≡ name_of t
unfolding name_of
padded_name t h =
    let zeros : length {A = ℕ} (replicate (6 - length t) 32) ≡ 6 - length t = length-replicate (6 - length t) 32 in
    let full : 6 - length (t ++ replicate (6 - length t) 32) ≡ 0 = simp length-append (omega (arith, zeros)) in
    rw (full, append-nil (t ++ replicate (6 - length t) 32)) refl

first_name : (text : List ℕ) (m : ℕ) → 6 ≤ m → name_of (take 6 (take m (text ++ replicate m 32))) ≡ name_of (take 6 text)
first_name text m h =
    let short : length (take 6 text) ≤ 6 = simp length-take (omega arith) in
    ap name_of (take-take 6 m (text ++ replicate m 32) h ∙ columns_padded 6 m text h) ∙ padded_name (take 6 text) short

other_words : (text : List ℕ) (k m : ℕ) → m ≡ 6 + k → drop 6 (take m (text ++ replicate m 32)) ≡ take k (drop 6 text ++ replicate k 32)
other_words text k m e =
    ap (λ (n : ℕ). drop 6 (take n (text ++ replicate m 32))) e ∙ drop-take 6 k (text ++ replicate m 32) ∙ dropped_padded 6 k m text (omega arith)

words_more : (n m : ℕ) (text : List ℕ) → m ≡ suc n → words_in m text ≡ name_of (take 6 text) ∷ words_in n (drop 6 text)
words_more n m text e =
    let more : 6 * m ≡ 6 + 6 * n = omega arith in
    ap (λ (k : ℕ). packed_words k (take (6 * m) (text ++ replicate (6 * m) 32))) e
    ∙ ap (λ (w : ℕ). w ∷ packed_words n (drop 6 (take (6 * m) (text ++ replicate (6 * m) 32)))) (first_name text (6 * m) (omega arith))
    ∙ ap (λ (l : List ℕ). name_of (take 6 text) ∷ packed_words n l) (other_words text (6 * n) (6 * m) more)

-- a word more
pub word_done : (words news rest first others total : List ℕ) (left w : ℕ) → 0 < left → first ≡ take 6 rest → others ≡ drop 6 rest → w ≡ name_of first
    → news ≡ words ++ w ∷ [] → words ++ words_in left rest ≡ total → news ++ words_in (left - 1) others ≡ total
word_done words news rest first others total left w h f o n e i =
    let word : w ≡ name_of (take 6 rest) = n ∙ ap name_of f in
    let some : left ≡ suc (left - 1) = omega arith in
    ap (λ (l : List ℕ). l ++ words_in (left - 1) others) e
    ∙ append_assoc words (w ∷ []) (words_in (left - 1) others)
    ∙ ap (λ (v : ℕ). words ++ v ∷ words_in (left - 1) others) word
    ∙ ap (λ (l : List ℕ). words ++ name_of (take 6 rest) ∷ words_in (left - 1) l) o
    ∙ ap (λ (l : List ℕ). words ++ l) (sym (words_more (left - 1) left rest some))
    ∙ i
