-- The words of segments, while they grow, are those of the definition's segments.
use Rattle.std.proofs.Common.{◌≡◌, ℕ, suc, ◌+◌, ◌*◌, ◌^◌, ◌&&◌, Bool, true, false, List, [], ◌∷◌, ◌++◌, length, refl, sym, ap, ◌∙◌, arith, nat_eq, nat_lt, if◌then◌else◌, append_assoc}
use Rattle.std.proofs.lemmas.Bool.Decides.{nat_tests}
use Rattle.std.proofs.lemmas.List.{append-nil}
use Rattle.fap_model.specs.Decks.{Segment, max_run, add_word, add_words, segment_words}
use Rattle.bss_loader.specs.Runs.{Open, run_words, closed, goes_on, word_in, words_in}

abbrev pub segment : ℕ → List ℕ → Segment
segment first ws = record { first = first; words = ws }

-- done words are those of all segments but the last, behind what the deck begins with
abbrev pub Stands : (pre done : List ℕ) (first : ℕ) (run : List ℕ) → List Segment → Type 0
Stands pre done first [] ss = (ss ≡ []) × (done ≡ pre)
Stands pre done first (w ∷ ws) ss = (init : List Segment) × (ss ≡ init ++ segment first (w ∷ ws) ∷ []) × (done ≡ pre ++ segment_words init)

abbrev pub StandsFor : List ℕ → Open → List Segment → Type 0
StandsFor pre o ss = Stands pre o.done o.first o.run ss

words_of_both : (a b : List Segment) → segment_words (a ++ b) ≡ segment_words a ++ segment_words b
words_of_both [] b = refl
words_of_both (s ∷ ss) b =
    ap (λ (r : List ℕ). (length s.words * 2 ^ 18 + s.first) ∷ r) (rw (words_of_both ss b) (sym (append_assoc s.words (segment_words ss) (segment_words b))))

closed_some : (pre done : List ℕ) (first w : ℕ) (ws : List ℕ) (init : List Segment) → done ≡ pre ++ segment_words init
    → done ++ run_words first (w ∷ ws) ≡ pre ++ segment_words (init ++ segment first (w ∷ ws) ∷ [])
closed_some pre done first w ws init e =
    rw (e, words_of_both init (segment first (w ∷ ws) ∷ []), append-nil ws) (append_assoc pre (segment_words init) (run_words first (w ∷ ws)))

pub closed_by : (pre done : List ℕ) (first : ℕ) (run : List ℕ) (ss : List Segment) → Stands pre done first run ss → done ++ run_words first run ≡ pre ++ segment_words ss
closed_by pre done first [] ss h = rw (h.0, h.1) refl
closed_by pre done first (w ∷ ws) ss h = rw (h.1) (closed_some pre done first w ws h.0 h.2)

add_behind : (init : List Segment) (s : Segment) (place w : ℕ) → add_word (init ++ s ∷ []) place w ≡ init ++ add_word (s ∷ []) place w
add_behind [] s place w = refl
add_behind (i ∷ []) s place w = refl
add_behind (i ∷ j ∷ init) s place w = ap (λ (r : List Segment). i ∷ r) (add_behind (j ∷ init) s place w)

abbrev fits : ℕ → List ℕ → ℕ → Bool
fits first run place = nat_eq (first + length run) place && nat_lt (length run) max_run

swapped : (a b : Bool) → (a && b) ≡ (b && a)
swapped true true = refl
swapped true false = refl
swapped false true = refl
swapped false false = refl

some_step : (pre done : List ℕ) (first x : ℕ) (xs : List ℕ) (place w : ℕ) (init : List Segment) → done ≡ pre ++ segment_words init → (b : Bool)
    → StandsFor pre (if b then record { done = done; first = first; run = (x ∷ xs) ++ w ∷ [] } else record { done = done ++ run_words first (x ∷ xs); first = place; run = w ∷ [] })
    (init ++ (if b then segment first ((x ∷ xs) ++ w ∷ []) ∷ [] else segment first (x ∷ xs) ∷ segment place (w ∷ []) ∷ []))
some_step pre done first x xs place w init e true = (init, refl, e)
some_step pre done first x xs place w init e false =
    (init ++ segment first (x ∷ xs) ∷ [], sym (append_assoc init (segment first (x ∷ xs) ∷ []) (segment place (w ∷ []) ∷ [])), closed_some pre done first x xs init e)

positive : (n : ℕ) → nat_lt 0 (suc n) ≡ true
positive n = grind (arith, nat_tests)

step : (pre done : List ℕ) (first : ℕ) (run : List ℕ) (ss : List Segment) (place w : ℕ) → Stands pre done first run ss
    → StandsFor pre (word_in (record { done = done; first = first; run = run }) place w) (add_word ss place w)
step pre done first [] ss place w h = rw (h.0) ([], refl, append-nil done ∙ h.1 ∙ sym (append-nil pre))
step pre done first (x ∷ xs) ss place w h =
    let both : goes_on (record { done = done; first = first; run = x ∷ xs }) place ≡ fits first (x ∷ xs) place
    = rw (positive (length xs)) (swapped (nat_lt (length (x ∷ xs)) max_run) (nat_eq (first + length (x ∷ xs)) place)) in
    rw (h.1, add_behind h.0 (segment first (x ∷ xs)) place w, both) (some_step pre done first x xs place w h.0 h.2 (fits first (x ∷ xs) place))

pub steps : (pre : List ℕ) (o : Open) (ss : List Segment) (place : ℕ) (ws : List ℕ) → StandsFor pre o ss → StandsFor pre (words_in o place ws) (add_words ss place ws)
steps pre o ss place [] h = h
steps pre o ss place (w ∷ ws) h = steps pre (word_in o place w) (add_word ss place w) (suc place) ws (step pre o.done o.first o.run ss place w h)

-- all words from a place on behind a first one
pub words_are : (head place : ℕ) (ws : List ℕ)
    → closed (words_in (record { done = head ∷ []; first = 0; run = [] }) place ws) ≡ head ∷ segment_words (add_words [] place ws)
words_are head place ws =
    let begin : Open = record { done = head ∷ []; first = 0; run = [] } in
    let o : Open = words_in begin place ws in
    closed_by (head ∷ []) o.done o.first o.run (add_words [] place ws) (steps (head ∷ []) begin [] place ws (refl, refl))
