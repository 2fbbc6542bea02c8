-- proof: the words of segments while they grow: the words of all segments but the last, and the last one by itself.
use Rattle.std.specs.Prelude.{ℕ, suc, ◌+◌, ◌*◌, ◌^◌, Bool, ◌&&◌, nat_eq, nat_lt, if◌then◌else◌, List, [], ◌∷◌, ◌++◌, length}
use Rattle.fap_model.specs.Decks.{max_run}

pub record Open : Type 0 where
  pub done : List ℕ
  pub first : ℕ
  pub run : List ℕ

-- the words of a segment with its header; none of an empty one
abbrev pub run_words : ℕ → List ℕ → List ℕ
run_words first [] = []
run_words first (w ∷ ws) = (length (w ∷ ws) * 2 ^ 18 + first) ∷ w ∷ ws

abbrev pub ended : Open → List ℕ
ended o = o.done ++ run_words o.first o.run

-- whether a word at a place goes on with the last segment
abbrev pub goes_on : Open → ℕ → Bool
goes_on o place = nat_lt 0 (length o.run) && (nat_lt (length o.run) max_run && nat_eq (o.first + length o.run) place)

abbrev pub word_in : Open → ℕ → ℕ → Open
word_in o place w =
    if goes_on o place then record { done = o.done; first = o.first; run = o.run ++ w ∷ [] } else record { done = ended o; first = place; run = w ∷ [] }

abbrev pub words_in : Open → ℕ → List ℕ → Open
words_in o place [] = o
words_in o place (w ∷ ws) = words_in (word_in o place w) (suc place) ws

abbrev pub closed : Open → List ℕ
closed o = ended o
