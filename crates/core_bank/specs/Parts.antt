-- proof: words with others in the place of some.
use Rattle.std.specs.Prelude.{ℕ, ◌-◌, List, ◌++◌, take, drop, length}

-- the words with others from one place up to another
abbrev pub with_middle : List ℕ → ℕ → ℕ → List ℕ → List ℕ
with_middle words from to ws = take from words ++ (ws ++ drop (to - from) (drop from words))

-- the words with others in their place, as many as there were
abbrev pub with_words : List ℕ → List ℕ → List ℕ
with_words old ws = take (length old) (ws ++ drop (length ws) old)
