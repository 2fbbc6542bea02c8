-- claim: the summary of the run of a made script.
use Rattle.std.specs.Prelude.{ℕ, List, ◌++◌, codes, length, sum, map}
use Rattle.ctss_types.specs.declared.script.Script.{Script}
use Rattle.ctss_types.specs.declared.history.Record.{Record}
use Rattle.ctss_types.specs.declared.history.Item.{Item}
use Rattle.time_sharing.specs.Sums.{serves_in, swaps_in, dumped_in, read_in, steps_in}
use Rattle.text_model.specs.Parts.{line, number}

-- all items of all transcripts
abbrev pub items_in : List (List Item) → ℕ
items_in transcripts = sum (map (λ (items : List Item). length items) transcripts)

-- a word and its number
abbrev pub counted : List ℕ → ℕ → List ℕ
counted word n = line (word ++ number n)

unfoldable pub summary_of : ℕ → Script → Record → List ℕ
summary_of n script rec =
    counted (codes "LOAD") n
    ++ (counted (codes "USERS") (length script.accounts)
    ++ (counted (codes "ITEMS") (items_in rec.transcripts)
    ++ (counted (codes "SERVES") (serves_in rec.entries)
    ++ (counted (codes "SWAPS") (swaps_in rec.entries)
    ++ (counted (codes "DUMPED") (dumped_in rec.entries)
    ++ (counted (codes "READ") (read_in rec.entries)
    ++ (counted (codes "STEPS") (steps_in rec.entries)
    ++ counted (codes "END") rec.clock)))))))
