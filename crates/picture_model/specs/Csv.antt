-- claim: what the entries of a schedule cover, as rows of comma-separated values.
use Rattle.std.specs.Prelude.{ℕ, ◌+◌, ◌*◌, List, [], ◌∷◌, ◌++◌, codes}
use Rattle.std.specs.List.{flat_map}
use Rattle.std.specs.Fmt.{decimal}
use Rattle.ctss_types.specs.Entries.{cause_text}
use Rattle.ctss_types.specs.declared.script.Script.{Script}
use Rattle.ctss_types.specs.declared.history.Record.{Record}
use Rattle.ctss_types.specs.declared.history.Entry.{Entry}
use Rattle.ctss_types.specs.declared.history.Entry.TheVariants.{Idle, Swap, Serve}
use Rattle.text_model.specs.Parts.{line}

-- a number behind a comma
abbrev pub comma : ℕ → List ℕ
comma n = 44 ∷ decimal n

abbrev pub csv_head : List ℕ
csv_head = line (codes "KIND,FROM,UNTIL,USER,LEVEL,CAUSE,DUMPED,READ,CLEARED")

-- the row of an entry that covers time, at so many ticks a block
abbrev pub csv_row : ℕ → Entry → List ℕ
csv_row swap (Serve tick u level ran cause) =
    line (codes "SERVE" ++ (comma tick ++ (comma (tick + ran) ++ (comma u ++ (comma level ++ (44 ∷ (cause_text cause ++ codes ",,,")))))))
csv_row swap (Swap tick u dumped read fresh) =
    line (codes "SWAP" ++ (comma tick ++ (comma (tick + swap * (dumped + read)) ++ (comma u ++ (codes ",," ++ (comma dumped ++ (comma read ++ comma fresh)))))))
csv_row swap (Idle from until) = line (codes "IDLE" ++ (comma from ++ (comma until ++ codes ",,,,,,")))
csv_row swap _ = []

unfoldable pub csv_of : Script → Record → List ℕ
csv_of script rec = csv_head ++ flat_map (csv_row script.params.swap) rec.entries
