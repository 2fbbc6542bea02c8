-- claim: the picture of a record, drawn: who ran, the levels, core, and the figures, as one SVG text.
use Rattle.std.specs.Prelude.{ℕ, List, ◌++◌, length, codes}
use Rattle.ctss_types.specs.declared.script.Script.{Script}
use Rattle.ctss_types.specs.declared.history.Record.{Record}
use Rattle.text_model.specs.Parts.{line}
use Rattle.picture_model.specs.Folds.{places_in}
use Rattle.picture_model.specs.Drawing.{back_drawn, figures_drawn, rows_drawn, scale_for, zoom_for}
use Rattle.picture_model.specs.Cores.{owners_of}
use Rattle.picture_model.specs.CorePanel.{core_panel}

-- what is drawn, from back to front, with the owners of core after each load
abbrev pub drawing_with : (scale zoom users places : ℕ) → List (ℕ → ℕ) → Script → Record → List ℕ
drawing_with scale zoom users places owners script rec =
    back_drawn scale zoom users places script.params.swap rec
    ++ (rows_drawn script.params.swap scale zoom users script.accounts rec.entries
    ++ (core_panel scale zoom users places owners rec.entries
    ++ (figures_drawn scale users script rec
    ++ line (codes "</svg>"))))

unfoldable pub drawing_over : List (ℕ → ℕ) → Script → Record → List ℕ
drawing_over owners script rec =
    drawing_with (scale_for (places_in rec)) (zoom_for (places_in rec)) (length script.accounts) (places_in rec)
    owners script rec

-- these owners are those of the script's run
abbrev pub drawing_of : Script → Record → List ℕ
drawing_of script rec = drawing_over (owners_of script) script rec
