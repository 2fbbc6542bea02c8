-- claim: which text of a run the words ask for: its picture drawn or in characters, its figures, or what its entries cover.
use Rattle.std.specs.Prelude.{ℕ, if◌then◌else◌, List, [], ◌∷◌, Option, Some, None, bytes_eq, codes}
use Rattle.std.specs.Option.{option_map}
use Rattle.picture_model.specs.CoreLines.{chart_with_core}
use Rattle.picture_model.specs.Csv.{csv_of}
use Rattle.picture_model.specs.Picture.{drawing_of}
use Rattle.picture_model.specs.FigureLines.{figures_of}
use Rattle.script_show.specs.Shown.{ShownText}
use Rattle.run_picture.specs.declared.form.Form.{Form}
use Rattle.run_picture.specs.declared.form.Form.TheVariants as form

-- the text of a run in a form
abbrev pub text_in : Form → ShownText
text_in form.Svg = drawing_of
text_in form.Text = chart_with_core
text_in form.Figures = figures_of
text_in form.Csv = csv_of

-- the form that a word names
abbrev pub form_named : List ℕ → Option Form
form_named w =
    if bytes_eq w (codes "svg") then Some form.Svg
    else (if bytes_eq w (codes "text") then Some form.Text
    else (if bytes_eq w (codes "figures") then Some form.Figures
    else (if bytes_eq w (codes "csv") then Some form.Csv else None)))

-- one word, that names a form
abbrev pub asked : List (List ℕ) → Option ShownText
asked [] = None
asked (w ∷ []) = option_map text_in (form_named w)
asked (w ∷ x ∷ ws) = None
