use Rattle.std.proofs.Common.{◌≡◌, ℕ, List, map, ap, ◌∙◌}
use Rattle.ctss_types.specs.declared.script.Account.{Account}
use Rattle.ctss_types.specs.declared.script.Script.{Script}
use Rattle.ctss_types.specs.declared.history.Record.{Record}
use Rattle.ctss_types.specs.declared.history.Entry.{Entry}
use Rattle.picture_model.specs.Cores.{owner_in}
use Rattle.picture_model.specs.CorePanel.{core_panel}
use Rattle.picture_model.specs.Drawing.{scale_for, zoom_for, rows_drawn}
use Rattle.picture_model.specs.Picture.{drawing_with, drawing_over}
use Rattle.text_writer.proofs.Added.{◌⨾◌, adds_is}
use Rattle.schedule_drawing.proofs.drawing.add_drawing.Goals as goal

-- the rows of the same accounts over the same entries
same_rows : (swap scale zoom users : ℕ) {a b : List Account} {es fs : List Entry} → a ≡ b → es ≡ fs
    → rows_drawn swap scale zoom users a es ≡ rows_drawn swap scale zoom users b fs
same_rows swap scale zoom users {b = b} {es = es} p q =
    ap (λ (l : List Account). rows_drawn swap scale zoom users l es) p ∙ ap (λ (l : List Entry). rows_drawn swap scale zoom users b l) q

-- core over the same entries
same_core : (scale zoom users last : ℕ) (owners : List (ℕ → ℕ)) {es fs : List Entry} → es ≡ fs
    → core_panel scale zoom users last owners es ≡ core_panel scale zoom users last owners fs
same_core scale zoom users last owners is = ap (λ (l : List Entry). core_panel scale zoom users last owners l) is

-- the same picture, laid out by equal numbers
same_layout : (owners : List (ℕ → ℕ)) (script : Script) (rec : Record) {s t y z u v p q : ℕ} → s ≡ t → y ≡ z → u ≡ v → p ≡ q
    → drawing_with s y u p owners script rec ≡ drawing_with t z v q owners script rec
same_layout owners script rec {t = t} {y = y} {z = z} {u = u} {v = v} {p = p} one two three four =
    ap (λ (n : ℕ). drawing_with n y u p owners script rec) one ∙ ap (λ (n : ℕ). drawing_with t n u p owners script rec) two
    ∙ ap (λ (n : ℕ). drawing_with t z n p owners script rec) three ∙ ap (λ (n : ℕ). drawing_with t z v n owners script rec) four

pub returns : goal.returns
unfolding drawing_over
returns g c =
    let owners = map owner_in c.args.maps.now in
    adds_is
    (same_layout owners c.args.script.now c.args.run.now (c.scale_for.ensures.value ∙ ap scale_for c.places_in-places.ensures)
    (c.zoom_for.ensures.value ∙ ap zoom_for c.places_in-places.ensures) c.len.ensures
    c.places_in-places.ensures)
    (c.add_back.ensures
    ⨾ adds_is (same_rows c.args.script.now.params.swap c.scale_for.result c.zoom_for.result c.len.result c.as_slice.ensures c.as_slice-2.ensures)
    c.add_rows.ensures
    ⨾ adds_is (same_core c.scale_for.result c.zoom_for.result c.len.result c.places_in-places.result owners c.as_slice-3.ensures)
    c.add_cores.ensures
    ⨾ c.add_figure_lines.ensures ⨾ c.line.ensures)
