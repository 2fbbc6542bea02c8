-- The marks of a row from an entry on: those of the entry, and those that are left behind it.
use Rattle.std.proofs.Common.{◌≡◌, ◌<◌, ◌+◌, ℕ, List, ◌++◌, length, drop, get_or, sym, ap, ◌∙◌}
use Rattle.ctss_types.specs.declared.history.Entry.{Entry}
use Rattle.picture_model.specs.declared.request.Track.{Track}
use Rattle.picture_model.specs.Folds.{cut_of}
use Rattle.picture_model.specs.Requests.{track_after}
use Rattle.picture_model.specs.Marks.{event_marks, event_row, level_marks, level_row, served_marks, served_row}
use Rattle.schedule_figures.proofs.Visits.{one_less}

pub events_left : (u cut n i : ℕ) (es : List Entry) (e : Entry) → i < length es → e ≡ get_or es i e → n ≡ cut_of e
    → event_row u cut (drop i es) ≡ event_marks u cut e ++ event_row u (cut + n) (drop (i + 1) es)
events_left u cut n i es e within is same =
    ap (λ (l : List Entry). event_row u cut l) (one_less es i e within is)
    ∙ ap (λ (m : ℕ). event_marks u cut e ++ event_row u (cut + m) (drop (i + 1) es)) (sym same)

pub levels_left : (level cut n i : ℕ) (es : List Entry) (e : Entry) → i < length es → e ≡ get_or es i e → n ≡ cut_of e
    → level_row level cut (drop i es) ≡ level_marks level cut e ++ level_row level (cut + n) (drop (i + 1) es)
levels_left level cut n i es e within is same =
    ap (λ (l : List Entry). level_row level cut l) (one_less es i e within is)
    ∙ ap (λ (m : ℕ). level_marks level cut e ++ level_row level (cut + m) (drop (i + 1) es)) (sym same)

pub served_left : (swap u cut n i : ℕ) (t after : Track) (es : List Entry) (e : Entry) → i < length es → e ≡ get_or es i e → n ≡ cut_of e
    → after ≡ track_after u t e
    → served_row swap u cut t (drop i es) ≡ served_marks swap u cut t e ++ served_row swap u (cut + n) after (drop (i + 1) es)
served_left swap u cut n i t after es e within is same moved =
    ap (λ (l : List Entry). served_row swap u cut t l) (one_less es i e within is)
    ∙ ap (λ (m : ℕ). served_marks swap u cut t e ++ served_row swap u (cut + m) (track_after u t e) (drop (i + 1) es)) (sym same)
    ∙ ap (λ (a : Track). served_marks swap u cut t e ++ served_row swap u (cut + n) a (drop (i + 1) es)) (sym moved)
