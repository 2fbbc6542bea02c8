-- claim: a worked row: what eight entries cover.
use Rattle.std.specs.Prelude.{◌≡◌, ℕ, List, [], ◌∷◌}
use Rattle.ctss_types.specs.declared.history.EventKind.TheVariants as kind
use Rattle.ctss_types.specs.declared.history.Cause.TheVariants as cause
use Rattle.ctss_types.specs.declared.history.Entry.{Entry}
use Rattle.ctss_types.specs.declared.history.Entry.TheVariants.{Taken, Idle, Swap, Rise, Serve}
use Rattle.record_laws.specs.Spans.{Span, spans, served_in, swapping_in, idle_in}

abbrev pub span : ℕ → ℕ → Span
span from until = record { from = from; until = until }

-- a tick of one user, a load that moves one block out, three ticks of another, idling, a line of the first, a load that
-- moves one out and one back, a third that rises, and five ticks of the first
abbrev pub some_entries : List Entry
some_entries =
    Serve 200 1 2 1 cause.Size ∷ Swap 201 2 1 0 1 ∷ Serve 211 2 0 3 cause.Wait ∷ Idle 214 400
    ∷ Taken 400 1 kind.Line 1 3 ∷ Swap 400 1 1 1 0 ∷ Rise 420 3 1 ∷ Serve 420 1 1 5 cause.Stop ∷ []

abbrev pub some_spans : List Span
some_spans = span 200 201 ∷ span 201 211 ∷ span 211 214 ∷ span 214 400 ∷ span 400 420 ∷ span 420 425 ∷ []

-- at 10 ticks a block
pub record RowOfSpans : Type 0 where
  pub covered : spans 10 some_entries ≡ some_spans
  pub served : served_in some_entries ≡ 9
  pub swapping : swapping_in 10 some_entries ≡ 30
  pub idle : idle_in some_entries ≡ 186
