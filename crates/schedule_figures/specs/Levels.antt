-- proof: a column of a level's line, and a level's line between two texts.
use Rattle.std.specs.Prelude.{ℕ, List}
use Rattle.ctss_types.specs.declared.history.Cause.{Cause}
use Rattle.ctss_types.specs.declared.history.Entry.{Entry}
use Rattle.text_model.specs.Parts.{column}
use Rattle.picture_model.specs.Figures.{service_at, ticks_at, total}
use Rattle.picture_model.specs.FigureLines.{between, level_services, level_ticks}

-- how many services ended for a cause
abbrev pub services_column : ℕ → List Entry → Cause → List ℕ
services_column level es c = column 10 (total (service_at level c) es)

-- their ticks
abbrev pub ticks_column : ℕ → List Entry → Cause → List ℕ
ticks_column level es c = column 10 (total (ticks_at level c) es)

-- a level's line of services, between two texts
abbrev pub service_line : (front behind : List ℕ) → List Entry → ℕ → List ℕ
service_line front behind es level = between front behind (level_services es level)

-- a level's line of ticks, between two texts
abbrev pub tick_line : (front behind : List ℕ) → List Entry → ℕ → List ℕ
tick_line front behind es level = between front behind (level_ticks es level)
