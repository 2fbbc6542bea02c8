-- proof: a text copied into a slice from some place on.
use Rattle.std.specs.Prelude.{◌≡◌, ℕ, ◌-◌, min, List, ◌++◌, take, drop, length}
use Rattle.console_texts.specs.declared.copying.Window.{Window}

-- behind this much of the text: of a slice that held other bytes, the front holds those from the place on, as far as they fit
pub record IsCopied (from : ℕ) (text slice : List ℕ) (w : Window) (into : List ℕ) : Type 0 where
  pub skip : w.skip ≡ from - length text
  pub at : w.at ≡ min (length slice) (length text - from)
  pub bytes : into ≡ take w.at (drop from text) ++ drop w.at slice
