-- proof: what the code keeps of a user's work.
use Rattle.std.specs.Prelude.{◌≡◌, ◌≤◌, ℕ, max, List, [], ◌∷◌}
use Rattle.ctss_types.specs.declared.history.Entry.{Entry}
use Rattle.picture_model.specs.Figures.{line_of, service_of, served_of, load_of, dumped_of, read_of, level_of, total}
use Rattle.schedule_figures.specs.declared.work.Work.{Work}

-- entries, in a clause of a file that names the code's
abbrev pub TheEntries : Type 0
TheEntries = List Entry

-- the highest level, from the last entry on
abbrev pub top : ℕ → List Entry → ℕ
top u [] = 0
top u (e ∷ es) = max (top u es) (level_of u e)

-- the code's work is what these entries come to for a user
pub record IsWork (u : ℕ) (w : Work) (es : List Entry) : Type 0 where
  pub lines : w.lines ≡ total (line_of u) es
  pub services : w.services ≡ total (service_of u) es
  pub served : w.served ≡ total (served_of u) es
  pub level : w.level ≡ top u es
  pub loads : w.loads ≡ total (load_of u) es
  pub dumped : w.dumped ≡ total (dumped_of u) es
  pub read : w.read ≡ total (read_of u) es

-- each sum is at most so much
pub record AreBelow (n : ℕ) (w : Work) : Type 0 where
  pub lines : w.lines ≤ n
  pub services : w.services ≤ n
  pub served : w.served ≤ n
  pub loads : w.loads ≤ n
  pub dumped : w.dumped ≤ n
  pub read : w.read ≤ n
