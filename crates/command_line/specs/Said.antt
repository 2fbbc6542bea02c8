-- claim: a text that is said on the way out.
use Rattle.std.specs.Prelude.{◌≡◌, ℕ, ◌≤◌, List, Option, ◌⊎◌}
use Rattle.faults.specs.Faults.{Rose}
use Rattle.ctss_io.specs.Outside.{after}

-- All of it came to what the sink holds, or a put failed: by what is held and the count of faults, before and after.
pub record Says (text : List ℕ) (held has : Option (List ℕ)) (faults now : ℕ) : Type 0 where
  pub whole : (has ≡ after held text) ⊎ Rose faults now
  pub faults_grow : faults ≤ now
