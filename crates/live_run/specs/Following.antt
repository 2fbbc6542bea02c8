-- proof: calls one after another.
use Rattle.std.proofs.Common.{List, [], ◌∷◌, ◌++◌, subst}
use Rattle.live_core.specs.Core.{CoreCall}
use Rattle.supervisor.specs.Whole.{Whole}
use Rattle.live_run.specs.Calls.{Follows}

pub follows_both : (first second : List CoreCall) (a b c : Whole) → Follows first a b → Follows second b c → Follows (first ++ second) a c
follows_both [] second a b c one two = subst (λ (w : Whole). Follows second w c) one two
follows_both (call ∷ first) second a b c one two = (one.0, one.1, follows_both first second one.0 b c one.2 two)
