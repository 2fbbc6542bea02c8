use Rattle.std.proofs.Common.{ℕ, List, ap, ◌∙◌}
use Rattle.medium.specs.Rows.{rows_from}
use Rattle.medium.proofs.Pieces.{rows_none}
use Rattle.medium.proofs.pages.Pages.zeros.Goals as goal

pub returns-clause-contents : goal.returns-clause-contents
returns-clause-contents c = ap (λ (ws : List ℕ). rows_from ws c.args.each 0 c.args.count) c.in_ok-words.ensures.items ∙ rows_none c.args.each 0 c.args.count
