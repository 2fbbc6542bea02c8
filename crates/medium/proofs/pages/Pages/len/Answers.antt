use Rattle.std.proofs.Common.{sym, ap, ◌∙◌, length}
use Rattle.medium.specs.Rows.{PagesState}
use Rattle.medium.proofs.Pieces.{count_rows}
use Rattle.medium.proofs.pages.Pages.len.Goals as goal

pub returns : goal.returns
returns c = sym (count_rows c.self.inside.words.items c.self.inside.each 0 c.self.inside.count) ∙ ap (λ (s : PagesState). length s.contents) c.self.view_is
