use Rattle.std.specs.Prelude.{slice_index_or}
use Rattle.std.proofs.Common.{◌≡◌, ◌+◌, ◌*◌, ℕ, List, [], length, sym, ap, ap₂, ◌∙◌, arith}
use Rattle.medium.specs.Rows.{PagesState, words_from, rows_from}
use Rattle.medium.proofs.Pieces.{row_at, count_rows}
use Rattle.medium.proofs.pages.Pages.read.Goals as goal

pub returns-clause-row : goal.returns-clause-row
returns-clause-row c =
    let p = c.self.inside in
    let ws = p.words.items in
    let contents : rows_from ws p.each 0 p.count ≡ c.args.self.now.contents = ap (λ (s : PagesState). s.contents) c.self.view_is in
    let each : p.each ≡ c.args.self.now.each = ap (λ (s : PagesState). s.each) c.self.view_is in
    let many : p.count ≡ length c.args.self.now.contents = sym (count_rows ws p.each 0 p.count) ∙ ap (λ (rs : List (List ℕ)). length rs) contents in
    let start : c.args.at * p.each ≡ 0 + c.args.at * p.each = omega arith in
    let whole : length c.args.into.now ≡ p.each = c.requires.whole ∙ sym each in
    c.copy_out.ensures.row
    ∙ ap₂ (λ (l : List ℕ) (n : ℕ). words_from l (c.args.at * p.each) n) c.deref.ensures.value whole
    ∙ ap (λ (q : ℕ). words_from ws q p.each) start
    ∙ sym (row_at ws p.each 0 p.count c.args.at (omega (arith, c.requires.inside, many)))
    ∙ ap (λ (rs : List (List ℕ)). slice_index_or rs c.args.at []) contents
