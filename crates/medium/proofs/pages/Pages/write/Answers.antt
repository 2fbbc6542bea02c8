use Rattle.std.specs.Prelude.{slice_set}
use Rattle.std.proofs.Common.{◌≡◌, ◌≤◌, ◌+◌, ◌*◌, suc, ℕ, List, length, sym, ap, ◌∙◌, arith}
use Rattle.std.proofs.Math.Nat.{suc-mul, mul-le-mul_right}
use Rattle.medium.specs.Rows.{PagesState, rows_from}
use Rattle.medium.proofs.Pieces.{rows_set, count_rows}
use Rattle.medium.proofs.pages.Pages.write.Goals as goal

pub reach-requires-clause-room : goal.reach-requires-clause-room
reach-requires-clause-room c =
    let p = c.self.inside in
    let many : p.count ≡ length c.args.self.now.contents = sym (count_rows p.words.items p.each 0 p.count) ∙ ap (λ (s : PagesState). length s.contents) c.self.view_is in
    let low : suc c.args.at ≤ p.count = omega (arith, c.requires.inside, many) in
    let all : suc c.args.at * p.each ≤ p.count * p.each = mul-le-mul_right p.each low in
    let one : suc c.args.at * p.each ≡ c.args.at * p.each + p.each = suc-mul c.args.at p.each in
    let room : p.count * p.each ≤ _ = c.self.invariant.0 in
    omega (arith, all, one, room)

pub returns : goal.returns
returns c =
    let p = c.self.inside in
    let ws = p.words.items in
    let contents : rows_from ws p.each 0 p.count ≡ c.args.self.now.contents = ap (λ (s : PagesState). s.contents) c.self.view_is in
    let each : p.each ≡ c.args.self.now.each = ap (λ (s : PagesState). s.each) c.self.view_is in
    let many : p.count ≡ length c.args.self.now.contents = sym (count_rows ws p.each 0 p.count) ∙ ap (λ (rs : List (List ℕ)). length rs) contents in
    let size : length c.args.from.now ≡ p.each = c.requires.whole ∙ sym each in
    let e = c.copy_in.ensures in
    let same = c.reach.ensures.same in
    let set : rows_from c.copy_in.new.words.items p.each 0 p.count ≡ slice_set (rows_from ws p.each 0 p.count) c.args.at c.args.from.now =
    rows_set ws c.copy_in.new.words.items c.args.from.now p.each 0 p.count c.args.at (c.args.at * p.each) (omega (arith, c.requires.inside, many)) size (omega arith)
    (λ j less. e.here j (omega (arith, less, size)))
    (λ q down. e.before q down ∙ same q)
    (λ q up. e.behind q (omega (arith, up, size)) ∙ same q) in
    λ j. record { contents = (set ∙ ap (λ (rs : List (List ℕ)). slice_set rs c.args.at c.args.from.now) contents) j; each = each j }
