use Rattle.std.proofs.Common.{◌≡◌, ◌-◌, ℕ, List, [], ◌∷◌, ◌++◌, take, drop, ap, ◌∙◌, arith, length-drop}
use Rattle.std.proofs.lemmas.List.{take_all}
use Rattle.text_writer.proofs.Added.{◌⨾◌, adds_is, spaced_all}
use Rattle.text_writer.proofs.writer.TextWriter.end_by.Goals as goal

pub returns-then-numbers-le3 : goal.returns-then-numbers-le3
returns-then-numbers-le3 g c =
    let put = c.put_numbers-start in
    let rest : List ℕ = drop put.result put.new.bytes in
    let all : take (64 - put.result) rest ≡ rest = take_all (64 - put.result) rest (simp length-drop (omega arith)) in
    adds_is (all ∙ put.ensures.written ∙ ap (λ (l : List ℕ). l ++ 10 ∷ []) (spaced_all c.args.numbers.now)) c.add.ensures

pub returns : goal.returns
returns g c = c.numbers.ensures ⨾ c.end_line.ensures
