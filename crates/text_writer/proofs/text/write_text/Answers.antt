use Rattle.std.proofs.Common.{rules, sym, ◌∙◌, ap, List, ℕ, append-nil, subst}
use Rattle.std.specs.Prelude.{Option}
use Rattle.ctss_io.specs.Whole.{GrewByProperPrefix}
use Rattle.text_writer.specs.Writing.{writer_seen}
use Rattle.text_writer.proofs.Added.{◌⨾◌, adds_is, part_came}
use Rattle.text_writer.proofs.text.write_text.Goals as goal

pub returns-then-has_failed-clause-part : goal.returns-then-has_failed-clause-part
returns-then-has_failed-clause-part g c h =
    let same = c.back.ensures.same ∙ sym c.flush.ensures.added.same ∙ sym c.add_to.ensures.same ∙ c.over-out.ensures.same in
    let adds = adds_is (append-nil (g.T.Text.bytes c.args.text.now)) (c.add_to.ensures ⨾ c.flush.ensures.added) in
    let start = ap (λ k. g.K.Sink.held k) c.over-out.ensures.now in
    let part =
    part_came (g.T.Text.bytes c.args.text.now) (writer_seen g.K.Sink c.over-out.result) (writer_seen g.K.Sink c.flush.new.self)
    c.over-out.ensures.good (ap (λ p. p.bytes.items) c.over-out.ensures.piece ∙ c.in_ok-piece.ensures)
    (sym c.has_failed-has_failed.ensures ∙ c.if-has_failed.true) adds.added in
    subst (λ (o : Option (List ℕ)). GrewByProperPrefix (g.K.Sink.held c.args.sink.now) (g.T.Text.bytes c.args.text.now) o) (search (rules, same, c.back.ensures.now))
    (subst (λ (o : Option (List ℕ)). GrewByProperPrefix o (g.T.Text.bytes c.args.text.now) (g.K.Sink.held c.flush.new.self.sink.now)) start part)
