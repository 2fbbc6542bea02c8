use Rattle.std.proofs.Common.{◌≡◌, ◌∙◌, replicate, ap, sym, arith}
use Rattle.std.proofs.lemmas.Grind.{common_steps}
use Rattle.medium.specs.LogState.{LogState}
use Rattle.medium.proofs.Records.{zero_rows_are}
use Rattle.medium.proofs.memory.MemoryMedium.new.Goals as goal

pub invariant_of-result : goal.invariant_of-result
invariant_of-result c =
    let contents : c.in_ok-zeros.field-0.contents ≡ replicate c.args.records (replicate c.args.record_words 0) = c.in_ok-zeros.ensures.contents in
    let words_each : c.in_ok-new.field-0.words_each ≡ c.args.record_words = ap (λ (l : LogState). l.words_each) c.in_ok-new.ensures in
    let damages : c.in_ok-to_vec-2.field-0.items ≡ c.args.damages.now = grind (arith, common_steps) in
    record {
      contents = rw (words_each, contents) (zero_rows_are c.args.records c.args.record_words);
      each = c.in_ok-zeros.ensures.each ∙ sym words_each;
      damages = rw (words_each, damages) c.requires;
    }
