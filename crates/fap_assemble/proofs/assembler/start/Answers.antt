use Rattle.std.proofs.Common.{◌∙◌, sym, ap}
use Rattle.fap_read.specs.declared.card.Card.{Card}
use Rattle.fap_assemble.specs.Wholes.{whole_in}
use Rattle.fap_assemble.proofs.Reading.{start_read}
use Rattle.fap_assemble.proofs.assembler.start.Goals as goal

pub returns : goal.returns
returns c =
    c.number.ensures
    ∙ start_read (whole_in c.args.whole.now) c.args.cards.now c.args.end c.index-cards-end.result c.as_slice-text.result.now c.in_ok-said.said c.len.result c.requires.whole c.requires.end
    c.requires.within c.index-cards-end.is (c.as_slice-text.ensures ∙ sym (ap (λ (x : Card). x.text) c.index-cards-end.is)) c.len.ensures c.in_ok-said.ensures.value
