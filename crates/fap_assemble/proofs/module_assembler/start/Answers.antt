use Rattle.std.proofs.Common.{◌∙◌, sym, ap, ℕ, List}
use Rattle.std.specs.Option.{option_map}
use Rattle.fap_read.specs.declared.card.Card.{Card}
use Rattle.fap_model.specs.Statements as says
use Rattle.fap_model.specs.declared.types.Operation.TheVariants.{End as end}
use Rattle.link_model.specs.Weights.{with_externs}
use Rattle.fap_assemble.specs.Fields.{said}
use Rattle.fap_assemble.specs.Judging.{relocated_in}
use Rattle.fap_assemble.proofs.Moving.{all_of}
use Rattle.fap_assemble.proofs.ModuleEnds.{start_read}
use Rattle.fap_assemble.proofs.module_assembler.start.Goals as goal

pub returns : goal.returns
returns c =
    c.number.ensures
    ∙ start_read (relocated_in c.args.r.now) c.args.cards.now c.args.end c.index-cards-end.result c.as_slice-text.result.now c.in_ok-said.said c.requires.told c.requires.end
    c.requires.within c.index-cards-end.is (c.as_slice-text.ensures ∙ sym (ap (λ (x : Card). x.text) c.index-cards-end.is))
    (c.in_ok-said.ensures.value
    ∙ ap (λ (t : List (ℕ × ℕ)). option_map (said (with_externs c.args.r.now.externs t) c.args.r.now.whole.end_place) (says.field_for end c.as_slice-text.result.now))
    (all_of c.len.result c.args.r.now.whole.symbols c.len.ensures))
