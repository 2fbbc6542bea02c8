use Rattle.std.specs.Prelude.{codes}
use Rattle.std.specs.List.{flat_map}
use Rattle.std.proofs.Common.{◌≡◌, ℕ, List, [], ◌++◌, length, refl, sym, ap, subst, ◌∙◌, rules, append-nil}
use Rattle.text_model.specs.Canonical.{octal, word_cards}
use Rattle.text_model.specs.Parts.{line}
use Rattle.text_writer.specs.Writing.{Adds}
use Rattle.text_writer.proofs.Added.{◌⨾◌, adds_none}
use Rattle.text_writer.proofs.FirstCard.{card_more, none_left}
use Rattle.text_writer.proofs.cards.add_word_cards.Goals as goal

pub cards-init : goal.cards-init
cards-init g c = ([], adds_none g.K.Sink c.args.out.now, refl)

pub cards-preserved : goal.cards-preserved
cards-preserved g c = (
  c.cards.invariant.0 ++ line (codes "O" ++ flat_map octal c.split_at.result.0.now),
  c.cards.invariant.1 ⨾ c.add_card.ensures,
  sym (card_more c.cards.invariant.0 c.cards.rest.now c.split_at.result.0.now c.split_at.result.1.now c.min.result (search rules) (search rules) c.split_at.ensures.front c.split_at.ensures.back)
      ∙ c.cards.invariant.2,
)

pub returns : goal.returns
returns g c =
    let none : length c.cards.rest.now ≡ 0 = search rules in
    let all : c.cards.invariant.0 ≡ word_cards c.args.words.now =
    sym (append-nil c.cards.invariant.0) ∙ ap (λ (l : List ℕ). c.cards.invariant.0 ++ l) (sym (none_left c.cards.rest.now none)) ∙ c.cards.invariant.2 in
    subst (λ (text : List ℕ). Adds g.K.Sink text c.args.out.now c.cards.out) all c.cards.invariant.1
