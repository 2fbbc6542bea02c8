use Rattle.std.proofs.Common.{◌≡◌, ◌≤◌, ◌<◌, ◌-◌, ◌^◌, ℕ, List, length, Ok, Err, sym, ap, ◌∙◌, arith}
use Rattle.std.specs.Prelude.{IfOk}
use Rattle.std.specs.Str.Lines.{lines}
use Rattle.std.specs.declared.result.Result.{Result}
use Rattle.std.proofs.lemmas.List.{length-map}
use Rattle.fap_read.specs.declared.card.Card.{Card}
use Rattle.fap_assemble.specs.Steps.{texts}
use Rattle.fap_listing.specs.declared.listed.ListedCards.{ListedCards}
use Rattle.ctss_modes.proofs.Lines.{few_lines}
use Rattle.run_listing.proofs.text.listed.Goals as goal

few : (bytes : List ℕ) (cards : List Card) → length bytes ≤ 4194304 → texts cards ≡ lines bytes → length cards < 2 ^ 32 - 1
few bytes cards size is = few_lines bytes (length cards) size (sym (length-map cards (λ (c : Card). c.text)) ∙ ap length is)

-- as many cards as were listed
few_listed : {E : Type 0} (r : Result ListedCards E) (cards : List Card) → IfOk r (λ l. l.cards ≡ cards) → length cards < 2 ^ 32 - 1
    → IfOk r (λ l. length l.cards < 2 ^ 32 - 1)
few_listed (Ok l) cards is few = omega (arith, few, ap (λ (cs : List Card). length cs) is)
few_listed (Err e) cards is few = tt

pub list_cards-requires : goal.list_cards-requires
list_cards-requires c = few c.args.bytes.now c.in_ok-cards.cards c.requires c.in_ok-cards.ensures

pub returns-clause-few : goal.returns-clause-few
returns-clause-few c =
    few_listed c.list_cards.result c.in_ok-cards.cards c.list_cards.ensures.cards
    (few c.args.bytes.now c.in_ok-cards.cards c.requires c.in_ok-cards.ensures)
