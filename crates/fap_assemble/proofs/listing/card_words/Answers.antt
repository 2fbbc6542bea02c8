use Rattle.std.proofs.Common.{◌≡◌, ℕ, List, subst, sym, ◌∙◌}
use Rattle.std.specs.Prelude.{IfOk}
use Rattle.fap_assemble.specs.Fields.{known_at}
use Rattle.fap_assemble.specs.Wholes.{whole_in}
use Rattle.fap_assemble.proofs.CardWords.{right_said, words_read}
use Rattle.fap_assemble.proofs.Listings.{sound_card}
use Rattle.fap_assemble.proofs.listing.card_words.Goals as goal

pub words_said-requires-clause-right : goal.words_said-requires-clause-right
words_said-requires-clause-right c =
    right_said (whole_in c.args.whole.now) c.args.visible c.args.place c.len.result c.in-Some.op c.args.text.now c.in_ok-said.said
    (sound_card (whole_in c.args.whole.now) (known_at c.args.whole.now.symbols c.args.visible c.args.place) c.args.text.now c.requires.sound)
    (sym c.requires.op ∙ c.in-Some.is) c.len.ensures c.in_ok-said.ensures.value

pub returns : goal.returns
returns c =
    subst (λ (shown : List ℕ). IfOk c.words_said.result (λ ws. ws ≡ shown))
    (words_read (whole_in c.args.whole.now) c.args.visible c.args.place c.len.result c.in-Some.op c.args.text.now c.flag.result c.in_ok-said.said
    (sym c.requires.op ∙ c.in-Some.is) c.len.ensures c.in_ok-said.ensures.value c.flag.ensures) c.words_said.ensures
