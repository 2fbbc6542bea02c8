use Rattle.std.proofs.Common.{◌≡◌, ℕ, List, Option, subst, sym, ap, ◌∙◌, refl}
use Rattle.std.specs.Prelude.{IfOk}
use Rattle.fap_model.specs.declared.types.Operation.{Operation}
use Rattle.fap_model.specs.Decks.{words_by}
use Rattle.fap_assemble.specs.Judging.{relocated_in, moved_at}
use Rattle.fap_assemble.specs.Wholes.{whole_in}
use Rattle.fap_assemble.proofs.CellWords.{right_cell, words_read}
use Rattle.fap_assemble.proofs.module_listing.sound_words.Goals as goal

pub words_said-requires-clause-right : goal.words_said-requires-clause-right
words_said-requires-clause-right c =
    right_cell (relocated_in c.args.r.now) (moved_at c.args.r.now c.args.spot) c.in-Some.op c.args.text.now c.in_ok-said.said c.requires.sound
    (sym c.requires.op ∙ c.in-Some.is) c.in_ok-said.ensures.value

pub returns : goal.returns
returns c =
    subst (λ (shown : List ℕ). IfOk c.words_said.result (λ ws. ws ≡ shown))
    (words_read (relocated_in c.args.r.now) (moved_at c.args.r.now c.args.spot) (whole_in c.args.r.now.whole) c.in-Some.op c.args.text.now c.flag.result c.in_ok-said.said
    refl refl c.flag.ensures c.in_ok-said.ensures.value
    ∙ ap (λ (o : Option Operation). words_by (relocated_in c.args.r.now).whole (moved_at c.args.r.now c.args.spot).known o c.args.text.now) (sym c.in-Some.is)) c.words_said.ensures
