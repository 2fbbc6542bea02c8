use Rattle.std.proofs.Common.{rules, refl, arith, List, ◌≡◌, ◌++◌, subst}
use Rattle.std.specs.Prelude.{OnOk}
use Rattle.link_model.specs.declared.types.ModulePlace.{ModulePlace}
use Rattle.fap_assemble.specs.Judging.{relocated_in, moved_at}
use Rattle.fap_assemble.specs.Wholes.{whole_in}
use Rattle.fap_model.specs.Statements.{field_for}
use Rattle.fap_model.specs.Places.{or_zero}
use Rattle.link_model.specs.ModuleCards.{card_kind, weights_of}
use Rattle.fap_assemble.proofs.KindsFew.{kind_small}
use Rattle.fap_assemble.proofs.CellWords.{right_cell, cells_read}
use Rattle.fap_assemble.proofs.cells.add_read.Goals as goal

pub overflow_cast-kind : goal.overflow_cast-kind
overflow_cast-kind c =
    let small = kind_small c.args.r.now.externs (weights_of c.args.op (relocated_in c.args.r.now) (moved_at c.args.r.now c.args.spot)) c.args.op (field_for c.args.op c.args.text.now) in
    let is : c.unwrap_or-kind.result ≡ or_zero (card_kind c.args.op (relocated_in c.args.r.now) (moved_at c.args.r.now c.args.spot) c.args.text.now) = search rules in
    omega (arith, small, is, c.requires.externs)

pub add_said-requires-clause-right : goal.add_said-requires-clause-right
add_said-requires-clause-right c =
    right_cell (relocated_in c.args.r.now) (moved_at c.args.r.now c.args.spot) c.args.op c.args.text.now c.in_ok-said.said c.requires.sound c.requires.op c.in_ok-said.ensures.value

pub returns : goal.returns
returns c =
    subst (λ (ps : List ModulePlace). OnOk c.add_said.result (c.add_said.new.places ≡ c.args.places.now ++ ps))
    (cells_read (relocated_in c.args.r.now) (moved_at c.args.r.now c.args.spot) (whole_in c.args.r.now.whole) c.args.op c.args.text.now c.flag.result c.in_ok-said.said _
    refl refl c.flag.ensures c.in_ok-said.ensures.value (search rules)) c.add_said.ensures
