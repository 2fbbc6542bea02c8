use Rattle.std.proofs.Common.{◌+◌, ◌++◌, [], drop, refl, ap, arith}
use Rattle.fap_assemble.specs.Steps.{texts}
use Rattle.fap_listing.specs.Listing.{first_card}
use Rattle.fap_listing.specs.ModuleListing.{module_row_text, module_rows_text}
use Rattle.text_writer.proofs.Added.{◌⨾◌, adds_is, adds_none}
use Rattle.fap_listing.proofs.Rows.{one_more, none_left}
use Rattle.fap_listing.proofs.ModuleRows.{rows_next, rows_none}
use Rattle.fap_listing.proofs.module_card.add_module_rows.Goals as goal

pub loop-row-init : goal.loop-row-init
loop-row-init g c = ([], adds_none g.K.Sink c.args.out.now, refl, refl)

pub loop-row-preserved : goal.loop-row-preserved
loop-row-preserved g c =
    let l = c.loop-row in
    let rows = c.args.rows.now in
    let row = c.row-item.result in
    let cards = texts l.cards.now in (
      l.invariant.0 ++ module_row_text l.number row (first_card cards),
      l.invariant.1 ⨾ adds_is (ap (module_row_text l.number row) c.first_text.ensures) c.add_module_row.ensures,
      one_more l.invariant.0 (module_row_text l.number row (first_card cards)) (module_rows_text (l.number + 1) (drop (l.row-index + 1) rows) (texts c.later_cards-cards.result.now))
          (module_rows_text l.number (drop l.row-index rows) cards) (module_rows_text 1 rows (texts c.args.cards.now))
          (rows_next l.number (l.number + 1) rows cards (texts c.later_cards-cards.result.now) l.row-index row c.loop-row-test.true c.row-item.is refl c.later_cards-cards.ensures)
          l.invariant.2,
      omega (arith, l.invariant.3),
    )

pub returns : goal.returns
returns g c =
    let l = c.loop-row in
    adds_is
    (none_left l.invariant.0 (module_rows_text l.number (drop l.row-index c.args.rows.now) (texts l.cards.now)) (module_rows_text 1 c.args.rows.now (texts c.args.cards.now))
    (rows_none l.number c.args.rows.now (texts l.cards.now) l.row-index c.loop-row-test.false) l.invariant.2)
    l.invariant.1
