use Rattle.std.proofs.Common.{arith, ◌+◌, ◌∙◌, ◌++◌, ◌∷◌, [], take, sym, ap, refl, List, ℕ}
use Rattle.std.proofs.lemmas.Result.{IfOk-from_err}
use Rattle.fap_assemble.specs.Steps.{texts}
use Rattle.fap_assemble.specs.Judging.{past_of, relocated_in, moved_at}
use Rattle.fap_assemble.specs.ModuleFollows.{moved_by_cards}
use Rattle.fap_assemble.specs.ModuleListings.{module_row_by}
use Rattle.fap_assemble.proofs.Judging.{past_next, past_entries, past_entry_cards, past_externs, past_extern_cards}
use Rattle.fap_assemble.proofs.ModuleFollows.{moved_taken, stands_taken, texts_taken}
use Rattle.fap_assemble.proofs.ModuleListings.{row_here, row_added}
use Rattle.fap_assemble.proofs.module_listing.rows_of.Goals as goal

pub with-requires-clause-entries : goal.with-requires-clause-entries
with-requires-clause-entries c = past_entries c.args.cards.now c.loop-card.card-index c.loop-card.past c.loop-card.invariant.past (omega (arith, c.requires.few))

pub with-requires-clause-entry_cards : goal.with-requires-clause-entry_cards
with-requires-clause-entry_cards c = past_entry_cards c.args.cards.now c.loop-card.card-index c.loop-card.past c.loop-card.invariant.past (omega (arith, c.requires.few))

pub with-requires-clause-externs : goal.with-requires-clause-externs
with-requires-clause-externs c = past_externs c.args.cards.now c.loop-card.card-index c.loop-card.past c.loop-card.invariant.past (omega (arith, c.requires.few))

pub with-requires-clause-extern_cards : goal.with-requires-clause-extern_cards
with-requires-clause-extern_cards c = past_extern_cards c.args.cards.now c.loop-card.card-index c.loop-card.past c.loop-card.invariant.past (omega (arith, c.requires.few))

pub loop-card-preserved : goal.loop-card-preserved
loop-card-preserved c =
    let r = c.args.r.now in
    let cards = c.args.cards.now in
    let i = c.loop-card.card-index in
    let text = c.as_slice-text.result.now in
    let so_far = texts (take c.loop-card.card-index c.args.cards.now) in
    let m = moved_by_cards c.args.r.now.externs (texts (take c.loop-card.card-index c.args.cards.now)) in
    let taken = texts_taken cards i c.card-item.result c.loop-card-test.true c.card-item.is ∙ ap (λ (x : List ℕ). so_far ++ x ∷ []) (sym c.as_slice-text.ensures) in
    record {
      rest = row_added (relocated_in r) cards i c.card-item.result text m (moved_by_cards r.externs (texts (take (i + 1) cards))) so_far (texts (take (i + 1) cards))
          (module_row_by (relocated_in r) c.loop-card.past (moved_at r c.loop-card.spot) text) c.loop-card.rows c.add_row.new.rows _
          c.loop-card-test.true c.card-item.is c.as_slice-text.ensures c.loop-card.invariant.rest
          (row_here r c.loop-card.spot cards i c.card-item.result text c.loop-card.past (module_row_by (relocated_in r) c.loop-card.past (moved_at r c.loop-card.spot) text)
          c.loop-card-test.true c.card-item.is c.as_slice-text.ensures c.loop-card.invariant.stands c.loop-card.invariant.past refl)
          c.in_ok-add_row.ensures (moved_taken r.externs cards i c.card-item.result text c.loop-card-test.true c.card-item.is c.as_slice-text.ensures) taken;
      past = past_next so_far text c.loop-card.past c.in_ok-more.more c.loop-card.invariant.past c.in_ok-more.ensures ∙ ap past_of (sym taken);
      stands = stands_taken r c.loop-card.spot c.in_ok-next.next cards i c.card-item.result text c.loop-card-test.true c.card-item.is c.as_slice-text.ensures
          c.loop-card.invariant.stands c.in_ok-next.ensures.place c.in_ok-next.ensures.visible c.in_ok-next.ensures.weighed;
      place = omega (arith, c.loop-card.invariant.place, c.in_ok-next.ensures.near);
      visible = omega (arith, c.loop-card.invariant.visible, c.in_ok-next.ensures.few);
      weighed = omega (arith, c.loop-card.invariant.weighed, c.in_ok-next.ensures.fewer);
    }

pub returns-in_err-next : goal.returns-in_err-next
returns-in_err-next c = IfOk-from_err c.from_residual-in_err-next.result _ c.from_residual-in_err-next.ensures.0
