use Rattle.std.proofs.Common.{arith, ◌+◌, ◌∙◌, ◌++◌, ◌∷◌, [], take, sym, ap, List, ℕ}
use Rattle.fap_assemble.specs.Steps.{texts}
use Rattle.fap_assemble.specs.Judging.{relocated_in}
use Rattle.fap_assemble.proofs.ModuleFollows.{moved_taken, stands_taken, texts_taken}
use Rattle.fap_assemble.proofs.CellPasses.{sound_at, sound_rest, cells_rest}
use Rattle.fap_assemble.proofs.cells.cells_of.Goals as goal

pub add_card-requires-clause-sound : goal.add_card-requires-clause-sound
add_card-requires-clause-sound c =
    sound_at c.args.r.now c.loop-card.spot c.args.cards.now c.loop-card.card-index c.card-item.result c.as_slice-text.result.now (c.loop-card.card-index + 1)
    c.loop-card-test.true c.card-item.is c.as_slice-text.ensures c.loop-card.invariant.stands c.loop-card.invariant.sound

pub loop-card-preserved : goal.loop-card-preserved
loop-card-preserved c =
    let r = c.args.r.now in
    let cards = c.args.cards.now in
    let i = c.loop-card.card-index in
    let text = c.as_slice-text.result.now in
    let so_far = texts (take c.loop-card.card-index c.args.cards.now) in
    let after = moved_taken r.externs cards i c.card-item.result text c.loop-card-test.true c.card-item.is c.as_slice-text.ensures in
    let taken = texts_taken cards i c.card-item.result c.loop-card-test.true c.card-item.is ∙ ap (λ (x : List ℕ). so_far ++ x ∷ []) (sym c.as_slice-text.ensures) in
    record {
      rest = cells_rest r c.loop-card.spot cards i c.card-item.result text _ c.loop-card.places c.add_card.new.places _ c.loop-card-test.true c.card-item.is c.as_slice-text.ensures
          c.loop-card.invariant.stands c.loop-card.invariant.rest c.in_ok-add_card.ensures after;
      sound = sound_rest (relocated_in r) cards i c.card-item.result text _ _ so_far _ (i + 1) c.loop-card-test.true c.card-item.is c.as_slice-text.ensures
          c.loop-card.invariant.sound after taken;
      stands = stands_taken r c.loop-card.spot c.in_ok-next.next cards i c.card-item.result text c.loop-card-test.true c.card-item.is c.as_slice-text.ensures
          c.loop-card.invariant.stands c.in_ok-next.ensures.place c.in_ok-next.ensures.visible c.in_ok-next.ensures.weighed;
      place = omega (arith, c.loop-card.invariant.place, c.in_ok-next.ensures.near);
      visible = omega (arith, c.loop-card.invariant.visible, c.in_ok-next.ensures.few);
      weighed = omega (arith, c.loop-card.invariant.weighed, c.in_ok-next.ensures.fewer);
    }
