use Rattle.std.specs.Prelude.{None, true, replicate, sum}
use Rattle.std.proofs.Common.{◌≡◌, ◌∷◌, ◌∙◌, sym, arith}
use Rattle.std.proofs.lemmas.Grind.{common_steps}
use Rattle.std.proofs.lemmas.List.{length-replicate}
use Rattle.drum_slots.proofs.Keys.{sum-cons_zero}
use Rattle.drum_slots.proofs.Slotted.{sound_new}
use Rattle.drum_slots.proofs.slots.Slots.new.Goals as goal

pub invariant_of-result-clause-sound : goal.invariant_of-result-clause-sound
invariant_of-result-clause-sound c =
    let slots : c.in_ok-slots.slots.items ≡ replicate (sum c.args.quotas.now) None = grind (arith, common_steps) in
    let free : c.in_ok-free.free.items ≡ replicate c.args.records true = grind (arith, common_steps) in
    rw (slots, free) (sound_new (sum c.args.quotas.now) c.args.records c.requires)

pub invariant_of-result-clause-places : goal.invariant_of-result-clause-places
invariant_of-result-clause-places c =
    let slots : c.in_ok-slots.slots.items ≡ replicate (sum c.args.quotas.now) None = grind (arith, common_steps) in
    let quotas : c.in_ok-quotas.quotas.items ≡ 0 ∷ c.args.quotas.now = grind (arith, common_steps) in
    rw (slots, quotas) (length-replicate (sum c.args.quotas.now) None ∙ sym (sum-cons_zero c.args.quotas.now))
