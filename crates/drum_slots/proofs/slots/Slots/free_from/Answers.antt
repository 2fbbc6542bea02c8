use Rattle.std.proofs.Common.{◌≡◌, ◌≢◌, ℕ, ◌<◌, ◌≤◌, ◌∙◌, sym, ap, inl, inr, arith}
use Rattle.std.proofs.lemmas.Bool.{cases_eq}
use Rattle.drum_slots.specs.Slots.{slot_of}
use Rattle.drum_slots.specs.Keys.{key, quota_of}
use Rattle.drum_slots.proofs.Keys.{key_other_block}
use Rattle.drum_slots.proofs.slots.Slots.free_from.Goals as goal

pub giving-preserved : goal.giving-preserved
giving-preserved c =
    let inv = c.giving.invariant in
    let quotas = c.args.self.now.quotas.items in
    let at : c.key-place.result ≡ key quotas c.args.user c.giving.b = c.key-place.ensures.value ∙ (λ j. key (inv.quotas j).items c.args.user c.giving.b) in
    let within : c.giving.b < quota_of quotas c.args.user = omega (arith, c.giving-test.true, c.quota-b-end.ensures) in
    record {
      gone = λ b low up. elim (cases_eq b c.giving.b) [
        | inl same ↦ ap (λ (n : ℕ). slot_of c.free_at.new.self.slots.items n) ((λ j. key quotas c.args.user (same j)) ∙ sym at) ∙ c.free_at.ensures.gone
        | inr other ↦
            let below : b < c.giving.b = omega arith in
            let fits : b < quota_of quotas c.args.user = omega arith in
            let away : key quotas c.args.user b ≢ c.key-place.result = λ e. key_other_block quotas c.args.user c.args.user b c.giving.b fits within other (e ∙ at) in
            c.free_at.ensures.others _ away ∙ inv.gone b low below
      ];
      others = λ k away.
          let low : c.args.block ≤ c.giving.b = omega arith in
          let other : k ≢ c.key-place.result = λ e. away c.giving.b low within (e ∙ at) in
          c.free_at.ensures.others k other ∙ inv.others k away;
      records = c.free_at.ensures.records ∙ inv.records;
      quotas = c.free_at.ensures.quotas ∙ inv.quotas;
    }
