use Rattle.std.specs.Prelude.{Some, Option}
use Rattle.std.proofs.Common.{ℕ, List, ◌<◌, ◌∙◌, ap, arith, rules}
use Rattle.std.proofs.lemmas.Result.{err_from_is_err_and}
use Rattle.drum_slots.specs.Kept.{copies, with_copy}
use Rattle.drum_slots.specs.Slots.{slot_of}
use Rattle.drum_slots.proofs.Slotted.{kept_below, avoids}
use Rattle.drum_slots.proofs.Copies.{copies_else, copies_put}
use Rattle.drum_slots.proofs.table.SlotTable.put_block.Goals as goal

pub first_free-at-requires : goal.first_free-at-requires
first_free-at-requires g c =
    let slots = c.args.self.now.slots.slots.items in
    kept_below slots c.key-place.result c.key-place.ensures.inside (ap (λ (k : ℕ). slot_of slots k) c.key-place.ensures.value ∙ c.requires.empty)

pub returns : goal.returns
returns g c =
    let slots = c.args.self.now.slots in
    let within : c.first_free-at.result < g.D.Medium.record_count c.args.self.now.drum.now = omega arith in
    record {
      keeps = record {
        same = search rules;
        serves = search rules;
        count = search rules;
        quotas = search rules;
        slots = tt;
        faults_grow = search rules;
        cause = tt;
      };
      ok = ap (λ (l : List (Option ℕ)). copies (g.D.Medium.contents c.write.new.self) l) c.keep.ensures.slots
          ∙ copies_put _ _ _ c.key-place.result c.first_free-at.result _ c.args.from.now c.in_ok-write.ensures.contents (avoids _ _ _ slots.sound c.first_free-at.ensures.is_free) c.requires.serves.shape within
          ∙ ap (λ (k : ℕ). with_copy (copies (g.D.Medium.contents c.args.self.now.drum.now) slots.slots.items) k (Some c.args.from.now)) c.key-place.ensures.value;
      slot = search rules;
      free = search rules;
      err = tt;
      calls = search rules;
    }

pub returns-in_err-write : goal.returns-in_err-write
returns-in_err-write g c =
    let slots = c.args.self.now.slots in
    let torn = c.in_err-write.ensures.called.err in
    let exit = err_from_is_err_and c.from_residual.result c.from_residual.ensures.1 in
    record {
      keeps = record {
        same = search rules;
        serves = search rules;
        count = search rules;
        quotas = search rules;
        slots = search rules;
        faults_grow = search rules;
        cause = search rules;
      };
      ok = search rules;
      slot = search rules;
      free = search rules;
      err = rw exit.1 (copies_else _ _ slots.slots.items c.first_free-at.result torn.0 torn.1 (avoids _ _ _ slots.sound c.first_free-at.ensures.is_free));
      calls = search rules;
    }
