use Rattle.std.specs.Prelude.{Option, None}
use Rattle.std.proofs.Common.{ℕ, List, ◌<◌, sym, ◌∙◌, ap, subst, arith, rules}
use Rattle.std.proofs.lemmas.Result.{err_from_is_err_and}
use Rattle.std.proofs.lemmas.Grind.{common_steps}
use Rattle.drum_slots.specs.Kept.{copies, with_copy, ChangesCopy}
use Rattle.drum_slots.proofs.Slotted.{not_free_below}
use Rattle.drum_slots.proofs.Copies.{copies_drop, copies_torn}
use Rattle.drum_slots.proofs.table.SlotTable.get_block.Goals as goal

pub read-requires-clause-inside : goal.read-requires-clause-inside
read-requires-clause-inside g c =
    let below = not_free_below _ c.in-Some.at (c.args.self.now.slots.sound.held c.key-place.result c.in-Some.at (sym c.in-Some.ensures)) in
    omega (arith, below, c.requires.serves.within)

pub release-requires-clause-at : goal.release-requires-clause-at
release-requires-clause-at g c = not_free_below _ c.in-Some.at (c.args.self.now.slots.sound.held c.key-place.result c.in-Some.at (sym c.in-Some.ensures))

pub returns-clause-gets : goal.returns-clause-gets
returns-clause-gets g c =
    let slots = c.args.self.now.slots.slots.items in
    record {
      keeps = record {
        same = search rules;
        serves = search rules;
        count = search rules;
        quotas = search rules;
        slots = tt;
        faults_grow = search rules;
        cause = tt;
      };
      given = grind (arith, common_steps);
      ok = ap (λ (l : List (Option ℕ)). copies (g.D.Medium.contents c.read.new.self) l) c.release.ensures.slots
          ∙ copies_drop _ slots c.key-place.result
          ∙ (λ i. with_copy (copies (c.in_ok-read.ensures.contents i) slots) (c.key-place.ensures.value i) None);
      slot = search rules;
      free = search rules;
      err = tt;
      calls = search rules;
    }

pub returns-in_err-read-clause-gets : goal.returns-in_err-read-clause-gets
returns-in_err-read-clause-gets g c =
    let s = c.args.self.now.slots.sound in
    let slots = c.args.self.now.slots.slots.items in
    let is = sym c.in-Some.ensures in
    let below = not_free_below _ c.in-Some.at (s.held c.key-place.result c.in-Some.at is) in
    let within : c.in-Some.at < g.D.Medium.record_count c.args.self.now.drum.now = omega (arith, below, c.requires.serves.within) in
    let exit = err_from_is_err_and c.from_residual.result c.from_residual.ensures.1 in
    let torn = copies_torn _ _ slots c.key-place.result c.in-Some.at _ c.in_err-read.ensures.called.err is (λ j at. s.distinct j c.key-place.result c.in-Some.at at is) c.requires.serves.shape within in
    let P : ℕ → Type 0 = λ k. ChangesCopy (copies (g.D.Medium.contents c.args.self.now.drum.now) slots) (copies (g.D.Medium.contents c.read.new.self) slots) k in
    record {
      keeps = record {
        same = search rules;
        serves = search rules;
        count = search rules;
        quotas = search rules;
        slots = search rules;
        faults_grow = search rules;
        cause = search rules;
      };
      given = search rules;
      ok = search rules;
      slot = search rules;
      free = search rules;
      err = rw exit.1 (subst P c.key-place.ensures.value torn);
      calls = search rules;
    }
