use Rattle.std.proofs.Common.{◌≡◌, ℕ, ◌≤◌, sym, ◌∙◌, ap, arith, add-one, rules}
use Rattle.plan_model.specs.Loads.{core_places}
use Rattle.plan_model.proofs.LoadLaws.{core_places_is}
use Rattle.onion_swap.specs.Places.{owner_of}
use Rattle.image_map.specs.Loads.{BlockMap, block_map_of, put_one, put_to, put_calls_to, with_calls}
use Rattle.image_map.proofs.Calls.{put_calls_step, put_failed_step}
use Rattle.image_map.proofs.Moved.{holds_both, stops_in}
use Rattle.image_map.proofs.Laid.{none_put}
use Rattle.image_map.proofs.image.Image.put_out.Goals as goal

pub returns-in_err-put_place-clause-moves : goal.returns-in_err-put_place-clause-moves
returns-in_err-put_place-clause-moves g c =
    let inv = c.putting.invariant in
    let quotas = c.args.self.now.tables.kept.slots.quotas.items in
    let bases = c.args.self.now.tables.owners.bases in
    let h : BlockMap = block_map_of c.args.self.now.tables.owners.owners c.args.self.now.tables.kept.slots in
    let now = c.putting.self in
    let fault = c.in_err-put_place.ensures.moves.fails in
    record {
      holds = holds_both inv.holds c.put_place.ensures.moves.holds;
      done = search rules;
      fails = stops_in _ _ _ _ (put_failed_step quotas bases h c.args.user c.putting.place core_places
          (g.D.Medium.calls c.args.self.now.tables.kept.drum.now) (g.D.Medium.calls now.tables.kept.drum.now) (g.D.Medium.calls c.put_place.new.self.tables.kept.drum.now)
          (block_map_of now.tables.owners.owners now.tables.kept.slots) inv.moved.block_map inv.moved.calls (omega (arith, core_places_is)) fault.failed) (omega (arith, fault.cause, inv.holds.faults_grow));
    }

pub putting-preserved : goal.putting-preserved
putting-preserved g c =
    let inv = c.putting.invariant in
    let quotas = c.args.self.now.tables.kept.slots.quotas.items in
    let bases = c.args.self.now.tables.owners.bases in
    let h : BlockMap = block_map_of c.args.self.now.tables.owners.owners c.args.self.now.tables.kept.slots in
    let now = c.putting.self in
    let q = c.putting.place in
    let say = c.in_ok-put_place.ensures in
    record {
      holds = holds_both inv.holds say.moves.holds;
      moved = record {
        block_map = say.moves.done.block_map ∙ (λ j. put_one (inv.holds.quotas j).items (inv.bases j) (inv.moved.block_map j) c.args.user q) ∙ ap (λ (n : ℕ). put_to quotas bases h c.args.user n) (sym (add-one q));
        images = λ u some. say.moves.done.images u some ∙ inv.moved.images u some;
        calls = put_calls_step quotas bases h c.args.user q
            (g.D.Medium.calls c.args.self.now.tables.kept.drum.now) (g.D.Medium.calls now.tables.kept.drum.now) (g.D.Medium.calls c.put_place.new.self.tables.kept.drum.now)
            (block_map_of now.tables.owners.owners now.tables.kept.slots) inv.moved.block_map inv.moved.calls say.moves.done.calls;
      };
      bank = say.bank ∙ inv.bank;
      bases = say.bases ∙ inv.bases;
    }

pub returns-clause-moves : goal.returns-clause-moves
returns-clause-moves g c =
    let inv = c.putting.invariant in
    let quotas = c.args.self.now.tables.kept.slots.quotas.items in
    let bases = c.args.self.now.tables.owners.bases in
    let h : BlockMap = block_map_of c.args.self.now.tables.owners.owners c.args.self.now.tables.kept.slots in
    let all : c.putting.place ≡ core_places = omega (arith, core_places_is, c.putting-test.false) in
    record {
      holds = inv.holds;
      done = record {
        block_map = inv.moved.block_map ∙ ap (λ (n : ℕ). put_to quotas bases h c.args.user n) all;
        images = inv.moved.images;
        calls = inv.moved.calls ∙ ap (λ (n : ℕ). with_calls (g.D.Medium.calls c.args.self.now.tables.kept.drum.now) (put_calls_to quotas bases h c.args.user n)) all;
      };
      fails = tt;
    }

pub returns-clause-none : goal.returns-clause-none
returns-clause-none g c = λ q is.
    let now = c.args.self.now.tables in
    let some : 1 ≤ c.args.user = omega (arith, c.number-number.ensures.range.0, c.number-number.ensures.value) in
    none_put now.owners.bases now.sizes.items now.kept.slots.quotas.items (block_map_of now.owners.owners now.kept.slots) c.args.user q now.sound some
    (ap (λ (k : BlockMap). owner_of k.owners q) (sym (returns-clause-moves g c).done.block_map) ∙ is)
