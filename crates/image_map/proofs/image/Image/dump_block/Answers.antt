use Rattle.std.specs.Prelude.{Some, slice_set}
use Rattle.std.proofs.Common.{◌≡◌, ℕ, ◌+◌, ◌<◌, List, length, refl, arith, rules}
use Rattle.drum_slots.specs.Keys.{quota_of, key}
use Rattle.drum_slots.specs.Slots.{first_free}
use Rattle.drum_slots.proofs.Keys.{key_below}
use Rattle.onion_swap.specs.Places.{base_of}
use Rattle.image_map.specs.Images.{size_of}
use Rattle.image_map.proofs.Moves.{sound_moves}
use Rattle.image_map.proofs.Images.{core_moves, moves_dump, dump_view}
use Rattle.core_bank.specs.Bank.{block_at}
use Rattle.image_map.proofs.Moved.{stops_in}
use Rattle.image_map.proofs.image.Image.dump_block.Goals as goal

pub invariant_of-tables-2 : goal.invariant_of-tables-2
invariant_of-tables-2 g c =
    let s = c.args.self.now.tables.sound in
    let quotas = c.args.self.now.tables.kept.slots.quotas.items in
    let owners = c.args.self.now.tables.owners.owners in
    let bases = c.args.self.now.tables.owners.bases in
    let slots = c.args.self.now.tables.kept.slots.slots.items in
    let sizes = c.args.self.now.tables.sizes.items in
    let b = c.block-block.result in
    let mine = s.owned c.args.owner c.args.place c.requires.some c.requires.owned in
    let at : base_of bases c.args.owner + c.block-block.result ≡ c.args.place = omega (arith, c.block-block.ensures, mine.0) in
    let inside : c.block-block.result < size_of sizes c.args.owner = omega (arith, at, mine.1) in
    let below : c.args.place < length owners = omega (arith, s.places) in
    let m = moves_dump owners slots quotas bases c.args.owner c.block-block.result c.args.place (first_free c.args.self.now.tables.kept.slots.free.items) at c.requires.some below c.requires.owned in
    let kept = sound_moves _ _ _ _ quotas bases sizes c.args.owner c.block-block.result s m c.requires.some inside in
    record { sound = rw (c.empty.ensures.owners, c.empty.ensures.bases, c.in_ok-put_block.ensures.slot, c.put_block.ensures.keeps.quotas) kept }

pub returns-clause-moves : goal.returns-clause-moves
returns-clause-moves g c =
    let s = c.args.self.now.tables.sound in
    let quotas = c.args.self.now.tables.kept.slots.quotas.items in
    let owners = c.args.self.now.tables.owners.owners in
    let bases = c.args.self.now.tables.owners.bases in
    let slots = c.args.self.now.tables.kept.slots.slots.items in
    let sizes = c.args.self.now.tables.sizes.items in
    let r = first_free c.args.self.now.tables.kept.slots.free.items in
    let b = c.block-block.result in
    let place = c.args.place in
    let mine = s.owned c.args.owner c.args.place c.requires.some c.requires.owned in
    let at : base_of bases c.args.owner + c.block-block.result ≡ c.args.place = omega (arith, c.block-block.ensures, mine.0) in
    let inside : c.block-block.result < size_of sizes c.args.owner = omega (arith, at, mine.1) in
    let below : c.args.place < length owners = omega (arith, s.places) in
    let fits : c.block-block.result < quota_of quotas c.args.owner = omega (arith, inside, s.fits c.args.owner) in
    let key_inside : key quotas c.args.owner c.block-block.result < length slots = omega (arith, key_below quotas c.args.owner c.block-block.result fits, c.args.self.now.tables.kept.slots.places) in
    let m = moves_dump owners slots quotas bases c.args.owner c.block-block.result c.args.place r at c.requires.some below c.requires.owned in
    let contents = g.D.Medium.contents c.args.self.now.tables.kept.drum.now in
    let blocks : ℕ → List ℕ = block_at c.args.self.now.bank in
    let all = core_moves owners (slice_set owners place 0) slots (slice_set slots (key quotas c.args.owner b) (Some r)) blocks blocks quotas bases sizes _ _ c.args.owner b (Some c.block.result.now)
    c.in_ok-put_block.ensures.ok s m (λ c' other. refl) inside
    (dump_view contents owners slots blocks quotas bases c.args.owner b place c.block.result.now at c.requires.some below c.requires.owned key_inside c.block.ensures.value) in
    record {
      holds = record {
        same = search rules;
        serves = search rules;
        quotas = search rules;
        sizes = search rules;
        usable = search rules;
        words = search rules;
        faults_grow = search rules;
      };
      done = record {
        block_map = search rules;
        images = rw (c.empty.ensures.owners, c.empty.ensures.bases, c.put_block.ensures.keeps.quotas) all;
        calls = search rules;
      };
      fails = tt;
    }

pub returns-in_err-put_block-clause-moves : goal.returns-in_err-put_block-clause-moves
returns-in_err-put_block-clause-moves g c = record {
  holds = record {
    same = search rules;
    serves = search rules;
    quotas = search rules;
    sizes = search rules;
    usable = search rules;
    words = search rules;
    faults_grow = search rules;
  };
  done = search rules;
  fails = stops_in _ _ _ _ (0, (omega arith, c.in_err-put_block.ensures.calls)) c.in_err-put_block.ensures.keeps.cause;
}
