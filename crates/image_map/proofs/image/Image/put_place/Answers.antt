use Rattle.std.proofs.Common.{◌≡◌, sym, ◌∙◌, rules}
use Rattle.onion_swap.specs.Places.{owner_of}
use Rattle.image_map.specs.Loads.{block_map_of}
use Rattle.image_map.proofs.Calls.{put_failed}
use Rattle.image_map.proofs.Moved.{stops_in}
use Rattle.image_map.proofs.image.Image.put_place.Goals as goal

pub returns-in_err-dump_block-clause-moves : goal.returns-in_err-dump_block-clause-moves
returns-in_err-dump_block-clause-moves g c =
    let owners = c.args.self.now.tables.owners.owners in
    let mine : owner_of owners c.args.place ≡ c.args.user = sym c.owner.ensures ∙ c.if-owner-number.true ∙ c.number.ensures.value in
    let fault = c.in_err-dump_block.ensures.moves.fails in
    record {
      holds = c.dump_block.ensures.moves.holds;
      done = search rules;
      fails = stops_in _ _ _ _ (put_failed (block_map_of owners c.args.self.now.tables.kept.slots) c.args.user c.args.place _ _ mine fault.failed) fault.cause;
    }
