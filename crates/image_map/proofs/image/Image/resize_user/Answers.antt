use Rattle.std.proofs.Common.{◌≤◌, refl, arith}
use Rattle.core_bank.specs.Bank.{block_at}
use Rattle.image_map.proofs.Resize.{GivesUp, core_resized, core_stays}
use Rattle.image_map.proofs.Loaded.{places_given_up}
use Rattle.image_map.proofs.image.Image.resize_user.Goals as goal

pub returns-clause-resizes : goal.returns-clause-resizes
returns-clause-resizes g c =
    let s = c.args.self.now.tables in
    let up : GivesUp s.owners.owners c.give_up.new.self.owners s.kept.slots.slots.items c.free_from.new.self.slots.slots.items s.kept.slots.quotas.items s.owners.bases c.args.user c.args.blocks = record {
      len = c.give_up.ensures.len;
      owner_gone = c.give_up.ensures.gone;
      owner_others = c.give_up.ensures.others;
      owner_below = c.give_up.ensures.below;
      slot_gone = c.free_from.ensures.gone;
      slot_others = c.free_from.ensures.others;
    } in
    let some : 1 ≤ c.args.user = omega (arith, c.number.ensures.range.0, c.number.ensures.value) in
    record {
      drum = rw (c.free_from.ensures.same, c.free_from.ensures.now) refl;
      words = search;
      failed = search;
      quotas = search;
      records = rw (c.free_from.ensures.records) refl;
      sizes = rw (c.number.ensures.value) refl;
      places = places_given_up s.owners c.give_up.new.self s.kept.slots c.free_from.new.self.slots c.args.user c.args.blocks up c.free_from.ensures.quotas c.give_up.ensures.bases;
      mine = rw (c.free_from.ensures.now, c.free_from.ensures.quotas, c.number.ensures.value, c.give_up.ensures.bases)
          (core_resized s.owners.owners c.give_up.new.self.owners s.kept.slots.slots.items c.free_from.new.self.slots.slots.items s.kept.slots.quotas.items s.owners.bases s.sizes.items
          c.args.user c.args.blocks (block_at c.args.self.now.bank) (g.D.Medium.contents s.kept.drum.now) up s.sound some c.requires.user c.requires.quota);
      others = λ u some them. rw (c.free_from.ensures.now, c.free_from.ensures.quotas, c.number.ensures.value, c.give_up.ensures.bases)
          (core_stays s.owners.owners c.give_up.new.self.owners s.kept.slots.slots.items c.free_from.new.self.slots.slots.items s.kept.slots.quotas.items s.owners.bases s.sizes.items
          c.args.user c.args.blocks (block_at c.args.self.now.bank) (g.D.Medium.contents s.kept.drum.now) u up s.sound some them);
    }
