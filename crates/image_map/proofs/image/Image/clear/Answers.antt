use Rattle.std.specs.Prelude.{None, slice_set}
use Rattle.std.proofs.Common.{◌≡◌, ◌≢◌, ℕ, ◌+◌, ◌≤◌, ◌<◌, length, refl, ◌∙◌, ap, sym, arith, rules}
use Rattle.core_bank.specs.Bank.{block_at, blank}
use Rattle.drum_slots.specs.Keys.{key}
use Rattle.drum_slots.specs.Kept.{copies}
use Rattle.onion_swap.specs.Places.{base_of}
use Rattle.image_map.proofs.Images.{core_moves, moves_take, take_view, fresh_words, fresh_copies}
use Rattle.image_map.proofs.image.Image.clear.Goals as goal

pub returns : goal.returns
returns g c =
    let s = c.args.self.now.tables.sound in
    let user = c.args.user in
    let block = c.args.block in
    let quotas = c.args.self.now.tables.kept.slots.quotas.items in
    let owners = c.args.self.now.tables.owners.owners in
    let bases = c.args.self.now.tables.owners.bases in
    let slots = c.args.self.now.tables.kept.slots.slots.items in
    let sizes = c.args.self.now.tables.sizes.items in
    let old = c.args.self.now.bank in
    let new = c.clear_block.new.self in
    let some : 1 ≤ c.args.user = omega (arith, c.number-number.ensures.range.0, c.number-number.ensures.value) in
    let below : base_of bases c.args.user + c.args.block < length owners = omega (arith, s.places, c.requires.vacant.room) in
    let m = moves_take owners slots slots quotas bases user block below c.requires.vacant.owned (λ j other. refl) c.requires.none in
    let contents = g.D.Medium.contents c.args.self.now.tables.kept.drum.now in
    let at : c.place-place.result ≡ base_of bases c.args.user + c.args.block = c.place-place.ensures in
    let stay : (q : ℕ) → q ≢ base_of bases c.args.user + c.args.block → block_at new q ≡ block_at old q = λ q other. c.clear_block.ensures.others q (λ e. other (e ∙ at)) in
    let here : block_at new (base_of bases c.args.user + c.args.block) ≡ blank = ap (λ (q : ℕ). block_at new q) (sym at) ∙ c.clear_block.ensures.here in
    let all = core_moves owners (slice_set owners (base_of bases user + block) user) slots slots (block_at old) (block_at new) quotas bases sizes
    (copies contents slots) (copies contents slots) user block None
    (fresh_copies contents slots (key quotas user block) c.requires.none) s m stay c.requires.vacant.inside
    (take_view owners (block_at old) (block_at new) quotas bases user block (copies contents slots) None some below c.requires.vacant.owned
    (fresh_words contents slots (key quotas user block) (block_at new (base_of bases user + block)) c.requires.none here)) in
    record {
      table = search rules;
      sizes = search rules;
      usable = search rules;
      words = search rules;
      bases = search rules;
      others = stay;
      owners = search rules;
      images = rw (c.set.ensures.owners, c.set.ensures.bases) all;
    }
