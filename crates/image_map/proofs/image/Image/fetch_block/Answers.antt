use Rattle.std.specs.Prelude.{false, None, slice_set}
use Rattle.std.proofs.Common.{◌≡◌, ◌≢◌, ℕ, ◌+◌, ◌<◌, ◌≤◌, List, ◌++◌, length, take, drop, ◌∙◌, ap, subst, arith, rules, sym, get_or-set_same, get_or-set_other}
use Rattle.std.proofs.lemmas.List.{take_at}
use Rattle.drum_slots.specs.Keys.{quota_of, key}
use Rattle.drum_slots.specs.Kept.{copies, HasCopy}
use Rattle.drum_slots.proofs.Keys.{key_below}
use Rattle.onion_swap.specs.Places.{base_of}
use Rattle.image_map.specs.Loads.{block_map_of}
use Rattle.medium.specs.Medium.{read_call, with_call}
use Rattle.image_map.proofs.Calls.{fetched_map, fetched_calls, fetched_fault}
use Rattle.image_map.proofs.Moves.{sound_moves}
use Rattle.image_map.proofs.Images.{core_moves, moves_take, take_view, read_words}
use Rattle.core_bank.specs.Bank.{AreWords, block_at}
use Rattle.image_map.proofs.Moved.{stops_in}
use Rattle.image_map.proofs.image.Image.fetch_block.Goals as goal

pub invariant_of-tables-2 : goal.invariant_of-tables-2
invariant_of-tables-2 g c =
    let s = c.args.self.now.tables.sound in
    let quotas = c.args.self.now.tables.kept.slots.quotas.items in
    let owners = c.args.self.now.tables.owners.owners in
    let bases = c.args.self.now.tables.owners.bases in
    let slots = c.args.self.now.tables.kept.slots.slots.items in
    let sizes = c.args.self.now.tables.sizes.items in
    let some : 1 ≤ c.args.user = omega (arith, c.number-number.ensures.range.0, c.number-number.ensures.value) in
    let fits : c.args.block < quota_of quotas c.args.user = omega (arith, s.fits c.args.user) in
    let below : base_of bases c.args.user + c.args.block < length owners = omega (arith, s.places, c.requires.vacant.room) in
    let place : key quotas c.args.user c.args.block < length slots = omega (arith, key_below quotas c.args.user c.args.block fits, c.args.self.now.tables.kept.slots.places) in
    let m = moves_take owners slots (slice_set slots (key quotas c.args.user c.args.block) None) quotas bases c.args.user c.args.block below c.requires.vacant.owned
    (λ k other. get_or-set_other slots (key quotas c.args.user c.args.block) k None None other)
    (get_or-set_same slots (key quotas c.args.user c.args.block) None None place) in
    let kept = sound_moves _ _ _ _ quotas bases sizes c.args.user c.args.block s m some c.requires.vacant.inside in
    record { sound = rw (c.set.ensures.owners, c.set.ensures.bases, c.in_ok-read_block.ensures.gets.slot, c.read_block.ensures.gets.keeps.quotas) kept }

pub returns-clause-moves : goal.returns-clause-moves
returns-clause-moves g c =
    let s = c.args.self.now.tables.sound in
    let user = c.args.user in
    let block = c.args.block in
    let quotas = c.args.self.now.tables.kept.slots.quotas.items in
    let owners = c.args.self.now.tables.owners.owners in
    let bases = c.args.self.now.tables.owners.bases in
    let slots = c.args.self.now.tables.kept.slots.slots.items in
    let sizes = c.args.self.now.tables.sizes.items in
    let old = c.args.self.now.bank in
    let new = c.read_block.new.words in
    let some : 1 ≤ c.args.user = omega (arith, c.number-number.ensures.range.0, c.number-number.ensures.value) in
    let fits : c.args.block < quota_of quotas c.args.user = omega (arith, s.fits c.args.user) in
    let below : base_of bases c.args.user + c.args.block < length owners = omega (arith, s.places, c.requires.vacant.room) in
    let place : key quotas c.args.user c.args.block < length slots = omega (arith, key_below quotas c.args.user c.args.block fits, c.args.self.now.tables.kept.slots.places) in
    let m = moves_take owners slots (slice_set slots (key quotas c.args.user c.args.block) None) quotas bases c.args.user c.args.block below c.requires.vacant.owned
    (λ k other. get_or-set_other slots (key quotas c.args.user c.args.block) k None None other)
    (get_or-set_same slots (key quotas c.args.user c.args.block) None None place) in
    let contents = g.D.Medium.contents c.args.self.now.tables.kept.drum.now in
    let bank : take (length old) (new ++ drop (length new) old) ≡ new
    = take_at new (drop (length new) old) (length old) (c.read_block.ensures.fills.len ∙ ap (λ (l : List ℕ). length l) c.words_mut.ensures.value) in
    let at : c.place-place.result ≡ base_of bases c.args.user + c.args.block = c.place-place.ensures in
    let stay : (q : ℕ) → q ≢ base_of bases c.args.user + c.args.block → block_at new q ≡ block_at old q = λ q other. c.read_block.ensures.fills.others q (λ e. other (e ∙ at)) ∙ ap (λ (l : List ℕ). block_at l q) c.words_mut.ensures.value in
    let given = subst (λ (q : ℕ). HasCopy (copies contents slots) (key quotas c.args.user c.args.block) (block_at new q)) at c.in_ok-read_block.ensures.gets.given in
    let all = core_moves owners (slice_set owners (base_of bases user + block) user) slots (slice_set slots (key quotas user block) None) (block_at old) (block_at new) quotas bases sizes
    (copies contents slots) (copies (g.D.Medium.contents c.read_block.new.table.drum.now) c.read_block.new.table.slots.slots.items) user block None
    c.in_ok-read_block.ensures.gets.ok s m stay c.requires.vacant.inside
    (take_view owners (block_at old) (block_at new) quotas bases user block (copies contents slots) None some below c.requires.vacant.owned
    (read_words (copies contents slots) (key quotas user block) (block_at new (base_of bases user + block)) given)) in
    let there : block_at new c.place-place.result ≡ block_at (take (length old) (new ++ drop (length new) old)) (base_of bases c.args.user + c.args.block) = λ j. block_at (sym bank j) (at j) in
    record {
      holds = record {
        same = search rules;
        serves = search rules;
        quotas = search rules;
        sizes = search rules;
        usable = search rules;
        words = subst (λ (l : List ℕ). AreWords l) (sym bank) c.read_block.ensures.fills.words;
        faults_grow = search rules;
      };
      done = record {
        block_map = fetched_map quotas bases (block_map_of owners c.args.self.now.tables.kept.slots) user block _ _ c.requires.kept
            c.set.ensures.owners c.in_ok-read_block.ensures.gets.slot c.in_ok-read_block.ensures.gets.free;
        images = rw (bank, c.set.ensures.owners, c.set.ensures.bases, c.read_block.ensures.gets.keeps.quotas) all;
        calls = fetched_calls _ _ _ _ c.requires.kept
            (λ r is. c.in_ok-read_block.ensures.gets.calls r is ∙ ap (λ (ws : List ℕ). with_call (g.D.Medium.calls c.args.self.now.tables.kept.drum.now) (read_call r false ws)) there);
      };
      fails = tt;
    }

pub returns-in_err-read_block-clause-moves : goal.returns-in_err-read_block-clause-moves
returns-in_err-read_block-clause-moves g c =
    let old = c.args.self.now.bank in
    let new = c.read_block.new.words in
    let bank : take (length old) (new ++ drop (length new) old) ≡ new
    = take_at new (drop (length new) old) (length old) (c.read_block.ensures.fills.len ∙ ap (λ (l : List ℕ). length l) c.words_mut.ensures.value) in
    record {
      holds = record {
        same = search rules;
        serves = search rules;
        quotas = search rules;
        sizes = search rules;
        usable = search rules;
        words = subst (λ (l : List ℕ). AreWords l) (sym bank) c.read_block.ensures.fills.words;
        faults_grow = search rules;
      };
      done = search rules;
      fails = stops_in _ _ _ _ (fetched_fault _ _ _ _ c.requires.kept c.in_err-read_block.ensures.gets.calls) c.in_err-read_block.ensures.gets.keeps.cause;
    }
