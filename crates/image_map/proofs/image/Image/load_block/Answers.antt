use Rattle.std.specs.Prelude.{None}
use Rattle.std.proofs.Common.{◌≡◌, ◌≢◌, ℕ, ◌+◌, sym, ◌∙◌, ap, arith, rules}
use Rattle.core_bank.specs.Bank.{block_at}
use Rattle.drum_slots.specs.Table.{record_of}
use Rattle.onion_swap.specs.Places.{owner_of, base_of}
use Rattle.image_map.specs.Loads.{block_map_of}
use Rattle.image_map.proofs.Calls.{dump_failed}
use Rattle.image_map.proofs.Loading.{IsEmptied, after_dump, not_dumped, loading_done, loading_stops, none_from, blank_moves, blank_holds}
use Rattle.image_map.proofs.Moved.{holds_both, stops_in}
use Rattle.image_map.proofs.Moves.{owner_few}
use Rattle.image_map.proofs.image.Image.load_block.Goals as goal
use Rattle.image_map.proofs.image.Image.load_block.Goals.{then-owner-ne0+in_ok-dump_block, else-owner-ne0}

pub of-requires-clause-few : goal.of-requires-clause-few
of-requires-clause-few g c =
    let s = c.args.self.now in
    let few = owner_few s.tables.owners.bases s.tables.owners.owners s.tables.kept.slots.slots.items s.tables.kept.slots.quotas.items s.tables.sizes.items c.place-place.result s.tables.sound in
    omega (arith, few, c.owner-owner.ensures)

pub returns-in_err-dump_block-clause-moves : goal.returns-in_err-dump_block-clause-moves
returns-in_err-dump_block-clause-moves g c =
    let owners = c.args.self.now.tables.owners.owners in
    let bases = c.args.self.now.tables.owners.bases in
    let owner : owner_of owners (base_of bases c.args.user + c.args.block) ≡ c.owner-owner.result = ap (λ (q : ℕ). owner_of owners q) (sym c.place-place.ensures) ∙ sym c.owner-owner.ensures in
    let other : owner_of owners (base_of bases c.args.user + c.args.block) ≢ c.args.user = λ e. c.if-owner-number.false (sym owner ∙ e ∙ sym c.number.ensures.value) in
    let some : owner_of owners (base_of bases c.args.user + c.args.block) ≢ 0 = λ e. c.if-owner-ne0.true (sym owner ∙ e) in
    let fault = c.in_err-dump_block.ensures.moves.fails in
    record {
      holds = c.dump_block.ensures.moves.holds;
      done = search rules;
      fails = stops_in _ _ _ _ (dump_failed c.args.self.now.tables.kept.slots.quotas.items bases (block_map_of owners c.args.self.now.tables.kept.slots) c.args.user c.args.block
          (block_at c.dump_block.new.self.bank (base_of bases c.args.user + c.args.block)) _ _ other some fault.failed) fault.cause;
    }

pub returns-in_err-fetch_block-clause-moves : goal.returns-in_err-fetch_block-clause-moves
returns-in_err-fetch_block-clause-moves g c =
    let owners = c.args.self.now.tables.owners.owners in
    let bases = c.args.self.now.tables.owners.bases in
    let m = c.if-owner-ne0.self in
    let owner : owner_of owners (base_of bases c.args.user + c.args.block) ≡ c.owner-owner.result = ap (λ (r : ℕ). owner_of owners r) (sym c.place-place.ensures) ∙ sym c.owner-owner.ensures in
    let other : owner_of owners (base_of bases c.args.user + c.args.block) ≢ c.args.user = λ e. c.if-owner-number.false (sym owner ∙ e ∙ sym c.number.ensures.value) in
    let mid : IsEmptied (base_of bases c.args.user + c.args.block) c.args.self.now m = elim c.if-owner-ne0.branch [
      | then-owner-ne0+in_ok-dump_block w ↦ after_dump _ w.dump_block.new.self _ _ _ _ w.self-is (w.of.ensures ∙ sym owner) c.place-place.ensures
          (λ e. w.if-owner-ne0.true (sym owner ∙ e)) w.dump_block.ensures.moves.holds w.in_ok-dump_block.ensures.moves.done w.dump_block.ensures.bases
      | else-owner-ne0 w ↦ not_dumped _ _ _ w.self-is (owner ∙ w.if-owner-ne0.false) c.requires.ready
    ] in
    let fault = c.in_err-fetch_block.ensures.moves.fails in
    record {
      holds = holds_both mid.holds c.fetch_block.ensures.moves.holds;
      done = search rules;
      fails = stops_in _ _ _ _ (loading_stops _ m c.fetch_block.new.self c.args.user c.args.block (block_at c.fetch_block.new.self.bank) other mid fault)
          (let rose = fault.cause in let grew = mid.holds.faults_grow in omega (arith, rose, grew));
    }

pub returns-in_ok-fetch_block-clause-moves : goal.returns-in_ok-fetch_block-clause-moves
returns-in_ok-fetch_block-clause-moves g c =
    let owners = c.args.self.now.tables.owners.owners in
    let bases = c.args.self.now.tables.owners.bases in
    let m = c.if-owner-ne0.self in
    let owner : owner_of owners (base_of bases c.args.user + c.args.block) ≡ c.owner-owner.result = ap (λ (r : ℕ). owner_of owners r) (sym c.place-place.ensures) ∙ sym c.owner-owner.ensures in
    let other : owner_of owners (base_of bases c.args.user + c.args.block) ≢ c.args.user = λ e. c.if-owner-number.false (sym owner ∙ e ∙ sym c.number.ensures.value) in
    let mid : IsEmptied (base_of bases c.args.user + c.args.block) c.args.self.now m = elim c.if-owner-ne0.branch [
      | then-owner-ne0+in_ok-dump_block w ↦ after_dump _ w.dump_block.new.self _ _ _ _ w.self-is (w.of.ensures ∙ sym owner) c.place-place.ensures
          (λ e. w.if-owner-ne0.true (sym owner ∙ e)) w.dump_block.ensures.moves.holds w.in_ok-dump_block.ensures.moves.done w.dump_block.ensures.bases
      | else-owner-ne0 w ↦ not_dumped _ _ _ w.self-is (owner ∙ w.if-owner-ne0.false) c.requires.ready
    ] in
    record {
      holds = holds_both mid.holds c.fetch_block.ensures.moves.holds;
      done = loading_done _ m c.fetch_block.new.self c.args.user c.args.block (block_at c.fetch_block.new.self.bank) other mid c.in_ok-fetch_block.ensures.moves.done;
      fails = tt;
    }

pub returns-else-has-clause-moves : goal.returns-else-has-clause-moves
returns-else-has-clause-moves g c =
    let owners = c.args.self.now.tables.owners.owners in
    let bases = c.args.self.now.tables.owners.bases in
    let m = c.if-owner-ne0.self in
    let owner : owner_of owners (base_of bases c.args.user + c.args.block) ≡ c.owner-owner.result = ap (λ (r : ℕ). owner_of owners r) (sym c.place-place.ensures) ∙ sym c.owner-owner.ensures in
    let other : owner_of owners (base_of bases c.args.user + c.args.block) ≢ c.args.user = λ e. c.if-owner-number.false (sym owner ∙ e ∙ sym c.number.ensures.value) in
    let mid : IsEmptied (base_of bases c.args.user + c.args.block) c.args.self.now m = elim c.if-owner-ne0.branch [
      | then-owner-ne0+in_ok-dump_block w ↦ after_dump _ w.dump_block.new.self _ _ _ _ w.self-is (w.of.ensures ∙ sym owner) c.place-place.ensures
          (λ e. w.if-owner-ne0.true (sym owner ∙ e)) w.dump_block.ensures.moves.holds w.in_ok-dump_block.ensures.moves.done w.dump_block.ensures.bases
      | else-owner-ne0 w ↦ not_dumped _ _ _ w.self-is (owner ∙ w.if-owner-ne0.false) c.requires.ready
    ] in
    let new = c.clear.new.self in
    let none : record_of m.tables.kept.slots c.args.user c.args.block ≡ None = none_from _ c.has.result c.has.ensures c.if-has.false in
    record {
      holds = blank_holds _ m new c.args.user c.args.block mid.holds c.clear.ensures;
      done = loading_done _ m new c.args.user c.args.block (block_at new.bank) other mid
          (blank_moves m new c.args.user c.args.block (block_at new.bank (base_of m.tables.owners.bases c.args.user + c.args.block)) none c.clear.ensures);
      fails = tt;
    }
