use Rattle.std.proofs.Common.{◌≡◌, inl, inr, ℕ, ◌<◌, ◌≤◌, List, sym, ◌∙◌, ap, subst, arith, rules}
use Rattle.core_bank.specs.Bank.{block_at}
use Rattle.medium.specs.Medium.{Call}
use Rattle.onion_swap.specs.Places.{base_of}
use Rattle.plan_model.specs.Loads.{loaded}
use Rattle.image_map.specs.Images.{IsImage, IsResident}
use Rattle.image_map.specs.Loads.{BlockMap, block_map_of, load_to, calls_to, map_before, bases_before, calls_before, with_calls, FailedIn}
use Rattle.image_map.specs.Places.{places_of}
use Rattle.image_map.proofs.Calls.{on_ok, given_ok, with_calls-append, failed_left, failed_right}
use Rattle.image_map.proofs.Moved.{holds_both, stops_in, done_from, fails_from}
use Rattle.image_map.proofs.Laid.{laid_base, places_loaded}
use Rattle.image_map.proofs.image.Image.bring.Goals as goal

pub load_blocks-requires-clause-room : goal.load_blocks-requires-clause-room
load_blocks-requires-clause-room g c =
    let old = c.args.self.now.tables in
    let at : base_of c.lay.new.self.tables.owners.bases c.args.user ≡ c.args.base =
    ap (λ (l : List ℕ). base_of l c.args.user) c.in_ok-lay.ensures.bases
    ∙ laid_base old.owners old.kept.slots c.args.user c.args.blocks c.args.base c.args.stay c.requires.planned.stays c.requires.planned.starts (omega (arith, c.requires.planned.user_is, old.sound.numbers, old.sound.users, old.sound.few)) in
    omega (arith, at, c.requires.planned.room)

pub returns-in_err-lay-clause-moves : goal.returns-in_err-lay-clause-moves
returns-in_err-lay-clause-moves g c =
    let fault = c.in_err-lay.ensures.moves.fails in
    record {
      holds = c.lay.ensures.moves.holds;
      done = search rules;
      fails = stops_in _ _ _ _ (failed_left _ _ _ _ fault.failed) fault.cause;
    }

pub returns-clause-others : goal.returns-clause-others
returns-clause-others g c =
    let old = c.args.self.now.tables in
    let at : base_of c.lay.new.self.tables.owners.bases c.args.user ≡ c.args.base =
    ap (λ (l : List ℕ). base_of l c.args.user) c.in_ok-lay.ensures.bases
    ∙ laid_base old.owners old.kept.slots c.args.user c.args.blocks c.args.base c.args.stay c.requires.planned.stays c.requires.planned.starts (omega (arith, c.requires.planned.user_is, old.sound.numbers, old.sound.users, old.sound.few)) in
    λ q away. c.load_blocks.ensures.others q (elim away [ inl low ↦ inl (omega (arith, at)) | inr high ↦ inr (omega (arith, at)) ]) ∙ ap (λ (l : List ℕ). block_at l q) c.lay.ensures.bank

pub returns-clause-moves : goal.returns-clause-moves
returns-clause-moves g c =
    let say = c.in_ok-lay.ensures in
    let old = c.args.self.now.tables in
    let mid = c.lay.new.self.tables in
    let new = c.load_blocks.new.self.tables in
    let words = block_at c.load_blocks.new.self.bank in
    let h : BlockMap = block_map_of old.owners.owners old.kept.slots in
    let front : List Call = calls_before old.kept.slots.quotas.items old.owners.bases h c.args.user c.args.stay in
    let back : List Call = calls_to old.kept.slots.quotas.items (bases_before old.owners.bases c.args.user c.args.stay c.args.base) (map_before old.kept.slots.quotas.items old.owners.bases h c.args.user c.args.stay) c.args.user c.args.blocks words in
    record {
      holds = holds_both c.lay.ensures.moves.holds c.load_blocks.ensures.moves.holds;
      done = done_from c.load_blocks.result _ _ _ _ _ _ c.load_blocks.ensures.moves.done (λ e. record {
        block_map = e.block_map ∙ (λ j. load_to (c.lay.ensures.moves.holds.quotas j).items (say.bases j) (say.moves.done.block_map j) c.args.user c.args.blocks);
        images = λ u some. e.images u some ∙ say.moves.done.images u some;
        calls = e.calls
            ∙ (λ j. with_calls (say.moves.done.calls j) (calls_to (c.lay.ensures.moves.holds.quotas j).items (say.bases j) (say.moves.done.block_map j) c.args.user c.args.blocks words))
            ∙ sym (with_calls-append (g.D.Medium.calls old.kept.drum.now) front back);
      });
      fails = fails_from c.load_blocks.result _ _ _ _ _ _ c.load_blocks.ensures.moves.fails (λ fault. record {
        failed = failed_right front back (g.D.Medium.calls old.kept.drum.now) (g.D.Medium.calls mid.kept.drum.now) (g.D.Medium.calls new.kept.drum.now) say.moves.done.calls
            (subst (λ (cs : List Call). FailedIn (g.D.Medium.calls mid.kept.drum.now) (g.D.Medium.calls new.kept.drum.now) cs)
            (λ j. calls_to (c.lay.ensures.moves.holds.quotas j).items (say.bases j) (say.moves.done.block_map j) c.args.user c.args.blocks words) fault.failed);
        cause = (let rose = fault.cause in let grew = c.lay.ensures.moves.holds.faults_grow in omega (arith, rose, grew));
      });
    }

pub returns-clause-places : goal.returns-clause-places
returns-clause-places g c =
    let old = c.args.self.now.tables in
    let mid = c.lay.new.self.tables in
    let new = c.load_blocks.new.self.tables in
    let say = c.in_ok-lay.ensures in
    let some : 1 ≤ c.args.user = omega (arith, c.number-number.ensures.range.0, c.number-number.ensures.value) in
    let few : c.args.user < 31 = omega (arith, c.requires.planned.user_is, old.sound.users, old.sound.few) in
    let sound : IsImage mid.owners.bases mid.owners.owners mid.kept.slots.slots.items mid.kept.slots.quotas.items old.sizes.items =
    subst (λ (l : List ℕ). IsImage mid.owners.bases mid.owners.owners mid.kept.slots.slots.items mid.kept.slots.quotas.items l) (λ j. (c.lay.ensures.moves.holds.sizes j).items) mid.sound in
    on_ok c.load_blocks.result (IsResident new.owners c.args.blocks c.args.user) (places_of new.owners new.kept.slots ≡ loaded (places_of old.owners old.kept.slots) c.args.user c.args.blocks)
    c.load_blocks.ensures.resident (λ ok resident. places_loaded old.owners mid.owners new.owners old.kept.slots mid.kept.slots new.kept.slots old.sizes.items c.args.user c.args.blocks c.args.stay (sym c.requires.planned.stays)
    old.sound sound old.kept.slots.places mid.kept.slots.places some few c.lay.ensures.moves.holds.quotas c.load_blocks.ensures.moves.holds.quotas
    (say.bases ∙ ap (λ (b : ℕ). bases_before old.owners.bases c.args.user c.args.stay b) c.requires.planned.starts) c.load_blocks.ensures.bases say.moves.done.block_map
    (given_ok c.load_blocks.result _ c.load_blocks.ensures.moves.done ok).block_map resident c.requires.planned.size_is)
