use Rattle.std.proofs.Common.{◌≡◌, ◌≤◌, ◌<◌, ℕ, refl, ◌∙◌, ap, subst, arith, List, ◌++◌, inl, inr}
use Rattle.std.proofs.lemmas.Grind.{common_steps}
use Rattle.medium.specs.Medium.{Call}
use Rattle.core_bank.specs.Bank.{block_at}
use Rattle.plan_model.specs.Loads.{stays, is_moved, base_for, dumps, reads, clears, loaded}
use Rattle.image_map.specs.Images.{size_of}
use Rattle.image_map.specs.Loads.{block_map_of, load_to, calls_to, map_before, bases_before, calls_before, with_calls, FailedIn}
use Rattle.image_map.specs.Places.{places_of}
use Rattle.image_map.proofs.Counted.{load_counts}
use Rattle.image_map.proofs.Laid.{stay_is}
use Rattle.image_map.proofs.image.Image.load_user.Goals as goal

pub returns-in-Ok : goal.returns-in-Ok
returns-in-Ok g c =
    let old = c.args.self.now.tables in
    let u = c.args.user in
    let all = c.bring.ensures in
    let n = size_of old.sizes.items c.args.user in
    let places = places_of old.owners old.kept.slots in
    let quotas = old.kept.slots.quotas.items in
    let bases = old.owners.bases in
    let before = block_map_of old.owners.owners old.kept.slots in
    let words = block_at c.bring.new.self.bank in
    let size : c.index-blocks.result.now ≡ n = grind (arith, common_steps) in
    let some : 1 ≤ c.args.user = omega (arith, c.number.ensures.range.0, c.number.ensures.value) in
    let few : c.args.user < 31 = omega (arith, c.requires.user, old.sound.users, old.sound.few) in
    let base : c.plan_of-plan.result.base ≡ base_for places c.args.user n = c.plan_of-plan.ensures.base ∙ ap (λ (k : ℕ). base_for places u k) size in
    let low : base_for places c.args.user n < 128 = omega (arith, base, c.plan_of-plan.ensures.inside) in
    let stay : c.stays-stay.result ≡ stays places c.args.user n = stay_is old.owners old.kept.slots c.args.user c.index-blocks.result.now c.stays-stay.result c.stays-stay.ensures ∙ ap (λ (k : ℕ). stays places u k) size in
    let counts = load_counts old.owners old.kept.slots old.sizes.items u n words old.sound old.kept.slots.places some few low (omega arith) in
    record {
      keeps = record {
        drum = all.moves.holds.same;
        serves = all.moves.holds.serves;
        quotas = all.moves.holds.quotas;
        sizes = search;
        words = all.moves.holds.words;
        outside = λ q away. all.others q (elim away [ inl below ↦ inl (omega (arith, base)) | inr past ↦ inr (omega (arith, base, size)) ]);
        faults = all.moves.holds.faults_grow;
        writes_are = counts.0;
        reads_are = counts.1;
      };
      done = record {
        going = search;
        images = c.in-Ok.ensures.moves.done.images;
        resident = λ b below. c.in-Ok.ensures.resident b (omega (arith, size, below));
        places = c.in-Ok.ensures.places ∙ ap (λ (k : ℕ). loaded places u k) size;
        bases = c.in-Ok.ensures.bases ∙ (λ j. bases_before bases u (stay j) (base j));
        block_map = c.in-Ok.ensures.moves.done.block_map ∙ (λ j. load_to quotas (bases_before bases u (stay j) (base j)) (map_before quotas bases before u (stay j)) u (size j));
        base_is = base;
        moved = c.plan_of-plan.ensures.moved ∙ ap (λ (k : ℕ). is_moved places u k) size;
        dumped = c.plan_of-plan.ensures.dumped ∙ ap (λ (k : ℕ). dumps places u k) size;
        read = c.plan_of-plan.ensures.read ∙ ap (λ (k : ℕ). reads places u k) size;
        fresh = c.plan_of-plan.ensures.fresh ∙ ap (λ (k : ℕ). clears places u k) size;
        calls = c.in-Ok.ensures.moves.done.calls
            ∙ (λ j. with_calls (g.D.Medium.calls old.kept.drum.now) (calls_before quotas bases before u (stay j) ++ calls_to quotas (bases_before bases u (stay j) (base j)) (map_before quotas bases before u (stay j)) u (size j) words));
      };
      fails = tt;
    }

pub returns-in-Err : goal.returns-in-Err
returns-in-Err g c =
    let old = c.args.self.now.tables in
    let u = c.args.user in
    let all = c.bring.ensures in
    let n = size_of old.sizes.items c.args.user in
    let places = places_of old.owners old.kept.slots in
    let quotas = old.kept.slots.quotas.items in
    let bases = old.owners.bases in
    let before = block_map_of old.owners.owners old.kept.slots in
    let words = block_at c.bring.new.self.bank in
    let size : c.index-blocks.result.now ≡ n = grind (arith, common_steps) in
    let some : 1 ≤ c.args.user = omega (arith, c.number.ensures.range.0, c.number.ensures.value) in
    let few : c.args.user < 31 = omega (arith, c.requires.user, old.sound.users, old.sound.few) in
    let base : c.plan_of-plan.result.base ≡ base_for places c.args.user n = c.plan_of-plan.ensures.base ∙ ap (λ (k : ℕ). base_for places u k) size in
    let low : base_for places c.args.user n < 128 = omega (arith, base, c.plan_of-plan.ensures.inside) in
    let stay : c.stays-stay.result ≡ stays places c.args.user n = stay_is old.owners old.kept.slots c.args.user c.index-blocks.result.now c.stays-stay.result c.stays-stay.ensures ∙ ap (λ (k : ℕ). stays places u k) size in
    let counts = load_counts old.owners old.kept.slots old.sizes.items u n words old.sound old.kept.slots.places some few low (omega arith) in
    record {
      keeps = record {
        drum = all.moves.holds.same;
        serves = all.moves.holds.serves;
        quotas = all.moves.holds.quotas;
        sizes = search;
        words = all.moves.holds.words;
        outside = λ q away. all.others q (elim away [ inl below ↦ inl (omega (arith, base)) | inr past ↦ inr (omega (arith, base, size)) ]);
        faults = all.moves.holds.faults_grow;
        writes_are = counts.0;
        reads_are = counts.1;
      };
      done = tt;
      fails = record {
        lost = refl;
        calls = subst (λ (cs : List Call). FailedIn (g.D.Medium.calls old.kept.drum.now) (g.D.Medium.calls c.bring.new.self.tables.kept.drum.now) cs)
            (λ j. calls_before quotas bases before u (stay j) ++ calls_to quotas (bases_before bases u (stay j) (base j)) (map_before quotas bases before u (stay j)) u (size j) words) c.in-Err.ensures.moves.fails.failed;
        cause = c.in-Err.ensures.moves.fails.cause;
      };
    }

pub bring-requires-clause-planned : goal.bring-requires-clause-planned
bring-requires-clause-planned g c =
    let old = c.args.self.now.tables in
    let size : c.index-blocks.result.now ≡ size_of old.sizes.items c.args.user = grind (arith, common_steps) in
    record {
      user_is = c.requires.user;
      size_is = omega (arith, size);
      inside = c.plan_of-plan.ensures.inside;
      room = c.plan_of-plan.ensures.room;
      stays = stay_is old.owners old.kept.slots c.args.user c.index-blocks.result.now c.stays-stay.result c.stays-stay.ensures;
      starts = c.plan_of-plan.ensures.base;
    }
