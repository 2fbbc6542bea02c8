use Rattle.std.proofs.Common.{ℕ, ◌≤◌, ◌∙◌, sym, arith}
use Rattle.plan_model.specs.Loads.{Places, base_for, dumps, is_in, stays}
use Rattle.plan_model.proofs.Counts.{count_same}
use Rattle.onion_swap.specs.Places as owners
use Rattle.onion_swap.specs.Brought.{comes_back, comes_fresh}
use Rattle.onion_swap.proofs.Owned.{reads_are, clears_are}
use Rattle.image_map.specs.Places.{places_of}
use Rattle.image_map.proofs.image.Image.plan_of.Goals as goal

pub returns-clause-base : goal.returns-clause-base
unfolding places_of base_for
returns-clause-base g c = c.plan.ensures.base

pub returns-clause-moved : goal.returns-clause-moved
unfolding places_of
returns-clause-moved g c = c.plan.ensures.moved

pub returns-clause-dumped : goal.returns-clause-dumped
unfolding places_of base_for dumps
returns-clause-dumped g c = c.plan.ensures.dumped

pub returns-clause-read : goal.returns-clause-read
unfolding places_of
returns-clause-read g c =
    let now = c.args.self.now.tables in
    let u : ℕ = c.args.user in
    let n : ℕ = c.args.blocks in
    let some : 1 ≤ c.args.user = omega (arith, c.number-number.ensures.range.0, c.number-number.ensures.value) in
    let p : Places = owners.places_of now.owners c.keeping.kept in
    let q : Places = places_of now.owners now.kept.slots in
    c.plan.ensures.read ∙ reads_are p u n some
    ∙ count_same n _ _ (λ b below. let has = c.keeping.invariant.kept b (omega arith) in λ j. comes_back (stays q u n) (is_in q u b) (has j))
    ∙ sym (reads_are q u n some)

pub returns-clause-fresh : goal.returns-clause-fresh
unfolding places_of
returns-clause-fresh g c =
    let now = c.args.self.now.tables in
    let u : ℕ = c.args.user in
    let n : ℕ = c.args.blocks in
    let some : 1 ≤ c.args.user = omega (arith, c.number-number.ensures.range.0, c.number-number.ensures.value) in
    let p : Places = owners.places_of now.owners c.keeping.kept in
    let q : Places = places_of now.owners now.kept.slots in
    c.plan.ensures.fresh ∙ clears_are p u n some
    ∙ count_same n _ _ (λ b below. let has = c.keeping.invariant.kept b (omega arith) in λ j. comes_fresh (is_in q u b) (has j))
    ∙ sym (clears_are q u n some)
