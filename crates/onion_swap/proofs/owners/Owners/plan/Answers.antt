use Rattle.std.specs.Prelude.{◌&&◌, nat_lt, nat_le}
use Rattle.std.proofs.Common.{◌≡◌, ℕ, ◌+◌, ◌≤◌, sym, ◌∙◌, ap, arith}
use Rattle.plan_model.specs.Loads.{Places, owned, others_from, stays, is_in, count_below}
use Rattle.plan_model.proofs.LoadLaws.{base_stays, base_moves, dumps_stays, dumps_moves, owned_and_others}
use Rattle.onion_swap.specs.Places.{owner_of, places_of}
use Rattle.onion_swap.specs.Brought.{comes_back}
use Rattle.onion_swap.proofs.Owned.{reads_are, clears_are, not_moved}
use Rattle.onion_swap.proofs.owners.Owners.plan.Goals as goal

pub returns-then-stay-clause-base : goal.returns-then-stay-clause-base
returns-then-stay-clause-base c =
    let p : Places = places_of c.args.self.now c.args.kept.now in
    let is : c.may_stay-stay.result ≡ stays p c.args.user c.args.blocks =
    c.may_stay-stay.ensures ∙ (λ j. nat_lt 0 (c.owned-own.ensures.value j) && nat_le (c.start-start.ensures.value j + c.args.blocks) 128) in
    c.start-start.ensures.value ∙ sym (base_stays p c.args.user c.args.blocks (sym is ∙ c.if-stay.true))

pub returns-then-stay-clause-moved : goal.returns-then-stay-clause-moved
returns-then-stay-clause-moved c =
    let p : Places = places_of c.args.self.now c.args.kept.now in
    let is : c.may_stay-stay.result ≡ stays p c.args.user c.args.blocks =
    c.may_stay-stay.ensures ∙ (λ j. nat_lt 0 (c.owned-own.ensures.value j) && nat_le (c.start-start.ensures.value j + c.args.blocks) 128) in
    not_moved _ _ (sym is ∙ c.if-stay.true)

pub returns-then-stay-clause-dumped : goal.returns-then-stay-clause-dumped
returns-then-stay-clause-dumped c =
    let p : Places = places_of c.args.self.now c.args.kept.now in
    let is : c.may_stay-stay.result ≡ stays p c.args.user c.args.blocks =
    c.may_stay-stay.ensures ∙ (λ j. nat_lt 0 (c.owned-own.ensures.value j) && nat_le (c.start-start.ensures.value j + c.args.blocks) 128) in
    c.others.ensures.value ∙ ap (λ (b : ℕ). others_from p.owner c.args.user c.args.blocks b) (returns-then-stay-clause-base c)
    ∙ sym (dumps_stays p c.args.user c.args.blocks (sym is ∙ c.if-stay.true))

pub returns-then-stay-clause-read : goal.returns-then-stay-clause-read
returns-then-stay-clause-read c =
    let p : Places = places_of c.args.self.now c.args.kept.now in
    let is : c.may_stay-stay.result ≡ stays p c.args.user c.args.blocks =
    c.may_stay-stay.ensures ∙ (λ j. nat_lt 0 (c.owned-own.ensures.value j) && nat_le (c.start-start.ensures.value j + c.args.blocks) 128) in
    let some : 1 ≤ c.args.user = omega (arith, c.number-number.ensures.range.0, c.number-number.ensures.value) in
    c.brought-read.ensures.read ∙ (λ j. count_below c.args.blocks (λ b. comes_back (is j) (is_in p c.args.user b) (p.kept c.args.user b))) ∙ sym (reads_are p c.args.user c.args.blocks some)

pub returns-then-stay-clause-fresh : goal.returns-then-stay-clause-fresh
returns-then-stay-clause-fresh c =
    let p : Places = places_of c.args.self.now c.args.kept.now in
    let some : 1 ≤ c.args.user = omega (arith, c.number-number.ensures.range.0, c.number-number.ensures.value) in
    c.brought-read.ensures.fresh ∙ sym (clears_are p c.args.user c.args.blocks some)

pub overflow_add-result : goal.overflow_add-result
overflow_add-result c =
    let both = owned_and_others (owner_of c.args.self.now.owners) c.args.user c.args.blocks c.least-base.result (omega (arith, c.least-base.ensures.inside)) in
    omega (arith, both, c.owned-own.ensures.value, c.others-others.ensures.value)

pub returns-clause-base : goal.returns-clause-base
returns-clause-base c =
    let p : Places = places_of c.args.self.now c.args.kept.now in
    let is : c.may_stay-stay.result ≡ stays p c.args.user c.args.blocks =
    c.may_stay-stay.ensures ∙ (λ j. nat_lt 0 (c.owned-own.ensures.value j) && nat_le (c.start-start.ensures.value j + c.args.blocks) 128) in
    c.least-base.ensures.value ∙ sym (base_moves p c.args.user c.args.blocks (sym is ∙ c.if-stay.false))

pub returns-clause-dumped : goal.returns-clause-dumped
returns-clause-dumped c =
    let p : Places = places_of c.args.self.now c.args.kept.now in
    let is : c.may_stay-stay.result ≡ stays p c.args.user c.args.blocks =
    c.may_stay-stay.ensures ∙ (λ j. nat_lt 0 (c.owned-own.ensures.value j) && nat_le (c.start-start.ensures.value j + c.args.blocks) 128) in
    (λ j. c.owned-own.ensures.value j + c.others-others.ensures.value j)
    ∙ ap (λ (b : ℕ). owned p.owner c.args.user + others_from p.owner c.args.user c.args.blocks b) (returns-clause-base c)
    ∙ sym (dumps_moves p c.args.user c.args.blocks (sym is ∙ c.if-stay.false))

pub returns-clause-read : goal.returns-clause-read
returns-clause-read c =
    let p : Places = places_of c.args.self.now c.args.kept.now in
    let is : c.may_stay-stay.result ≡ stays p c.args.user c.args.blocks =
    c.may_stay-stay.ensures ∙ (λ j. nat_lt 0 (c.owned-own.ensures.value j) && nat_le (c.start-start.ensures.value j + c.args.blocks) 128) in
    let some : 1 ≤ c.args.user = omega (arith, c.number-number.ensures.range.0, c.number-number.ensures.value) in
    c.brought-read.ensures.read ∙ (λ j. count_below c.args.blocks (λ b. comes_back (is j) (is_in p c.args.user b) (p.kept c.args.user b))) ∙ sym (reads_are p c.args.user c.args.blocks some)

pub returns-clause-fresh : goal.returns-clause-fresh
returns-clause-fresh c =
    let p : Places = places_of c.args.self.now c.args.kept.now in
    let some : 1 ≤ c.args.user = omega (arith, c.number-number.ensures.range.0, c.number-number.ensures.value) in
    c.brought-read.ensures.fresh ∙ sym (clears_are p c.args.user c.args.blocks some)
