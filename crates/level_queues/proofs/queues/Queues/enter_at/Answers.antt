use Rattle.std.proofs.Common.{rules, ◌≡◌, ℕ, ◌<◌, ◌≤◌, false, refl, ap, ◌∙◌, arith}
use Rattle.plan_model.specs.Levels.{Levels, waits, is_in}
use Rattle.level_queues.proofs.Counts.{room, sound_enter}
use Rattle.level_queues.proofs.Spending.{empty_enter}
use Rattle.level_queues.proofs.Rising.{rise_enter}
use Rattle.level_queues.proofs.queues.Queues.enter_at.Goals as goal

pub add_in-requires-clause-room : goal.add_in-requires-clause-room
unfolding waits
add_in-requires-clause-room c =
    let out : is_in c.args.user c.self.inside.rows ≡ false = ap (λ (q : Levels). is_in c.args.user q.rows) c.self.view_is ∙ c.requires.out in
    let some : 1 ≤ c.args.user = omega (arith, c.number.ensures.value, c.number.ensures.range.0) in
    let few : c.args.user < 31 = omega (arith, c.number.ensures.value, c.number.ensures.range.1) in
    room c.self.inside.wq c.self.inside.quantum c.self.inside.rows c.args.user c.args.level c.self.invariant.0 out some few

pub invariant_of-self : goal.invariant_of-self
unfolding waits
invariant_of-self c =
    let out : is_in c.number.result c.self.inside.rows ≡ false = ap (λ (u : ℕ). is_in u c.self.inside.rows) c.number.ensures.value ∙ ap (λ (q : Levels). is_in c.args.user q.rows) c.self.view_is ∙ c.requires.out in
    let few : c.number.result < 31 = omega (arith, c.number.ensures.range.1) in
    rw c.add_in.ensures (
      sound_enter c.self.inside.wq c.self.inside.quantum c.self.inside.rows c.args.level _ c.self.invariant.0 c.requires.small out (c.number.ensures.range.0, few),
      empty_enter c.self.inside.low c.args.level _ c.self.inside.rows _ c.self.invariant.1 (search rules) (search rules),
      search rules,
      rise_enter c.self.inside.age c.self.inside.soon c.soon_with-self-inside.result c.args.now c.args.level c.self.inside.besides c.self.inside.rows _ c.self.invariant.3 c.soon_with-self-inside.ensures.under c.soon_with-self-inside.ensures.later refl,
    )
