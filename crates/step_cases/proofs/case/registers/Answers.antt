use Rattle.std.proofs.Common.{◌≡◌, ◌+◌, ◌-◌, ◌<◌, map, nat_eq, ap, ◌∙◌, arith}
use Rattle.step_cases.proofs.Fields.{field_in, one_more}
use Rattle.step_cases.specs.Fields.{acc_of, octal_of, field_at}
use Rattle.step_cases.proofs.case.registers.Goals as goal

pub loop-tag-preserved : goal.loop-tag-preserved
loop-tag-preserved c =
    let low : 0 < c.loop-tag.tag = omega (arith, c.loop-tag.auto.tag) in
    let next : 2 + c.loop-tag.tag ≡ 3 + (c.loop-tag.tag - 1) = omega (arith, low) in
    let said = c.in_ok-index.ensures.value.1 ∙ ap octal_of (field_in c.args.fields.now (2 + c.loop-tag.tag) _ (omega (arith, c.requires, c.loop-tag-test.true))) in
    let wanted = said ∙ ap (λ k. octal_of (field_at (map (λ field. field.now) c.args.fields.now) k)) next in
    let more = one_more _ _ _ _ _ (ap (λ r. r.index) c.set_xr.ensures) c.loop-tag.invariant.3 low c.loop-tag-test.true wanted c.loop-tag.invariant.4 in
    (ap (λ r. r.ac) c.set_xr.ensures ∙ c.loop-tag.invariant.0, ap (λ r. r.mq) c.set_xr.ensures ∙ c.loop-tag.invariant.1, ap (λ r. r.si) c.set_xr.ensures ∙ c.loop-tag.invariant.2, more.0, more.1)

pub returns-clause-value : goal.returns-clause-value
returns-clause-value c =
    record {
      ac = c.loop-tag.invariant.0 ∙ c.in_ok-regs.ensures ∙ ap acc_of (field_in c.args.fields.now 0 _ (omega (arith, c.requires)));
      mq = c.loop-tag.invariant.1 ∙ c.in_ok-regs-2.ensures.1 ∙ ap octal_of (field_in c.args.fields.now 1 _ (omega (arith, c.requires)));
      si = c.loop-tag.invariant.2 ∙ c.in_ok-regs-3.ensures.1 ∙ ap octal_of (field_in c.args.fields.now 2 _ (omega (arith, c.requires)));
      index = λ k h. c.loop-tag.invariant.4 k (omega (arith, h, c.loop-tag-test.false));
      ic = c.in_ok-regs-4.ensures.value.1 ∙ ap octal_of (field_in c.args.fields.now 10 _ (omega (arith, c.requires)));
      overflow = ap (λ n. nat_eq n 1) (c.in_ok-regs-5.ensures.value.1 ∙ ap octal_of (field_in c.args.fields.now 11 _ (omega (arith, c.requires))));
      divide_check = ap (λ n. nat_eq n 1) (c.in_ok-regs-6.ensures.value.1 ∙ ap octal_of (field_in c.args.fields.now 12 _ (omega (arith, c.requires))));
    }
