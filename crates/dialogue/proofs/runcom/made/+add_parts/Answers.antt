use Rattle.std.proofs.Common.{◌∙◌, ◌≤◌, ℕ, length, take, drop, sym, ap, arith}
use Rattle.std.proofs.lemmas.Result.{IfOk-weaker}
use Rattle.ctss_types.specs.Words.{words_of}
use Rattle.program_model.specs.CommandLines.{argument_for}
use Rattle.dialogue.proofs.Parts.{no_part, one_part, parts_from, empty_is, some_is, grown_all, rest_all}
use Rattle.dialogue.proofs.runcom.made.+add_parts.Goals as goal

pub returns-in_default-clause-value : goal.returns-in_default-clause-value
returns-in_default-clause-value t c =
    no_part (words_of c.args.arguments.now) c.args.line.now
    (ap (argument_for (words_of c.args.arguments.now)) (ap (λ (n : ℕ). take n c.args.line.now) (sym c.part_len.ensures.value) ∙ sym c.split_at.ensures.front) ∙ sym c.in_default.ensures.value)

pub returns-then-is_empty-clause-value : goal.returns-then-is_empty-clause-value
returns-then-is_empty-clause-value t c =
    one_part (words_of c.args.arguments.now) c.args.line.now c.args.text.now.items c.extend_from_slice.new.self.items c.in-Some.value.now
    (ap (λ (n : ℕ). drop n c.args.line.now) (sym c.part_len.ensures.value) ∙ sym c.split_at.ensures.back ∙ empty_is _ (sym c.is_empty.ensures ∙ c.if-is_empty.true))
    (ap (argument_for (words_of c.args.arguments.now)) (ap (λ (n : ℕ). take n c.args.line.now) (sym c.part_len.ensures.value) ∙ sym c.split_at.ensures.front) ∙ sym c.in-Some.ensures.value)
    c.in_ok-extend_from_slice.ensures.items

pub add_parts-requires : goal.add_parts-requires
add_parts-requires t c =
    let some : 1 ≤ length c.split_at.result.1.now = some_is _ (sym c.is_empty.ensures ∙ c.if-is_empty.false) in (
      omega (arith, c.decreases, c.split_at.ensures.back_len, c.split_at-2.ensures.back_len, some),
      (
        rest_all 1 c.split_at.result.1.now c.split_at-2.result.1.now c.split_at-2.ensures.back (rest_all c.part_len.result c.args.line.now c.split_at.result.1.now c.split_at.ensures.back c.requires.line),
        (c.requires.arguments, grown_all c.args.text.now.items c.in-Some.value.now _ _ c.in_ok-extend_from_slice.ensures.items c.in_ok-push.ensures.items c.requires.before c.in-Some.ensures.characters),
      ),
    )

pub returns-clause-value : goal.returns-clause-value
returns-clause-value t c =
    let some : 1 ≤ length c.split_at.result.1.now = some_is _ (sym c.is_empty.ensures ∙ c.if-is_empty.false) in
    IfOk-weaker c.add_parts.result _ _
    (λ whole h. parts_from (words_of c.args.arguments.now) c.args.line.now c.split_at.result.1.now c.split_at-2.result.1.now c.in-Some.value.now whole c.args.text.now.items c.extend_from_slice.new.self.items _ _ c.part_len.result
    c.part_len.ensures.value c.split_at.ensures.back some c.split_at-2.ensures.back
    (ap (argument_for (words_of c.args.arguments.now)) (ap (λ (n : ℕ). take n c.args.line.now) (sym c.part_len.ensures.value) ∙ sym c.split_at.ensures.front) ∙ sym c.in-Some.ensures.value)
    c.in_ok-extend_from_slice.ensures.items c.in_ok-push.ensures.items h)
    c.add_parts.ensures.value
