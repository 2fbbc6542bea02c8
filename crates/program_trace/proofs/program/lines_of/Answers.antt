use Rattle.std.proofs.Common.{◌-◌, ◌+◌, ℕ, List, drop, sym, ap, ◌∙◌, arith}
use Rattle.fap_assemble.specs.Steps.{texts}
use Rattle.program_trace.specs.Programs.{most_lines, line_in, lines_from}
use Rattle.program_trace.proofs.Lines.{onto, onto_none, next_line, bad_line, one_too_many, all_told}
use Rattle.program_trace.proofs.program.lines_of.Goals as goal

pub loop-card-init : goal.loop-card-init
loop-card-init c =
    let all = lines_from most_lines c.args.first (texts c.args.cards.now) in
    (ap (λ (ls : List (List ℕ)). onto ls all) c.new-lines.ensures ∙ onto_none all, omega arith)

pub loop-card-preserved : goal.loop-card-preserved
loop-card-preserved c =
    let l = c.loop-card in
    let cards = c.args.cards.now in
    let left = lines_from (l.left - 1) (l.number + 1) (texts (drop (l.card-index + 1) cards)) in (
      ap (λ (ls : List (List ℕ)). onto ls left) c.in_ok-push.ensures.ok
          ∙ sym (next_line l.lines c.in-Some.line l.left l.number l.card-index c.card-item.result cards c.loop-card-test.true c.card-item.is
          (sym c.in-Some.is ∙ c.line_of.ensures ∙ ap line_in c.as_slice.ensures) (omega arith))
          ∙ l.invariant.0,
      omega (arith, l.invariant.1),
    )

pub returns-then-left-eq0 : goal.returns-then-left-eq0
returns-then-left-eq0 c =
    let l = c.loop-card in
    sym (one_too_many l.lines l.left l.number l.card-index c.card-item.result c.args.cards.now c.loop-card-test.true c.card-item.is c.if-left-eq0.true) ∙ l.invariant.0

pub returns-in_default : goal.returns-in_default
returns-in_default c =
    let l = c.loop-card in
    sym (bad_line l.lines l.left l.number l.card-index c.card-item.result c.args.cards.now c.loop-card-test.true c.card-item.is
    (sym c.in_default.is ∙ c.line_of.ensures ∙ ap line_in c.as_slice.ensures)) ∙ l.invariant.0

pub returns : goal.returns
returns c =
    let l = c.loop-card in
    sym (all_told l.lines l.left l.number l.card-index c.args.cards.now c.loop-card-test.false) ∙ l.invariant.0
