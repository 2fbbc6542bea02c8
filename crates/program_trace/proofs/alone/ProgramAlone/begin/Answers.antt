use Rattle.std.proofs.Common.{ℕ, ◌*◌, List, length, ap, ◌∙◌, arith}
use Rattle.std.proofs.lemmas.List.{length-replicate}
use Rattle.user_model.specs.User.{typed}
use Rattle.program_trace.proofs.Sessions.{asked, none_typed, takes_line, one_typed, each_typed, no_blocks, begins}
use Rattle.program_trace.proofs.alone.ProgramAlone.begin.Goals as goal

pub type_line-requires : goal.type_line-requires
type_line-requires c =
    takes_line c.loop-line.session c.args.lines.now c.loop-line.line-index c.loop-line.invariant c.loop-line-test.true c.requires

pub loop-line-init : goal.loop-line-init
loop-line-init c = none_typed c.in-Ok.session c.args.lines.now c.in-Ok.ensures

pub loop-line-preserved : goal.loop-line-preserved
loop-line-preserved c =
    c.type_line.ensures ∙ ap (typed c.line-item.result) c.loop-line.invariant
    ∙ one_typed asked c.args.lines.now c.loop-line.line-index c.line-item.result c.loop-line-test.true c.line-item.is

pub invariant_of-result : goal.invariant_of-result
invariant_of-result c =
    let typed_all = c.loop-line.invariant ∙ each_typed asked c.args.lines.now c.loop-line.line-index c.loop-line-test.false in
    let told = no_blocks c.loop-line.session c.args.lines.now typed_all in (
      omega (arith, ap (λ (core : List ℕ). length core) c.in_ok-core.ensures, length-replicate {A = ℕ} (256 * 0) 0, told.0),
      told.1,
      ap (λ d. d.quota) c.in_ok-files.ensures,
      ap (λ d. d.quota) c.new-2.ensures,
    )

pub returns : goal.returns
returns c =
    begins _ c.args.lines.now c.args.deck.now c.in_ok-core.core c.in_ok-files.files.files c.new-2.result.files
    (c.loop-line.invariant ∙ each_typed asked c.args.lines.now c.loop-line.line-index c.loop-line-test.false)
    c.in_ok-core.ensures (ap (λ d. d.files) c.in_ok-files.ensures) (ap (λ d. d.files) c.new-2.ensures)
