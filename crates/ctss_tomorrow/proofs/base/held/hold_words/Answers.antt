use Rattle.std.proofs.Common.{List, subst, ◌∙◌}
use Rattle.std.specs.List.{All}
use Rattle.std.proofs.lemmas.List.{take_all}
use Rattle.std.proofs.lemmas.List.Elements.{All-more}
use Rattle.ctss_types.specs.declared.file.FileBody.{FileBody}
use Rattle.ctss_tomorrow.specs.Files.{HaveWords}
use Rattle.ctss_tomorrow.proofs.base.held.hold_words.Goals as goal

pub loop-files-preserved : goal.loop-files-preserved
loop-files-preserved c =
    All-more HaveWords c.as_slice-lists.result.now c.loop-files.files-index c.files-item.result c.loop-files-test.true c.loop-files.invariant
    (subst HaveWords c.files-item.is (subst HaveWords c.as_slice.ensures c.have_words.ensures))

pub returns : goal.returns
returns c =
    subst (λ (ls : List (List FileBody)). All HaveWords ls)
    (take_all c.loop-files.files-index c.as_slice-lists.result.now c.loop-files-test.false ∙ c.as_slice-lists.ensures) c.loop-files.invariant
