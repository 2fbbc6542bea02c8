use Rattle.std.proofs.Common.{ℕ, ◌<◌, ◌^◌, List, subst}
use Rattle.std.specs.List.{All}
use Rattle.std.proofs.lemmas.List.{take_all}
use Rattle.std.proofs.lemmas.List.Elements.{All-more}
use Rattle.ctss_types.specs.declared.file.FileBody.{FileBody}
use Rattle.ctss_tomorrow.specs.Files.{HaveWords}
use Rattle.ctss_tomorrow.proofs.base.held.have_words.Goals as goal

abbrev HasWords : FileBody → Type 0
HasWords f = All (λ w. w < 2 ^ 36) f.words

pub loop-file-preserved : goal.loop-file-preserved
loop-file-preserved c =
    All-more HasWords c.args.files.now c.loop-file.file-index c.file-item.result c.loop-file-test.true c.loop-file.invariant
    (subst HasWords c.file-item.is (subst (λ (ws : List ℕ). All (λ w. w < 2 ^ 36) ws) c.as_slice.ensures c.are_words.ensures))

pub returns : goal.returns
returns c = subst HaveWords (take_all c.loop-file.file-index c.args.files.now c.loop-file-test.false) c.loop-file.invariant
