use Rattle.std.specs.Prelude.{Some}
use Rattle.std.proofs.Common.{◌∙◌, sym, ap, arith}
use Rattle.std.proofs.lemmas.List.{get_or_read}
use Rattle.file_model.specs.Files.{same_name}
use Rattle.file_tracks.specs.Stored.{body_on}
use Rattle.file_tracks.specs.declared.table.Filed.{Filed}
use Rattle.file_tracks.proofs.Found.{named_more, named_here, named_none}
use Rattle.file_tracks.proofs.table.find.Goals as goal

pub returns-then-eq : goal.returns-then-eq
returns-then-eq c =
    let fs = c.args.files.now in
    let low = c.finding-test.true in
    let f = c.index-files-at.result in (
      low,
      λ contents d.
          sym (c.finding.invariant contents) ∙ named_here c.args.name contents fs c.finding.at f low c.index-files-at.is (ap (λ (g : Filed). same_name g.name c.args.name) c.index-files-at.is ∙ sym c.eq.ensures ∙ c.if-eq.true)
          ∙ ap (λ (g : Filed). Some (body_on contents g)) (get_or_read fs c.finding.at f low c.index-files-at.is d),
    )

pub finding-preserved : goal.finding-preserved
finding-preserved c contents =
    sym (named_more c.args.name contents c.args.files.now c.finding.at c.index-files-at.result c.finding-test.true c.index-files-at.is (ap (λ (g : Filed). same_name g.name c.args.name) c.index-files-at.is ∙ sym c.eq.ensures ∙ c.if-eq.false))
    ∙ c.finding.invariant contents

pub returns : goal.returns
returns c contents = sym (c.finding.invariant contents) ∙ named_none c.args.name contents c.args.files.now c.finding.at (omega (arith, c.finding-test.false))
