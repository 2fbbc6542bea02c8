use Rattle.std.proofs.Common.{ap, ◌∙◌}
use Rattle.text_model.specs.Parts.{blank}
use Rattle.text_writer.proofs.Lines.{parted, ended}
use Rattle.text_writer.proofs.Added.{◌⨾◌, adds_is}
use Rattle.text_writer.proofs.report.entry.add_parted.Goals as goal

pub returns : goal.returns
returns g c =
    let second = c.args.second.now in
    adds_is (ended c.args.word.now c.args.before.now second c.args.behind.now ∙ parted c.args.word.now c.args.before.now second c.args.behind.now)
    (c.add.ensures ⨾ c.numbers.ensures ⨾ adds_is (ap blank c.as_bytes.ensures.value) c.blank.ensures ⨾ c.end_by.ensures)
