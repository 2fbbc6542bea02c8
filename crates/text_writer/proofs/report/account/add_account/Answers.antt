use Rattle.std.proofs.Common.{List, ap}
use Rattle.std.specs.List.{flat_map}
use Rattle.ctss_types.specs.declared.file.FileBody.{FileBody}
use Rattle.ctss_types.specs.declared.history.Item.{Item}
use Rattle.text_model.specs.Report.{item_text, file_text}
use Rattle.text_writer.proofs.Added.{◌⨾◌, adds_is}
use Rattle.text_writer.proofs.report.account.add_account.Goals as goal

pub returns : goal.returns
returns g c =
    c.add_title.ensures
    ⨾ adds_is (ap (λ (l : List Item). flat_map item_text l) c.transcript.ensures) c.add_items.ensures
    ⨾ c.add_title-2.ensures
    ⨾ adds_is (ap (λ (l : List FileBody). flat_map (file_text c.args.dump) l) c.files.ensures) c.add_files.ensures
