use Rattle.std.proofs.Common.{List, ap}
use Rattle.std.specs.List.{flat_map}
use Rattle.ctss_types.specs.declared.script.Account.{Account}
use Rattle.ctss_types.specs.declared.file.FileBody.{FileBody}
use Rattle.ctss_types.specs.declared.history.Entry.{Entry}
use Rattle.text_model.specs.Report.{report_of, accounts_text, file_text, entry_text}
use Rattle.text_writer.proofs.Added.{◌⨾◌, adds_is}
use Rattle.text_writer.proofs.report.add_report.Goals as goal

pub returns : goal.returns
unfolding report_of
returns g c =
    adds_is (ap (λ (l : List Account). accounts_text c.args.dump 1 l c.args.run.now) c.as_slice.ensures) c.add_accounts.ensures
    ⨾ c.line.ensures
    ⨾ adds_is (ap (λ (l : List FileBody). flat_map (file_text c.args.dump) l) c.as_slice-2.ensures) c.add_files.ensures
    ⨾ c.line-2.ensures
    ⨾ adds_is (ap (λ (l : List Entry). flat_map entry_text l) c.as_slice-3.ensures) c.add_entries.ensures
    ⨾ c.add_end.ensures
