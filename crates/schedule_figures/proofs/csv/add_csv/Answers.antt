use Rattle.std.proofs.Common.{List, ap}
use Rattle.std.specs.List.{flat_map}
use Rattle.ctss_types.specs.declared.history.Entry.{Entry}
use Rattle.picture_model.specs.Csv.{csv_of, csv_row}
use Rattle.text_writer.proofs.Added.{◌⨾◌, adds_is}
use Rattle.schedule_figures.proofs.csv.add_csv.Goals as goal

pub returns : goal.returns
unfolding csv_of
returns g c =
    c.line.ensures ⨾ adds_is (ap (λ (l : List Entry). flat_map (csv_row c.args.script.now.params.swap) l) c.as_slice.ensures) c.add_rows.ensures
