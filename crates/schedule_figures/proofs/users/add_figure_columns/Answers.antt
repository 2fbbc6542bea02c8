use Rattle.std.proofs.Common.{ap}
use Rattle.text_model.specs.Parts.{column}
use Rattle.picture_model.specs.Figures.{responses, turnarounds}
use Rattle.picture_model.specs.Requests.{visits}
use Rattle.text_writer.proofs.Added.{◌⨾◌, adds_is}
use Rattle.schedule_figures.proofs.Worked.{loads_are}
use Rattle.schedule_figures.proofs.users.add_figure_columns.Goals as goal

pub returns : goal.returns
returns g c =
    adds_is (ap (column 7) c.work_of-work.ensures.lines) c.add_column.ensures
    ⨾ adds_is (ap (column 9) c.work_of-work.ensures.services) c.add_column-2.ensures
    ⨾ adds_is (ap (column 10) c.work_of-work.ensures.served) c.add_column-3.ensures
    ⨾ adds_is (ap (column 10) c.requests_of-requests.ensures.requests.waited) c.add_column-4.ensures
    ⨾ c.add_to.ensures (responses (visits c.args.user c.args.entries.now)) c.requests_of-requests.ensures.requests.responses
    ⨾ c.add_to-2.ensures (turnarounds (visits c.args.user c.args.entries.now)) c.requests_of-requests.ensures.requests.turnarounds
    ⨾ adds_is (loads_are c.args.user c.work_of-work.result c.args.entries.now c.work_of-work.ensures) c.add_load_columns.ensures
