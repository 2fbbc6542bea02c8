use Rattle.ctss_tomorrow.proofs.RowsComputed as laws
use Rattle.ctss_tomorrow.proofs.base.tomorrow.row_of_names.Goals as goal

pub returns : goal.returns
returns c = laws.row_of_names
