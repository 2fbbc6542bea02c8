use Rattle.record_laws.proofs.DirectoryRowsComputed as laws
use Rattle.record_laws.proofs.file_rules.row_of_rules.Goals as goal

pub returns : goal.returns
returns c = laws.row_of_rules
