use Rattle.record_laws.proofs.Directories as laws
use Rattle.record_laws.proofs.file_rules.directories_keep_rules.Goals as goal

pub returns : goal.returns
returns c = laws.directories_keep_rules
