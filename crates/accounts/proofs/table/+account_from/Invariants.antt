use Rattle.std.proofs.Common.{length}
use Rattle.accounts.proofs.table.«+account_from».Given as goal

abbrev pub decreases-account_from : goal.decreases-account_from
decreases-account_from l = length l.accounts.now
