-- proof: what a name and a password come to.
use Rattle.std.specs.Prelude.{ℕ, Bool, false, if◌then◌else◌, Option, Some, None, List}
use Rattle.ctss_types.specs.declared.script.Account.{Account}
use Rattle.time_sharing.specs.System.{at}
use Rattle.accounts.specs.declared.table.Login.{Login}
use Rattle.accounts.specs.declared.table.Login.TheVariants.{Right, Unknown, Already}

-- the accounts, and which of them are logged in, the first user 1
pub record LoginTable : Type 0 where
  pub list : List Account
  pub on : List Bool

-- of the account that was found, if one was
abbrev pub login_by : Option ℕ → List Bool → Login
login_by None on = Unknown
login_by (Some u) on = if at false on u then Already else Right u
