use Rattle.text_model.specs.Made.{made_script}
use Rattle.made_script.proofs.Lawful.{made_is_lawful}
use Rattle.made_script.proofs.make_script.Goals as goal

pub returns-clause-lawful : goal.returns-clause-lawful
unfolding made_script
returns-clause-lawful c =
    rw (c.in_ok-add_accounts.ensures, c.in_ok-add_files.ensures, c.in_ok-add_events.ensures, c.new-accounts.ensures, c.new-files.ensures, c.new-events.ensures)
    (made_is_lawful c.args.n)

pub returns-clause-range : goal.returns-clause-range
returns-clause-range c = (returns-clause-lawful c).range
