use Rattle.supervisor.proofs.Starts.{starts, sound_made}
use Rattle.supervisor.proofs.start.first_state.Goals as goal

pub returns-clause-run : goal.returns-clause-run
returns-clause-run c = rw (c.in_ok-new.ensures, c.in_ok-sessions_of.ensures, c.as_slice-accounts.ensures, c.in_ok-consoles_of.ensures, c.new-2.ensures, c.new-3.ensures.items, c.new-4.ensures.items) (starts c.args.script.now)

pub returns-clause-sound : goal.returns-clause-sound
returns-clause-sound c = rw (c.in_ok-new.ensures, c.in_ok-sessions_of.ensures, c.as_slice-accounts.ensures, c.in_ok-consoles_of.ensures, c.new-2.ensures, c.new-3.ensures.items, c.new-4.ensures.items) (sound_made c.args.script.now c.requires.users)
