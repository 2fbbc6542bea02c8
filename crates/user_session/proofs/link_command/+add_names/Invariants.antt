use Rattle.std.specs.Prelude.{length}
use Rattle.ctss_types.specs.Words.{words_of}
use Rattle.user_session.proofs.link_command.+add_names.Given as goal

abbrev pub decreases-add_names : goal.decreases-add_names
decreases-add_names l = length (words_of l.text.now)
