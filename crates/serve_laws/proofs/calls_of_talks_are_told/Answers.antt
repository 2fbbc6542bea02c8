use Rattle.serve_laws.proofs.calls_of_talks_are_told.Goals as goal
use Rattle.serve_laws.proofs.Told.{calls_of_talks_are_told, calls_of_cut_talks_are_told}

pub returns-clause-done : goal.returns-clause-done
returns-clause-done c = calls_of_talks_are_told

pub returns-clause-cut : goal.returns-clause-cut
returns-clause-cut c = calls_of_cut_talks_are_told
