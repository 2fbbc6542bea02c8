use Rattle.std.proofs.Common.{◌≡◌, ◌++◌, List, drop}
use Rattle.picture_model.specs.declared.request.Visit.{Visit}
use Rattle.picture_model.specs.Requests.{visits, visits_from}
use Rattle.schedule_figures.specs.Requests.{AreRequests, AreFewRequests}
use Rattle.schedule_figures.proofs.requests.requests_of.Given as goal

-- the visits so far were taken, and with those that are left they are all
abbrev pub invariant-loop-entry : goal.invariant-loop-entry
invariant-loop-entry l =
    (done : List Visit) × AreRequests l.requests done × AreFewRequests l.entry-index l.requests
    × (done ++ visits_from l.user l.track (drop l.entry-index l.entries) ≡ visits l.user l.entries)
