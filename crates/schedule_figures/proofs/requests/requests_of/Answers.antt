use Rattle.std.proofs.Common.{◌++◌, ◌+◌, List, [], drop, refl, ap, subst, ◌∙◌, arith}
use Rattle.picture_model.specs.declared.request.Track.{Track}
use Rattle.picture_model.specs.declared.request.Visit.{Visit}
use Rattle.picture_model.specs.Requests.{visit_of, visits, visits_from}
use Rattle.schedule_figures.specs.Requests.{AreRequests}
use Rattle.schedule_figures.proofs.Visits.{visit_more, visits_done}
use Rattle.schedule_figures.proofs.requests.requests_of.Goals as goal

pub loop-entry-init : goal.loop-entry-init
loop-entry-init c = (
  [],
  record { waited = refl; responses = c.new.ensures.tally; turnarounds = c.new-2.ensures.tally },
  record { waited = omega arith; responses = c.new.ensures.few; turnarounds = c.new-2.ensures.few },
  refl,
)

pub loop-entry-preserved : goal.loop-entry-preserved
loop-entry-preserved c = (
  c.loop-entry.invariant.0 ++ visit_of c.args.user c.loop-entry.track c.entry-item.result,
  c.with_entry-requests.ensures.requests c.loop-entry.invariant.0 c.loop-entry.invariant.1,
  c.with_entry-requests.ensures.few c.loop-entry.entry-index c.loop-entry.invariant.2,
  ap
      (λ (t : Track). (c.loop-entry.invariant.0 ++ visit_of c.args.user c.loop-entry.track c.entry-item.result)
      ++ visits_from c.args.user t (drop (c.loop-entry.entry-index + 1) c.args.entries.now))
      c.after-track.ensures
      ∙ visit_more c.args.user c.args.entries.now c.loop-entry.entry-index c.entry-item.result c.loop-entry.track c.loop-entry.invariant.0
      (visits c.args.user c.args.entries.now) c.loop-entry-test.true c.entry-item.is c.loop-entry.invariant.3,
)

pub returns-clause-requests : goal.returns-clause-requests
returns-clause-requests c =
    subst (λ (vs : List Visit). AreRequests c.loop-entry.requests vs)
    (visits_done c.args.user c.args.entries.now c.loop-entry.entry-index c.loop-entry.track c.loop-entry.invariant.0
    (visits c.args.user c.args.entries.now) c.loop-entry-test.false c.loop-entry.invariant.3)
    c.loop-entry.invariant.1
