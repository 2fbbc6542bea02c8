use Rattle.std.proofs.Common.{◌≤◌, ◌^◌, arith}
use Rattle.schedule_figures.proofs.requests.with_visit.Goals as goal

pub returns-clause-few : goal.returns-clause-few
returns-clause-few c n few = record {
  waited = let less : c.saturating_sub.result ≤ 2 ^ 64 = omega arith in omega (arith, few.waited, less);
  responses = c.with_response.ensures.few n few.responses;
  turnarounds = c.with_turnaround.ensures.few n few.turnarounds;
}
