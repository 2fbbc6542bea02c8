use Rattle.std.proofs.Common.{◌∙◌, refl, arith}
use Rattle.console_server.specs.Server.{state}
use Rattle.console_server.proofs.HistoryLaws.{turns_none, turns_more, turns_cut, desk_is}
use Rattle.console_server.proofs.server.Server.turns.Goals as goal

pub turns-init : goal.turns-init
turns-init g c = record {
  done = λ desk is. turns_none g.C.LiveCore.Goes g.met.C.LiveCore.goes_nowhere g.met.C.LiveCore.goes_on g.C.LiveCore.seen g.L.Link.seen desk _ is;
  tables = record { tables = c.requires.server.tables; same = refl };
  ready = c.requires.server.ready;
  listener = omega arith;
  drum = omega arith;
  disk = omega arith;
}

pub turns-preserved : goal.turns-preserved
turns-preserved g c = record {
  done = λ desk is.
      let done = c.turns.invariant.done desk is in
      turns_more g.C.LiveCore.Goes g.met.C.LiveCore.goes_nowhere g.met.C.LiveCore.goes_on g.C.LiveCore.seen g.L.Link.seen c.turns.number desk _ _ _ done
      (c.in_ok-turn.ensures.done _ (desk_is g.C.LiveCore.Goes g.met.C.LiveCore.goes_nowhere g.met.C.LiveCore.goes_on g.C.LiveCore.seen g.L.Link.seen c.turns.number desk _ _ done));
  tables = record {
    tables = c.in_ok-turn.ensures.tables.tables;
    same = c.in_ok-turn.ensures.tables.same ∙ c.turns.invariant.tables.same;
  };
  ready = c.in_ok-turn.ensures.went.ready;
  listener = omega (arith, c.turns.invariant.listener, c.in_ok-turn.ensures.cause.listener);
  drum = omega (arith, c.turns.invariant.drum, c.in_ok-turn.ensures.went.went.drum);
  disk = omega (arith, c.turns.invariant.disk, c.in_ok-turn.ensures.went.went.disk);
}

pub returns-in_err-turn-clause-cut : goal.returns-in_err-turn-clause-cut
returns-in_err-turn-clause-cut g c desk is =
    let done = c.turns.invariant.done desk is in
    let here = desk_is g.C.LiveCore.Goes g.met.C.LiveCore.goes_nowhere g.met.C.LiveCore.goes_on g.C.LiveCore.seen g.L.Link.seen c.turns.number desk _ _ done in
    let cut = turns_cut g.C.LiveCore.Goes g.met.C.LiveCore.goes_nowhere g.met.C.LiveCore.goes_on g.C.LiveCore.seen g.L.Link.seen c.turns.number c.args.count desk c.in_err-turn.field-0.0 (state c.args.self.now) (state c.turns.self) (state c.turn.new.self) c.turns-test.true done (c.in_err-turn.ensures.cut _ here) in
    grind (arith, cut, c.from_residual.ensures)
