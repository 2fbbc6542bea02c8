use Rattle.std.proofs.Common.{◌<◌, length, arith, sym, ◌∙◌}
use Rattle.plan_model.specs.Loads.{no_places}
use Rattle.system_model.proofs.SoundLaws.{seat_user}
use Rattle.supervisor.specs.Seen.{run_seen}
use Rattle.supervisor.proofs.state.State.take_event.Goals as goal

pub at_session-requires-clause-within : goal.at_session-requires-clause-within
at_session-requires-clause-within c =
    let within : c.index-seat.result < length c.args.self.now.consoles.items = omega (arith, c.index-seat.ensures.value, c.requires.seat.some, c.requires.seat.within) in
    (seat_user (run_seen no_places c.args.self.now) c.index-seat.result _ _ c.requires.sound within (sym c.in-Session.is ∙ c.index.ensures)).within
