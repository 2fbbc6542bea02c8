use Rattle.std.proofs.Common.{◌∙◌, ◌<◌, None, arith, length, length-set, refl}
use Rattle.console_server.specs.Readings.{Nothing}
use Rattle.console_server.proofs.DeskLaws.{seated_next, any_default}
use Rattle.console_server.proofs.CutLaws.{close_next, rest_next, seat_same}
use Rattle.console_server.proofs.closing.close_all.Goals as goal

pub consoles-init : goal.consoles-init
consoles-init g c = record { within = omega arith; many = refl; seated = c.requires.seated; rest = refl; closed = Nothing _ }

pub consoles-preserved : goal.consoles-preserved
consoles-preserved g c =
    let all = c.args.seats.now.items in
    let lt : c.consoles.i < length c.consoles.seats.items = omega (arith, c.consoles-test.true, c.len-i-end.ensures, c.consoles.invariant.many) in
    let within : c.consoles.i < length c.args.seats.now.items = omega (arith, lt, c.consoles.invariant.many) in
    let seat = c.index_mut.ensures.value ∙ any_default c.consoles.seats.items c.consoles.i c.index_mut.result.now None lt in
    record {
      within = omega (arith, lt, c.consoles.invariant.many);
      many = length-set c.consoles.seats.items c.consoles.i c.close.new.seat ∙ c.consoles.invariant.many;
      seated = seated_next _ _ c.consoles.seats.items c.consoles.i c.index_mut.result.now c.close.new.seat lt seat c.consoles.invariant.seated c.close.ensures.left c.close.ensures.others c.close.ensures.keeps;
      rest = rest_next c.consoles.seats.items all c.consoles.i c.close.new.seat lt c.consoles.invariant.rest c.consoles.invariant.many;
      closed = close_next all c.consoles.i c.index_mut.result.now _ _ _ within (seat ∙ seat_same c.consoles.seats.items all c.consoles.i lt c.consoles.invariant.rest) c.consoles.invariant.closed c.close.ensures.link;
    }
