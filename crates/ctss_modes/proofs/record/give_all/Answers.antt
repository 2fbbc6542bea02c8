use Rattle.std.proofs.Common.{List, take_all, sym, ap, subst, ◌∙◌}
use Rattle.plan_model.specs.Loads.{no_places}
use Rattle.time_sharing.specs.System.{Timed}
use Rattle.system_model.specs.Run.{Run, with_one_event, with_all_events}
use Rattle.system_model.specs.Sound.{HasSeat}
use Rattle.supervisor.specs.Seen.{run_with}
use Rattle.ctss_modes.proofs.Runs.{seated, one_more, one_entry}
use Rattle.ctss_modes.proofs.record.give_all.Goals as goal

pub take-requires : goal.take-requires
take-requires c =
    let old : Run = run_with no_places c.args.supervisor.now in
    record {
      seat =
          subst (λ (r : Run). HasSeat c.event-item.result r) (sym (c.loop-event.invariant.run no_places))
          (seated _ c.event-item.result old (subst (λ (e : Timed). HasSeat e old) (sym c.event-item.is) (c.requires.seats c.loop-event.event-index c.event-item.result c.loop-event-test.true)));
    }

pub loop-event-preserved : goal.loop-event-preserved
loop-event-preserved c =
    record {
      run = λ places.
          c.in_ok-take.ensures.ok places
          ∙ ap (with_one_event c.event-item.result) (c.loop-event.invariant.run places)
          ∙ one_more _ c.loop-event.event-index c.event-item.result (run_with places c.args.supervisor.now) c.loop-event-test.true c.event-item.is;
      texts = c.in_ok-take.ensures.texts ∙ c.loop-event.invariant.texts;
      ended = c.in_ok-take.ensures.same ∙ c.loop-event.invariant.ended;
      entries = one_entry c.event-item.result c.loop-event.supervisor c.take.new.self (c.in_ok-take.ensures.ok no_places) ∙ c.loop-event.invariant.entries;
    }

pub returns-clause-given : goal.returns-clause-given
returns-clause-given c = λ places.
    c.loop-event.invariant.run places
    ∙ ap (λ (es : List Timed). with_all_events es (run_with places c.args.supervisor.now)) (take_all c.loop-event.event-index _ c.loop-event-test.false)
