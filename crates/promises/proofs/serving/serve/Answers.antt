use Rattle.std.proofs.Common.{refl}
use Rattle.text_model.specs.declared.mode.Mode.TheVariants.{Serve}
use Rattle.promises.proofs.Consoles.{serve_done}
use Rattle.promises.proofs.serving.serve.Goals as goal

pub returns : goal.returns
returns c = λ zero.
    let run = c.run_ctss-outcome in
    serve_done c.events_are_visits.ensures c.args.base.now c.args.room c.args.port c.args.turns _ _ _ c.in_ok-input.input c.in_ok-output.output c.in_ok-input.ensures c.in_ok-output.ensures
    c.requires.ready (run.ensures.headline (Serve c.args.port c.args.turns) c.requires.asked refl zero)
