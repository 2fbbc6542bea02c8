use Rattle.std.proofs.Common.{◌≡◌, refl, subst, arith}
use Rattle.std.proofs.lemmas.Bool.Decides.{nat_tests}
use Rattle.ctss_io.specs.Outside.{after}
use Rattle.ctss_io.specs.Whole.{GrewByProperPrefix}
use Rattle.ctss_types.specs.declared.history.Record.{Record}
use Rattle.script_show.proofs.Shows.{never_failed, drum_stands, disk_stands}
use Rattle.script_show.proofs.media.run_script.Goals as goal

pub returns : goal.returns
returns g c =
    let did = c.perform.ensures in
    let text = g.T.RunText.bytes c.args.text.now c.args.script.now in
    record {
      status =
          never_failed c.perform.result.status did.status
          (λ h. drum_stands c.args.script.now _ _ c.perform.result.run refl refl (did.stopped h))
          (λ h. disk_stands c.args.script.now _ _ c.perform.result.run refl refl (did.lost h));
      run = λ h. (did.done h).record_is refl;
      numbers = did.numbers;
      text = λ h.
          subst (λ (rec : Record). g.K.Sink.held c.perform.new.sink ≡ after (g.K.Sink.held c.args.sink.now) (text rec))
          ((did.done (grind (arith, h, nat_tests))).record_is refl) (did.text h);
      part = λ h.
          subst (λ (rec : Record). GrewByProperPrefix (g.K.Sink.held c.args.sink.now) (text rec) (g.K.Sink.held c.perform.new.sink))
          ((did.done (grind (arith, h, nat_tests))).record_is refl) (did.part h);
      cause = did.cause;
      memory = did.memory;
      silent = λ h. did.silent (grind (arith, h, nat_tests));
    }
