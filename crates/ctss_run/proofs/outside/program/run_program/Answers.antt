use Rattle.std.proofs.Common.{◌≡◌, ℕ, List, ap, subst}
use Rattle.medium.specs.Rows.{PagesState}
use Rattle.ctss_modes.specs.Answer.{Answers}
use Rattle.ctss_modes.specs.Devices.{output_seen}
use Rattle.ctss_run.specs.Program.{handed, with_media}
use Rattle.ctss_run.proofs.Answered.{no_memory, is_answered}
use Rattle.ctss_run.proofs.outside.program.run_program.Goals as goal

pub returns-in_default : goal.returns-in_default
returns-in_default g c = no_memory c.args.words.now (handed g.S.Source g.K.Sink g.E.Sink c.args.input.now c.args.output.now c.args.errors.now (g.L.Link.seen c.args.link.now)) (output_seen g.E.Sink c.explain.new.sink) c.explain.ensures

pub returns-in_default-new : goal.returns-in_default-new
returns-in_default-new g c = no_memory c.args.words.now (handed g.S.Source g.K.Sink g.E.Sink c.args.input.now c.args.output.now c.args.errors.now (g.L.Link.seen c.args.link.now)) (output_seen g.E.Sink c.explain-in_default-new.new.sink) c.explain-in_default-new.ensures

pub returns : goal.returns
returns g c =
    let e = c.run_ctss-outcome.ensures in
    let old = handed g.S.Source g.K.Sink g.E.Sink c.args.input.now c.args.output.now c.args.errors.now (g.L.Link.seen c.args.link.now) in
    let new = handed g.S.Source g.K.Sink g.E.Sink c.run_ctss-outcome.new.input c.run_ctss-outcome.new.output c.explain-2.new.sink (g.L.Link.seen c.run_ctss-outcome.new.link) in
    is_answered c.args.words.now old new c.run_ctss-outcome.new.disk.contents c.run_ctss-outcome.result
    (subst (λ (contents : List (List ℕ)). Answers c.args.words.now (with_media old contents) (with_media new c.run_ctss-outcome.new.disk.contents) c.run_ctss-outcome.result)
    (ap (λ (d : PagesState). d.contents) c.in-Ok-new.ensures)
    (record {
      headline = e.headline;
      deck = e.deck;
      refusals = e.refusals;
      causes = e.causes;
      cut_off = e.cut_off;
      stopped = e.stopped;
      lost = e.lost;
      silent = e.silent;
      spent = e.spent;
      apart = e.apart;
      allowed = e.allowed;
      complete = e.complete;
    }))
    c.explain-2.ensures
