use Rattle.std.proofs.Common.{◌≡◌, ◌≤◌, ◌∙◌, List, sym, ap, subst}
use Rattle.std.specs.Prelude.{OnOk}
use Rattle.std.specs.declared.result.Result.{Result}
use Rattle.ctss_types.specs.declared.fault.StepFault.{StepFault}
use Rattle.image_map.specs.Image.{state}
use Rattle.plan_model.specs.Loads.{Places, no_places}
use Rattle.track_directories.specs.Tables.{shown}
use Rattle.user_cores.specs.Backing.{back_of}
use Rattle.time_sharing.specs.System.{Timed}
use Rattle.system_model.specs.Run.{with_all_events}
use Rattle.supervisor.specs.Seen.{Bare, run_with}
use Rattle.supervisor.specs.Whole.{whole_of, Agrees}
use Rattle.live_run.specs.Media.{media_seen}
use Rattle.live_run.specs.Starts.{Begins}
use Rattle.live_serve.proofs.Outcomes.{ok_of}
use Rattle.ctss_modes.specs.Played.{Ran}
use Rattle.ctss_modes.proofs.Runs.{start_is, agrees_at_start, no_entry}
use Rattle.ctss_modes.proofs.record.run_script.Goals as goal

pub advance-ended-requires-clause-agrees : goal.advance-ended-requires-clause-agrees
advance-ended-requires-clause-agrees g c =
    let script = c.args.script.now in
    let run = c.begin-run.result.run in
    let behind = c.into_parts-supervisor.result.1 in
    let back = back_of (state behind.cores) (shown g.F.Medium behind.files) in
    let was = media_seen g.D.Medium g.F.Medium c.args.drum.now c.args.disk.now in
    let s = whole_of run.supervisor (back_of (state run.cores.cores) (shown g.F.Medium run.cores.files)) in
    let begins : Begins script was.tells s = subst (λ (w : Result Unit StepFault). OnOk w (Begins script was.tells s)) c.in-Ok.is c.begin-run.ensures.begun.begins in
    agrees_at_start c.as_slice.result.now c.into_parts-supervisor.result.0 c.give_all.new.supervisor back
    (ok_of c.give_all.result _ (sym c.is_err.ensures.value ∙ c.if-is_err.false) (c.give_all.ensures.given no_places))
    (subst (λ (b : Bare). Agrees (whole_of b back)) (sym c.into_parts-supervisor.ensures.supervisor)
    (subst (λ x. Agrees (whole_of run.supervisor (back_of (state x.cores) (shown g.F.Medium x.files)))) (sym c.into_parts-supervisor.ensures.cores) begins.ready.agrees))

pub returns-clause-ran : goal.returns-clause-ran
returns-clause-ran g c =
    let script = c.args.script.now in
    let run = c.begin-run.result.run in
    let behind = c.into_parts-supervisor.result.1 in
    let back = back_of (state behind.cores) (shown g.F.Medium behind.files) in
    let was = media_seen g.D.Medium g.F.Medium c.args.drum.now c.args.disk.now in
    let begun = c.begin-run.ensures.begun in
    let s = whole_of run.supervisor (back_of (state run.cores.cores) (shown g.F.Medium run.cores.files)) in
    let first : Begins script was.tells s = subst (λ (w : Result Unit StepFault). OnOk w (Begins script was.tells s)) c.in-Ok.is begun.begins in
    let begins : Begins script was.tells (whole_of c.into_parts-supervisor.result.0 back) =
    subst (λ (b : Bare). Begins script was.tells (whole_of b back)) (sym c.into_parts-supervisor.ensures.supervisor)
    (subst (λ x. Begins script was.tells (whole_of run.supervisor (back_of (state x.cores) (shown g.F.Medium x.files)))) (sym c.into_parts-supervisor.ensures.cores) first) in
    let given : (places : Places) → run_with places c.give_all.new.supervisor ≡ with_all_events c.as_slice.result.now (run_with places c.into_parts-supervisor.result.0) =
    λ places. ok_of c.give_all.result _ (sym c.is_err.ensures.value ∙ c.if-is_err.false) (c.give_all.ensures.given places) in
    Ran
    (record {
      start = whole_of c.give_all.new.supervisor back;
      begun = λ told.
          start_is script c.into_parts-supervisor.result.0 c.give_all.new.supervisor back
          (λ places. given places ∙ ap (λ (es : List Timed). with_all_events es (run_with places c.into_parts-supervisor.result.0)) c.as_slice.ensures) (begins.run told);
      entries = no_entry c.as_slice.result.now c.into_parts-supervisor.result.0 c.give_all.new.supervisor (given no_places) begins.entries;
      texts = c.give_all.ensures.texts ∙ begins.texts;
      unended = c.give_all.ensures.ended ∙ begins.begun;
      tells = begins.tells;
      calls = ap (λ x. (state x.cores).drum.calls) c.into_parts-supervisor.ensures.cores ∙ begun.calls;
      drum = ap (λ x. (state x.cores).drum.faults) c.into_parts-supervisor.ensures.cores ∙ begun.drum;
      disk = subst (λ x. was.disk_faults ≤ (shown g.F.Medium x.files).faults) (sym c.into_parts-supervisor.ensures.cores) begun.disk;
      ran = c.advance-ended.ensures.advances;
    })
