use Rattle.std.proofs.Common.{◌∙◌, List, sym, ap, subst}
use Rattle.std.specs.Prelude.{OnOk}
use Rattle.std.specs.declared.result.Result.{Result}
use Rattle.ctss_types.specs.declared.fault.StepFault.{StepFault}
use Rattle.image_map.specs.Image.{state}
use Rattle.plan_model.specs.Loads.{no_places}
use Rattle.track_directories.specs.Tables.{shown}
use Rattle.user_cores.specs.Backing.{back_of}
use Rattle.time_sharing.specs.System.{Timed}
use Rattle.system_model.specs.Run.{with_all_events}
use Rattle.supervisor.specs.Seen.{Bare, run_with}
use Rattle.supervisor.specs.Whole.{whole_of}
use Rattle.live_run.specs.Media.{media_seen}
use Rattle.live_run.specs.Starts.{Begins}
use Rattle.ctss_modes.proofs.Runs.{start_is, agrees_at_start}
use Rattle.run_picture.proofs.core_maps.maps.maps_over.Goals as goal

pub watch-requires-clause-start : goal.watch-requires-clause-start
watch-requires-clause-start g c =
    let script = c.args.script.now in
    let run = c.begin-run.result.run in
    let behind = c.into_parts-supervisor.result.1 in
    let back = back_of (state behind.cores) (shown g.F.Medium behind.files) in
    let was = media_seen g.D.Medium g.F.Medium c.args.drum.now c.args.disk.now in
    let s = whole_of run.supervisor (back_of (state run.cores.cores) (shown g.F.Medium run.cores.files)) in
    let first : Begins script was.tells s = subst (λ (w : Result Unit StepFault). OnOk w (Begins script was.tells s)) c.in-Ok.is c.begin-run.ensures.begun.begins in
    let begins : Begins script was.tells (whole_of c.into_parts-supervisor.result.0 back) =
    subst (λ (b : Bare). Begins script was.tells (whole_of b back)) (sym c.into_parts-supervisor.ensures.supervisor)
    (subst (λ x. Begins script was.tells (whole_of run.supervisor (back_of (state x.cores) (shown g.F.Medium x.files)))) (sym c.into_parts-supervisor.ensures.cores) first) in
    start_is script c.into_parts-supervisor.result.0 c.give_all.new.supervisor back
    (λ places. c.in_ok-give_all.ensures.given places ∙ ap (λ (es : List Timed). with_all_events es (run_with places c.into_parts-supervisor.result.0)) c.as_slice.ensures)
    (begins.run c.requires.tells)

pub watch-requires-clause-agrees : goal.watch-requires-clause-agrees
watch-requires-clause-agrees g c =
    let script = c.args.script.now in
    let run = c.begin-run.result.run in
    let behind = c.into_parts-supervisor.result.1 in
    let back = back_of (state behind.cores) (shown g.F.Medium behind.files) in
    let was = media_seen g.D.Medium g.F.Medium c.args.drum.now c.args.disk.now in
    let s = whole_of run.supervisor (back_of (state run.cores.cores) (shown g.F.Medium run.cores.files)) in
    let first : Begins script was.tells s = subst (λ (w : Result Unit StepFault). OnOk w (Begins script was.tells s)) c.in-Ok.is c.begin-run.ensures.begun.begins in
    let begins : Begins script was.tells (whole_of c.into_parts-supervisor.result.0 back) =
    subst (λ (b : Bare). Begins script was.tells (whole_of b back)) (sym c.into_parts-supervisor.ensures.supervisor)
    (subst (λ x. Begins script was.tells (whole_of run.supervisor (back_of (state x.cores) (shown g.F.Medium x.files)))) (sym c.into_parts-supervisor.ensures.cores) first) in
    agrees_at_start c.as_slice.result.now c.into_parts-supervisor.result.0 c.give_all.new.supervisor back
    (c.in_ok-give_all.ensures.given no_places) begins.ready.agrees

pub watch-requires-clause-tells : goal.watch-requires-clause-tells
watch-requires-clause-tells g c =
    let script = c.args.script.now in
    let run = c.begin-run.result.run in
    let behind = c.into_parts-supervisor.result.1 in
    let back = back_of (state behind.cores) (shown g.F.Medium behind.files) in
    let was = media_seen g.D.Medium g.F.Medium c.args.drum.now c.args.disk.now in
    let s = whole_of run.supervisor (back_of (state run.cores.cores) (shown g.F.Medium run.cores.files)) in
    let first : Begins script was.tells s = subst (λ (w : Result Unit StepFault). OnOk w (Begins script was.tells s)) c.in-Ok.is c.begin-run.ensures.begun.begins in
    let begins : Begins script was.tells (whole_of c.into_parts-supervisor.result.0 back) =
    subst (λ (b : Bare). Begins script was.tells (whole_of b back)) (sym c.into_parts-supervisor.ensures.supervisor)
    (subst (λ x. Begins script was.tells (whole_of run.supervisor (back_of (state x.cores) (shown g.F.Medium x.files)))) (sym c.into_parts-supervisor.ensures.cores) first) in
    begins.tells ∙ c.requires.tells
