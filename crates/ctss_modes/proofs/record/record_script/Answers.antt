use Rattle.std.proofs.Common.{◌∙◌, Option, List, ℕ, sym, ap, subst, rules}
use Rattle.faults.specs.Faults.{WhereTold}
use Rattle.file_tracks.specs.Lying.{LieOn}
use Rattle.image_map.specs.State.{DrumState}
use Rattle.image_map.specs.Image.{state}
use Rattle.track_directories.specs.Tables.{disk_of, shown}
use Rattle.user_cores.specs.Backing.{back_of}
use Rattle.supervisor.specs.Whole.{whole_of}
use Rattle.live_run.specs.Finishes.{IfDone}
use Rattle.live_run.specs.Media.{media_seen}
use Rattle.live_serve.proofs.Outcomes.{on_err}
use Rattle.ctss_modes.proofs.Playing.{played, spent, spent_nothing, both_ok, lasts_ok, agrees_at_end, open_at_end}
use Rattle.ctss_modes.proofs.record.record_script.Goals as goal

pub returns-in_err-new-clause-spent : goal.returns-in_err-new-clause-spent
returns-in_err-new-clause-spent g c = on_err c.from_residual.result _ (spent_nothing c.args.script.now _)

pub finish-played-requires-clause-open : goal.finish-played-requires-clause-open
finish-played-requires-clause-open g c = open_at_end c.args.script.now _ _ c.run_script-supervisor.result.ended c.run_script-supervisor.ensures.ran

pub finish-played-requires-clause-usable : goal.finish-played-requires-clause-usable
finish-played-requires-clause-usable g c = lasts_ok c.run_script-supervisor.result.ended _ c.run_script-supervisor.ensures.usable

pub finish-played-requires-clause-agrees : goal.finish-played-requires-clause-agrees
finish-played-requires-clause-agrees g c = agrees_at_end c.args.script.now _ _ c.run_script-supervisor.result.ended c.run_script-supervisor.ensures.ran

pub returns-clause-played : goal.returns-clause-played
returns-clause-played g c =
    let run = c.run_script-supervisor.result in
    let was = media_seen g.D.Medium g.F.Medium c.args.drum.now c.args.disk.now in
    let s = whole_of run.supervisor (back_of (state run.behind.cores) (shown g.F.Medium run.behind.files)) in
    let last = c.finish-played.new.cores in
    let did = c.finish-played.ensures in
    let ends = c.into_parts-cores.ensures in
    let drum = ap (λ (d : DrumState). d.name) c.back.ensures.seen ∙ ap (λ i. (state i).drum.name) ends.cores ∙ did.keeps.0 ∙ c.run_script-supervisor.ensures.drum in
    let disk = c.back-2.ensures.same ∙ ap (λ d. (disk_of d).ghost_name) ends.files ∙ did.keeps.1 ∙ c.run_script-supervisor.ensures.disk in
    both_ok c.finish-played.result _ _ _
    (λ p f lie.
    played c.args.script.now was s _ run.ended c.run_script-supervisor.ensures.ran (back_of (state last.cores) (shown g.F.Medium last.files)) did.calls did.faults
    (sym (ap (λ i. (state i).drum.calls) ends.cores) ∙ search (rules, drum))
    (sym (ap (λ i. (state i).drum.faults) ends.cores) ∙ search (rules, drum))
    (sym (ap (λ d. g.F.Medium.faults (disk_of d).now) ends.files) ∙ search (rules, disk))
    p f
    (subst (λ (o : Option (List (List ℕ))). IfDone p (λ rec. WhereTold o (λ contents. LieOn contents rec.files rec.common))) (sym (ap (λ d. g.F.Medium.contents (disk_of d).now) ends.files) ∙ search (rules, disk)) lie))
    did.finishes did.lies

pub returns-clause-spent : goal.returns-clause-spent
returns-clause-spent g c =
    let run = c.run_script-supervisor.result in
    let was = media_seen g.D.Medium g.F.Medium c.args.drum.now c.args.disk.now in
    let s = whole_of run.supervisor (back_of (state run.behind.cores) (shown g.F.Medium run.behind.files)) in
    let last = c.finish-played.new.cores in
    let did = c.finish-played.ensures in
    let ends = c.into_parts-cores.ensures in
    let drum = ap (λ (d : DrumState). d.name) c.back.ensures.seen ∙ ap (λ i. (state i).drum.name) ends.cores ∙ did.keeps.0 ∙ c.run_script-supervisor.ensures.drum in
    on_err c.finish-played.result _
    (spent c.args.script.now was s _ run.ended c.run_script-supervisor.ensures.ran
    (sym did.calls ∙ (sym (ap (λ i. (state i).drum.calls) ends.cores) ∙ search (rules, drum)))
    (sym did.faults ∙ (sym (ap (λ i. (state i).drum.faults) ends.cores) ∙ search (rules, drum))))
