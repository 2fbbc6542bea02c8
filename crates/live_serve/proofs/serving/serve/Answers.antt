use Rattle.std.proofs.Common.{◌≡◌, ◌∙◌, ℕ, false, List, Option, ap, sym, subst, rules}
use Rattle.faults.specs.Faults.{WhereTold}
use Rattle.file_tracks.specs.Lying.{LieOn}
use Rattle.image_map.specs.State.{DrumState}
use Rattle.image_map.specs.Image.{state}
use Rattle.track_directories.specs.Tables.{disk_of}
use Rattle.live_run.specs.Media.{MediaSeen, media_seen}
use Rattle.live_serve.specs.Hosts.{IsBehind, Hosts}
use Rattle.live_serve.proofs.Outcomes.{spent_nothing, served_of, spent_of, on_err, on_ok_map}
use Rattle.live_serve.proofs.serving.serve.Goals as goal

pub returns-in_err-new-clause-spent : goal.returns-in_err-new-clause-spent
returns-in_err-new-clause-spent g c = on_err c.from_residual.result _ (spent_nothing c.args.base.now c.args.listening.port c.args.listening.turns _ _)

pub returns-in_err-tables-clause-spent : goal.returns-in_err-tables-clause-spent
returns-in_err-tables-clause-spent g c = on_err c.from_residual-in_err-tables.result _ (spent_nothing c.args.base.now c.args.listening.port c.args.listening.turns _ _)

pub host-behind-requires-clause-open : goal.host-behind-requires-clause-open
host-behind-requires-clause-open g c = on_ok_map c.begin-run.result.wrote _ (c.begin-run.result.run.supervisor.ended ≡ false) (λ b. b.begun) c.begin-run.ensures.begun.begins

pub returns-clause-served : goal.returns-clause-served
returns-clause-served g c =
    let last = c.host-behind.result.behind in
    let ends = c.into_parts-cores.ensures in
    let kept = c.host-behind.ensures.keeps in
    let drum = ap (λ (d : DrumState). d.name) c.back.ensures.seen ∙ ap (λ i. (state i).drum.name) ends.cores ∙ kept.0 ∙ c.begin-run.ensures.drum in
    let disk = c.back-2.ensures.same ∙ ap (λ d. (disk_of d).ghost_name) ends.files ∙ kept.1 ∙ c.begin-run.ensures.disk in
    served_of c.args.base.now c.args.listening.port c.args.listening.turns _ _ _ _ c.host-behind.result.served
    (c.host-behind.ensures.hosts c.args.base.now (media_seen g.D.Medium g.F.Medium c.args.drum.now c.args.disk.now) _ c.begin-run.ensures.begun
    (record {
      calls = sym (ap (λ i. (state i).drum.calls) ends.cores) ∙ search (rules, drum);
      faults = sym (ap (λ i. (state i).drum.faults) ends.cores) ∙ search (rules, drum);
      disk = sym (ap (λ d. g.F.Medium.faults (disk_of d).now) ends.files) ∙ search (rules, disk);
      lie = λ files common h. subst (λ (o : Option (List (List ℕ))). WhereTold o (λ contents. LieOn contents files common)) (sym (ap (λ d. g.F.Medium.contents (disk_of d).now) ends.files) ∙ search (rules, disk)) h;
    }))

pub returns-clause-spent : goal.returns-clause-spent
returns-clause-spent g c =
    let last = c.host-behind.result.behind in
    let ends = c.into_parts-cores.ensures in
    let kept = c.host-behind.ensures.keeps in
    let drum = ap (λ (d : DrumState). d.name) c.back.ensures.seen ∙ ap (λ i. (state i).drum.name) ends.cores ∙ kept.0 ∙ c.begin-run.ensures.drum in
    let disk = c.back-2.ensures.same ∙ ap (λ d. (disk_of d).ghost_name) ends.files ∙ kept.1 ∙ c.begin-run.ensures.disk in
    spent_of c.args.base.now c.args.listening.port c.args.listening.turns _ _ _ _ c.host-behind.result.served
    (c.host-behind.ensures.hosts c.args.base.now (media_seen g.D.Medium g.F.Medium c.args.drum.now c.args.disk.now) _ c.begin-run.ensures.begun
    (record {
      calls = sym (ap (λ i. (state i).drum.calls) ends.cores) ∙ search (rules, drum);
      faults = sym (ap (λ i. (state i).drum.faults) ends.cores) ∙ search (rules, drum);
      disk = sym (ap (λ d. g.F.Medium.faults (disk_of d).now) ends.files) ∙ search (rules, disk);
      lie = λ files common h. subst (λ (o : Option (List (List ℕ))). WhereTold o (λ contents. LieOn contents files common)) (sym (ap (λ d. g.F.Medium.contents (disk_of d).now) ends.files) ∙ search (rules, disk)) h;
    }))
