use Rattle.std.proofs.Common.{◌≡◌, ◌≤◌, ◌∙◌, ◌∷◌, ℕ, Bool, ◌&&◌, List, length, map, is_some, sym, ap, subst, arith}
use Rattle.std.specs.Prelude.{IsErrOf}
use Rattle.std.proofs.lemmas.List.{length-map}
use Rattle.faults.specs.Faults.{Rose}
use Rattle.ctss_types.specs.declared.fault.StepFault.TheVariants.{Disk}
use Rattle.ctss_types.specs.declared.script.Account.{Account}
use Rattle.drum_slots.specs.Keys.{quota_of}
use Rattle.image_map.specs.Image.{state}
use Rattle.image_map.specs.State.{DrumState}
use Rattle.plan_model.specs.Loads.{no_places}
use Rattle.supervisor.specs.Seen.{Bare, run_with}
use Rattle.supervisor.specs.Whole.{whole_of}
use Rattle.user_cores.specs.Backing.{back_of}
use Rattle.track_directories.specs.Tables.{shown}
use Rattle.user_cores.specs.Usable.{HasNoBlocks}
use Rattle.live_run.specs.Starts.{HasFirstFiles, Begins}
use Rattle.live_run.proofs.Starts.{quota_most, shown_at_first, begins_at_first, no_entries, on_ok_map}
use Rattle.live_run.proofs.start.begin.Goals as goal

pub first_cores-cores-requires-clause-slots : goal.first_cores-cores-requires-clause-slots
first_cores-cores-requires-clause-slots g c =
    let quotas = c.requires.new.quotas in
    record {
      none = c.requires.new.none;
      few = subst (λ (ns : List ℕ). length ns ≤ 31) (sym quotas) (let l = length-map c.args.script.now.accounts (λ (a : Account). a.blocks) in omega (arith, l, c.requires.lawful.range.few));
      limit = λ u. subst (λ (ns : List ℕ). quota_of ns u ≤ 128) (sym quotas) (quota_most c.args.script.now.accounts c.requires.lawful.range.blocks u);
    }

pub returns-clause-begun : goal.returns-clause-begun
returns-clause-begun g c =
    let script = c.args.script.now in
    let drum : Bool = is_some (g.D.Medium.contents c.args.drum.now) in
    let disk : Bool = is_some (g.F.Medium.contents c.args.disk.now) in
    let made = c.requires.new in
    let wrote = c.directories_of-files.result.wrote in
    let bare = c.new-run.result.supervisor in
    let cores_are : c.new-run.result.cores.cores ≡ c.first_cores-cores.result = ap (λ b. b.cores) c.new-run.ensures.cores ∙ c.new.ensures.cores in
    let files_are : c.new-run.result.cores.files ≡ c.directories_of-files.result.files = ap (λ b. b.files) c.new-run.ensures.cores ∙ c.new.ensures.files in
    let cores = state c.new-run.result.cores.cores in
    let dirs = shown g.F.Medium c.new-run.result.cores.files in
    let is : run_with no_places bare ≡ _ = ap (run_with no_places) c.new-run.ensures.supervisor ∙ made.run in
    let e = c.first_cores-cores.ensures in
    let quotas : List ℕ = 0 ∷ map (λ (a : Account). a.blocks) script.accounts in
    let first : HasNoBlocks quotas drum cores = subst (λ i. HasNoBlocks quotas drum (state i)) (sym cores_are) (subst (λ (ns : List ℕ). HasNoBlocks ns drum (state c.first_cores-cores.result)) made.quotas e.first) in
    record {
      begins =
          on_ok_map wrote (HasFirstFiles script.params.common script.accounts script.files disk (shown g.F.Medium c.directories_of-files.result.files)) (Begins script (drum && disk) (whole_of bare (back_of cores dirs)))
          (λ files. begins_at_first script bare drum disk cores dirs is first
          (subst (λ d. HasFirstFiles script.params.common script.accounts script.files disk (shown g.F.Medium d)) (sym files_are) files)
          (ap (λ (b : Bare). b.texts) c.new-run.ensures.supervisor ∙ made.texts) (ap (λ (b : Bare). b.ended) c.new-run.ensures.supervisor ∙ made.begun))
          c.directories_of-files.ensures.first;
      shown = shown_at_first script bare drum disk cores dirs is first;
      calls = ap (λ i. (state i).drum.calls) cores_are ∙ ap (λ (d : DrumState). d.calls) e.seen;
      drum = ap (λ i. (state i).drum.faults) cores_are ∙ ap (λ (d : DrumState). d.faults) e.seen;
      disk = subst (λ d. g.F.Medium.faults c.args.disk.now ≤ (shown g.F.Medium d).faults) (sym files_are) c.directories_of-files.ensures.rises;
      entries = no_entries script bare drum disk cores dirs is first;
      cause = subst (λ d. IsErrOf wrote Disk → Rose (g.F.Medium.faults c.args.disk.now) (shown g.F.Medium d).faults) (sym files_are) c.directories_of-files.ensures.cause;
    }
