use Rattle.std.proofs.Common.{rules, ◌≡◌, true, List, ℕ, length, Ok, Err, refl, sym, ap, subst, ◌∙◌}
use Rattle.ctss_types.specs.declared.file.FileBody.{FileBody}
use Rattle.ctss_types.specs.declared.file.Refusal.TheVariants.{Quota}
use Rattle.file_model.specs.Files.{put, with_change, tracks_of_words}
use Rattle.file_map.specs.Directory.{Directory}
use Rattle.file_map.specs.Known.{known, known_of}
use Rattle.file_map.specs.Table.{body_of}
use Rattle.file_map.proofs.Counts.{within_used, counted_changed, too_many}
use Rattle.file_map.proofs.Modes.{modes_changed}
use Rattle.file_map.proofs.Whole.{leaves_whole}
use Rattle.file_map.proofs.Operations.{put_done, put_over}
use Rattle.file_map.proofs.files.FilesFilePort.put.Goals as goal

pub used_after-requires-clause-before : goal.used_after-requires-clause-before
used_after-requires-clause-before c =
    within_used c.args.name _ _ _ c.self.invariant.counted (body_of (c.args.name, c.in-Some.file.now)) _ c.in-Some.ensures.file c.tracks.ensures.value

pub returns-in_default-clause-left : goal.returns-in_default-clause-left
returns-in_default-clause-left c =
    let told = put c.args.name c.args.words.now c.args.self.now.quota c.args.self.now.files in
    leaves_whole c.make.result told _ _ (search rules)

pub returns-in_default-used_after-clause-left : goal.returns-in_default-used_after-clause-left
returns-in_default-used_after-clause-left c =
    let name = c.args.name in
    let words = c.args.words.now in
    let f : FileBody = body_of (name, c.in-Some.file.now) in
    let many = too_many name _ _ _ c.self.invariant.counted (λ g. record g { words = words }) f _ _ c.in-Some.ensures.differ c.in-Some.ensures.file
    c.tracks.ensures.value c.tracks_of_words-after.ensures.value c.in_default-used_after.ensures in (
      ap (known_of true) (subst (λ (d : Directory). put name words d.quota d.files ≡ Err Quota) c.self.view_is
          (put_over name words _ _ f c.in-Some.ensures.file c.if-is_read_only.ensures many)),
      refl,
    )

pub invariant_of-self : goal.invariant_of-self
invariant_of-self c =
    let change : FileBody → FileBody = λ g. record g { words = c.in_ok-words.words.items } in
    record {
      counted =
          counted_changed c.args.name _ _ _ c.self.invariant.counted change (body_of (c.args.name, c.in-Some.file.now)) _ _ _ _
          c.in-Some.ensures.differ c.in-Some.ensures.file c.tracks.ensures.value
          (c.tracks_of_words-after.ensures.value ∙ ap (λ (ws : List ℕ). tracks_of_words (length ws)) (sym c.in_ok-words.ensures))
          c.set_words.ensures c.in-Some-used_after.ensures;
      modes = modes_changed c.args.name _ _ c.self.invariant.modes change (λ f h. h) c.set_words.ensures;
    }

pub returns-clause-left : goal.returns-clause-left
unfolding known
returns-clause-left c =
    let name = c.args.name in
    let words = c.args.words.now in
    ap (known_of true) (subst (λ (d : Directory). put name words d.quota d.files ≡ Ok c.set_words.new.self) c.self.view_is
    (put_done name words _ _ (body_of (name, c.in-Some.file.now)) c.in-Some.ensures.file c.if-is_read_only.ensures c.set_words.new.self c.in-Some-used_after.used
    (c.set_words.ensures ∙ ap (λ (ws : List ℕ). with_change name (λ g. record g { words = ws }) c.self.inside.table) c.in_ok-words.ensures)
    (invariant_of-self c).counted))
