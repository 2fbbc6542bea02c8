use Rattle.std.proofs.Common.{rules, ◌≡◌, ◌≤◌, true, length, Ok, Err, refl, ap, subst, arith}
use Rattle.ctss_types.specs.declared.file.FileBody.{FileBody}
use Rattle.ctss_types.specs.declared.file.Refusal.TheVariants.{Quota}
use Rattle.file_model.specs.Files.{written, overwritten}
use Rattle.file_map.specs.Directory.{Directory}
use Rattle.file_map.specs.Known.{known, known_of}
use Rattle.file_map.specs.Table.{body_of}
use Rattle.file_map.proofs.Counts.{within_used, counted_changed, too_many}
use Rattle.file_map.proofs.Modes.{modes_changed}
use Rattle.file_map.proofs.Whole.{leaves_whole}
use Rattle.file_map.proofs.Operations.{written_done, written_over, tracks_written}
use Rattle.file_map.proofs.files.FilesFilePort.write.Goals as goal

pub used_after-requires-clause-before : goal.used_after-requires-clause-before
used_after-requires-clause-before c =
    within_used c.args.name _ _ _ c.self.invariant.counted (body_of (c.args.name, c.in-Some.file.now)) _ c.in-Some.ensures.file c.tracks.ensures.value

pub returns-then-place-eq0-clause-left : goal.returns-then-place-eq0-clause-left
returns-then-place-eq0-clause-left c =
    let told = written c.args.name c.args.place c.args.words.now c.args.self.now.quota c.args.self.now.files in
    leaves_whole c.make.result told _ _ (search rules)

pub returns-in_default-used_after-clause-left : goal.returns-in_default-used_after-clause-left
returns-in_default-used_after-clause-left c =
    let name = c.args.name in
    let place = c.args.place in
    let words = c.args.words.now in
    let f : FileBody = body_of (name, c.in-Some.file.now) in
    let inside : place ≤ length f.words = omega arith in
    let tracks = tracks_written place _ _ _ words f.words inside c.len-2.ensures c.max.ensures c.tracks_of_words-tracks.ensures.value in
    let many = too_many name _ _ _ c.self.invariant.counted (λ g. record g { words = overwritten place words g.words }) f _ _ c.in-Some.ensures.differ c.in-Some.ensures.file
    c.tracks.ensures.value tracks c.in_default-used_after.ensures in (
      ap (known_of true) (subst (λ (d : Directory). written name place words d.quota d.files ≡ Err Quota) c.self.view_is
          (written_over name words _ _ f c.in-Some.ensures.file c.if-is_read_only.ensures place inside many)),
      refl,
    )

pub invariant_of-self-2 : goal.invariant_of-self-2
invariant_of-self-2 c =
    let name = c.args.name in
    let place = c.args.place in
    let words = c.args.words.now in
    let f : FileBody = body_of (name, c.in-Some.file.now) in
    let inside : place ≤ length f.words = omega arith in
    let change : FileBody → FileBody = λ g. record g { words = overwritten place words g.words } in
    record {
      counted =
          counted_changed name _ _ _ c.self.invariant.counted change f _ _ _ _ c.in-Some.ensures.differ c.in-Some.ensures.file
          c.tracks.ensures.value (tracks_written place _ _ _ words f.words inside c.len-2.ensures c.max.ensures c.tracks_of_words-tracks.ensures.value)
          c.in_ok-overwrite.ensures.ok c.in-Some-used_after.ensures;
      modes = modes_changed name _ _ c.self.invariant.modes change (λ f h. h) c.in_ok-overwrite.ensures.ok;
    }

pub returns-clause-left : goal.returns-clause-left
unfolding known
returns-clause-left c =
    let name = c.args.name in
    let place = c.args.place in
    let words = c.args.words.now in
    let f : FileBody = body_of (name, c.in-Some.file.now) in
    let inside : place ≤ length f.words = omega arith in
    ap (known_of true) (subst (λ (d : Directory). written name place words d.quota d.files ≡ Ok c.overwrite.new.self) c.self.view_is
    (written_done name words _ _ f c.in-Some.ensures.file c.if-is_read_only.ensures place inside c.overwrite.new.self c.in-Some-used_after.used
    c.in_ok-overwrite.ensures.ok (invariant_of-self-2 c).counted))
