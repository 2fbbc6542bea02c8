use Rattle.std.specs.Prelude.{min, replicate}
use Rattle.std.proofs.Common.{◌≡◌, ◌-◌, ◌*◌, ◌++◌, ℕ, take, drop, length, ◌∙◌, ap, arith}
use Rattle.track_store.specs.Words.{tracks_joined, with_words}
use Rattle.file_model.specs.Files.{overwritten}
use Rattle.file_tracks.specs.Written.{from_track, to_track}
use Rattle.file_tracks.proofs.Told.{told_map}
use Rattle.file_tracks.proofs.patches.written_over.Goals as goal

pub returns-clause-written : goal.returns-clause-written
returns-clause-written g c =
    let o = g.F.Medium.contents c.args.store.now.disk.now in
    let ts = c.args.tracks.now in
    let ws = c.args.words.now in
    let place = c.args.place in
    let from = from_track place in
    let patch = c.deref-2.result.now in
    let p = c.in_ok-patch.ensures in
    let last : c.div_ceil-to.result ≡ to_track place (length ws) = (let a = c.div_ceil-to.ensures in omega (arith, a)) in
    let kept : c.min-kept.result ≡ min (to_track place (length ws)) (length ts) = c.min-kept.ensures ∙ ap (λ (k : ℕ). min k (length ts)) last in
    let rows = ap g.F.Medium.contents c.take_more.ensures.now ∙ p.contents (λ e. let x = e in cc) in
    record {
      bits = patch;
      whole = ap length c.deref-2.ensures.value ∙ p.len ∙ ap (λ (k : ℕ). 432 * (k - from)) last;
      told = told_map o _ _ (λ contents x. c.deref-2.ensures.value ∙ x
          ∙ (λ j. overwritten (place - 432 * from) ws (tracks_joined contents (take (kept j - from) (drop from ts)) ++ replicate (432 * (last j - from) - 432 * length (take (kept j - from) (drop from ts))) 0))) p.told;
      contents = c.in-Ok.ensures.contents ∙ (λ j. with_words (rows j) (take (last j - from) (drop from (c.deref.ensures.value j))) patch);
    }
