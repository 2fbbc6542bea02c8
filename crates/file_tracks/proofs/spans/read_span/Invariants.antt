use Rattle.std.proofs.Common.{◌≡◌, ◌*◌, ◌++◌, length, drop}
use Rattle.faults.specs.Faults.{WhereTold}
use Rattle.medium.specs.Medium.{AreWords}
use Rattle.track_store.specs.Words.{tracks_joined, Gave}
use Rattle.file_tracks.specs.Tracked.{KeepsTracks}
use Rattle.file_tracks.proofs.spans.read_span.Given as goal

abbrev pub invariant-reading : goal.invariant-reading
invariant-reading g l = record {
  keeps : KeepsTracks g.F.Medium ⊥ l.fn.store l.store;
  contents : g.F.Medium.contents l.store.disk.now ≡ g.F.Medium.contents l.fn.store.disk.now;
  buffer : AreWords l.buffer;
  whole : length l.buffer ≡ 432;
  words : AreWords l.words.items;
  len : length l.words.items ≡ 432 * l.track-index;
  given : WhereTold (g.F.Medium.contents l.fn.store.disk.now) (λ contents. tracks_joined contents l.tracks ≡ l.words.items ++ tracks_joined contents (drop l.track-index l.tracks));
  gave : Gave (g.F.Medium.calls l.fn.store.disk.now) (g.F.Medium.calls l.store.disk.now) l.words.items;
}
