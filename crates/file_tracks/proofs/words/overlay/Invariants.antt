use Rattle.std.proofs.Common.{◌≡◌, ◌+◌, ◌++◌, take, drop}
use Rattle.medium.specs.Medium.{AreWords}
use Rattle.file_tracks.proofs.words.overlay.Given as goal

abbrev pub invariant-laying : goal.invariant-laying
invariant-laying l = record {
  over : l.into ≡ take l.place l.fn.into ++ (take l.i l.words ++ drop (l.place + l.i) l.fn.into);
  all : AreWords l.into;
}
