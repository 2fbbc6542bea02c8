use Rattle.std.proofs.Common.{◌≤◌, arith}
use Rattle.file_map.specs.Table.{body_of}
use Rattle.file_map.proofs.Counts.{within_used, counted_gone}
use Rattle.file_map.proofs.Modes.{modes_gone}
use Rattle.file_map.proofs.files.FilesFilePort.delete.Goals as goal

pub overflow_cast-tracks : goal.overflow_cast-tracks
overflow_cast-tracks c =
    let within : c.tracks-tracks.result ≤ c.self.inside.used
    = within_used c.args.name _ _ _ c.self.invariant.counted (body_of (c.args.name, c.in-Some.gone.now)) _ c.in-Some.ensures.file c.tracks-tracks.ensures.value in
    omega arith

pub overflow_sub-self : goal.overflow_sub-self
overflow_sub-self c =
    within_used c.args.name _ _ _ c.self.invariant.counted (body_of (c.args.name, c.in-Some.gone.now)) _ c.in-Some.ensures.file c.tracks-tracks.ensures.value

pub invariant_of-self : goal.invariant_of-self
invariant_of-self c = record {
  counted =
      counted_gone c.args.name _ _ _ c.self.invariant.counted (body_of (c.args.name, c.in-Some.gone.now)) _ _ c.in-Some.ensures.differ c.in-Some.ensures.file
      c.tracks-tracks.ensures.value c.remove.ensures;
  modes = modes_gone c.args.name _ _ c.self.invariant.modes c.remove.ensures;
}
