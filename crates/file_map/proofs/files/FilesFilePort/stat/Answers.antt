use Rattle.std.proofs.Common.{◌≤◌, ap, arith}
use Rattle.ctss_types.specs.declared.file.FileBody.{FileBody}
use Rattle.file_model.specs.Files.{tracks_of_words}
use Rattle.file_map.specs.Table.{body_of}
use Rattle.file_map.proofs.Counts.{within_used}
use Rattle.file_map.proofs.Modes.{few_words, found_mode}
use Rattle.file_map.proofs.files.FilesFilePort.stat.Goals as goal

pub returns-in-Some-clause-mode : goal.returns-in-Some-clause-mode
returns-in-Some-clause-mode c = found_mode c.args.name _ (body_of (c.args.name, c.in-Some.file.now)) c.self.invariant.modes c.in-Some.ensures.file

pub returns-in-Some-clause-words : goal.returns-in-Some-clause-words
returns-in-Some-clause-words c =
    let file : FileBody = body_of (c.args.name, c.in-Some.file.now) in
    let within : tracks_of_words c.len.result ≤ c.self.inside.used
    = within_used c.args.name _ _ _ c.self.invariant.counted file _ c.in-Some.ensures.file (ap tracks_of_words c.len.ensures) in
    few_words c.len.result c.self.inside.used c.self.inside.quota within c.self.invariant.counted.most (omega arith)
