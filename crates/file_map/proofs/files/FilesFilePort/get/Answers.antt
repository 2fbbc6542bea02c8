use Rattle.std.proofs.Common.{◌≡◌, ◌≤◌, ◌∙◌, ℕ, List, length, rules, refl, ap, arith}
use Rattle.ctss_types.specs.declared.file.FileBody.{FileBody}
use Rattle.file_model.specs.Files.{tracks_of_words}
use Rattle.file_map.specs.Known.{known}
use Rattle.file_map.specs.Table.{body_of}
use Rattle.file_map.proofs.Counts.{within_used}
use Rattle.file_map.proofs.Modes.{few_words}
use Rattle.file_map.proofs.files.FilesFilePort.get.Goals as goal

pub returns-in_default-clause-answer : goal.returns-in_default-clause-answer
unfolding known
returns-in_default-clause-answer c = (c.args.self.now.files, (refl, search rules))

pub returns-in_err-copy-clause-answer : goal.returns-in_err-copy-clause-answer
unfolding known
returns-in_err-copy-clause-answer c = (c.args.self.now.files, (refl, search rules))

pub returns-clause-answer : goal.returns-clause-answer
unfolding known
returns-clause-answer c = (c.args.self.now.files, (refl, search rules))

pub returns-clause-bound : goal.returns-clause-bound
returns-clause-bound c =
    let file : FileBody = body_of (c.args.name, c.in-Some.file.now) in
    let words : c.from_vec.result ≡ file.words = c.from_vec.ensures ∙ c.in_ok-copy.ensures ∙ c.deref.ensures.value in
    let size : length c.from_vec.result ≡ length file.words = ap (λ (ws : List ℕ). length ws) words in
    let within : tracks_of_words (length c.from_vec.result) ≤ c.self.inside.used
    = within_used c.args.name _ _ _ c.self.invariant.counted file _ c.in-Some.ensures.file (ap tracks_of_words size) in
    few_words (length c.from_vec.result) c.self.inside.used c.self.inside.quota within c.self.invariant.counted.most (omega arith)
