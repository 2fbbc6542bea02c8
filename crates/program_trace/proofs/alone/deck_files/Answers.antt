use Rattle.std.proofs.Common.{◌≡◌, [], rules, ap, ◌∙◌}
use Rattle.file_model.specs.Files.{put}
use Rattle.file_model.specs.Commons.{left_by}
use Rattle.program_trace.specs.Lone.{program_name}
use Rattle.program_trace.proofs.Files.{left_done}
use Rattle.program_trace.proofs.alone.deck_files.Goals as goal

pub returns-in-Ok : goal.returns-in-Ok
returns-in-Ok c =
    let name : c.new-name.result ≡ program_name = search rules in
    let empty = c.new-files.ensures in
    λ j. record {
      files = (left_done _ _ c.in-Ok.ensures.left ∙ (λ k. left_by (put (name k) c.args.deck.now (empty k).quota (empty k).files) [])) j;
      quota = (c.in-Ok.ensures.keeps ∙ ap (λ d. d.quota) empty) j;
    }
