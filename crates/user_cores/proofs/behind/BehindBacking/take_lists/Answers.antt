use Rattle.std.proofs.Common.{◌≡◌, List, subst}
use Rattle.std.specs.Prelude.{IfOk}
use Rattle.ctss_types.specs.declared.file.FileBody.{FileBody}
use Rattle.image_map.specs.Image.{state}
use Rattle.track_directories.specs.Tables.{shown}
use Rattle.user_cores.specs.Usable.{words_in}
use Rattle.user_cores.proofs.Listed.{lists_same}
use Rattle.user_cores.proofs.Working.{disk_told}
use Rattle.user_cores.proofs.behind.BehindBacking.take_lists.Goals as goal

pub returns-clause-lists : goal.returns-clause-lists
returns-clause-lists g c = λ told.
    let files = shown g.F.Medium c.args.self.now.files in
    subst (λ (all : List (List FileBody)). IfOk c.take_lists.result (λ lists. lists.own.items ≡ all))
    (lists_same 0 files.count (words_in (state c.args.self.now.cores)) files.own files.common)
    (c.take_lists.ensures.lists (disk_told _ _ told))
