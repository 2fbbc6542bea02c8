use Rattle.std.specs.Prelude.{Ok}
use Rattle.std.proofs.Common.{map, List, sym, ap, ◌∙◌}
use Rattle.file_tracks.specs.Stored.{row_for}
use Rattle.file_tracks.specs.declared.table.Filed.{Filed}
use Rattle.file_tracks.proofs.Found.{listing_is}
use Rattle.file_tracks.proofs.reading.list_in.Goals as goal

pub returns-clause-answer : goal.returns-clause-answer
returns-clause-answer c = λ contents whole.
    ap Ok (listing_is contents c.args.table.now.files.items c.requires whole ∙ ap (λ (fs : List Filed). map row_for fs) (sym c.deref.ensures.value) ∙ sym c.in-Ok.ensures)
