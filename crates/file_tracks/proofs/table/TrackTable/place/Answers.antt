use Rattle.std.specs.Prelude.{None, Some, MatchOption}
use Rattle.std.proofs.Common.{◌≡◌, ◌<◌, ℕ, List, length, get_or, subst}
use Rattle.file_model.specs.Files.{file_named}
use Rattle.file_tracks.specs.Stored.{body_on, files_on}
use Rattle.file_tracks.specs.declared.table.Filed.{Filed}
use Rattle.file_tracks.proofs.table.TrackTable.place.Goals as goal

pub returns : goal.returns
returns c =
    let name = c.args.name in
    subst (λ (fs : List Filed). MatchOption c.find.result ((contents : List (List ℕ)) → file_named name (files_on contents fs) ≡ None)
    (λ i. (i < length fs) × ((contents : List (List ℕ)) (d : Filed) → file_named name (files_on contents fs) ≡ Some (body_on contents (get_or fs i d)))))
    c.deref.ensures.value c.find.ensures
