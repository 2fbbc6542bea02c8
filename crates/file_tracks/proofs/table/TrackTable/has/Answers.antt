use Rattle.std.proofs.Common.{◌∙◌}
use Rattle.file_tracks.proofs.Found.{has_is}
use Rattle.file_tracks.proofs.table.TrackTable.has.Goals as goal

pub returns : goal.returns
returns c = λ contents. c.is_some.ensures ∙ has_is c.args.name c.args.self.now.files.items c.place.result c.place.ensures contents
