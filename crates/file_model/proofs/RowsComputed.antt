-- The worked rows by computing.
use Rattle.std.proofs.Common.{refl}
use Rattle.std.specs.Fmt.{digits}
use Rattle.ctss_types.specs.Words.{name_of}
use Rattle.file_model.specs.Rows.{RowOfTracks, RowOfRefusals, RowOfCommons, RowOfTexts}

pub row_of_tracks : RowOfTracks
row_of_tracks = record { fits = refl; no_more = refl; over = refl; last = refl; past = refl; none = refl; replaced = refl }

pub row_of_refusals : RowOfRefusals
row_of_refusals = record { for_good = refl; mode = refl; absent = refl; in_use = refl; same = refl; moved = refl; kept = refl; gap = refl; behind = refl; inside = refl; at_end = refl; gone = refl }

pub row_of_commons : RowOfCommons
row_of_commons = record { first = refl; second = refl; refused = refl; kept = refl; answer = refl }

pub row_of_texts : RowOfTexts
unfolding name_of digits
row_of_texts = record { one = refl; more = refl; none = refl; refused = refl; number = refl }
