-- The rows of specs/Rows, by computing.
use Rattle.std.proofs.Common.{refl}
use Rattle.ctss_types.specs.Words.{name_of, text_of_name}
use Rattle.ctss_tomorrow.specs.Rows.{RowOfNames, RowOfKept}

pub row_of_names : RowOfNames
unfolding name_of text_of_name
row_of_names = record { plain = refl; zeros = refl; blank = refl; inside = refl; in_front = refl; unprinted = refl }

pub row_of_kept : RowOfKept
unfolding name_of text_of_name
row_of_kept = record { kept = refl }
