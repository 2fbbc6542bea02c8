-- The worked rows by computing.
use Rattle.std.proofs.Common.{refl}
use Rattle.ctss_types.specs.Words.{name_of}
use Rattle.fap_model.specs.Decks.{assembled}
use Rattle.fap_model.specs.Rows.{RowOfGreeting, RowOfFaults, RowOfLiterals}

pub row_of_greeting : RowOfGreeting
unfolding assembled name_of
row_of_greeting = refl

pub row_of_faults : RowOfFaults
unfolding assembled name_of
row_of_faults = refl

pub row_of_literals : RowOfLiterals
unfolding assembled name_of
row_of_literals = refl
