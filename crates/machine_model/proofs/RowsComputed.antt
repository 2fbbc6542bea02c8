-- The worked rows by computing.
use Rattle.std.proofs.Common.{refl}
use Rattle.machine_model.specs.Rows.{RowOfCas, RowOfOverflow, RowOfDivision, RowOfLongShift, RowOfLogicalSum, RowOfCounts, RowOfReturn, RowOfPlaces, RowOfXec, RowOfEnds}

pub row_of_cas : RowOfCas
row_of_cas = record { plus_zero = refl; minus_zero = refl; same = refl; greater = refl; less = refl }

pub row_of_overflow : RowOfOverflow
row_of_overflow = record { minus_zero = refl; stays_on = refl; comes_on = refl; tov_on = refl; tov_off = refl; tno_off = refl; tno_on = refl }

pub row_of_division : RowOfDivision
row_of_division = record { check = refl; by_zero = refl; quotient = refl; remainder = refl; check_halts = refl }

pub row_of_long_shift : RowOfLongShift
row_of_long_shift = record { all_out = refl; count_of_zero = refl; into_ac = refl; into_p = refl; below_p = refl }

pub row_of_logical_sum : RowOfLogicalSum
row_of_logical_sum = record { sum = refl; carry = refl }

pub row_of_counts : RowOfCounts
row_of_counts = record { tix_equal = refl; tix_greater = refl; tnx_equal = refl; tnx_greater = refl; txi_round = refl }

pub row_of_return : RowOfReturn
row_of_return = record { tsx = refl; tra = refl }

pub row_of_places : RowOfPlaces
row_of_places = record { direct = refl; through = refl; round = refl; no_word = refl; tag_names = refl; tag_and_word = refl }

pub row_of_xec : RowOfXec
row_of_xec = record { goes_on = refl; skips = refl; another = refl; itself = refl; with_flag = refl }

pub row_of_ends : RowOfEnds
row_of_ends = record { cleared = refl; htr = refl; hpr = refl; off_the_table = refl; past_two_blocks = refl; last_of_two_blocks = refl; fetch = refl; entry = refl }
