-- The worked rows by computing.
use Rattle.std.proofs.Common.{[], ◌∷◌, refl}
use Rattle.ctss_types.specs.Words.{name_of}
use Rattle.rule_laws.specs.Rows.{RowOfCodes, RowOfLaid, RowOfCards}

pub row_of_codes : RowOfCodes
row_of_codes = record { junk = refl; flag = refl; half_flag = refl; group = refl }

pub row_of_laid : RowOfLaid
row_of_laid =
    (0o000002000001, 0o000001700000 ∷ 7 ∷ [], refl, refl, refl, (0o000001700000, [], refl, refl, refl, refl))

pub row_of_cards : RowOfCards
unfolding name_of
row_of_cards = record { origin = (refl, refl); since = refl; place = refl; symbol = refl; unknown = refl; said = refl }
