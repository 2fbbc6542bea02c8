use Rattle.std.proofs.Common.{◌≡◌, ◌^◌, take, min}
use Rattle.std.specs.Str.Parse.{digits_value}
use Rattle.fap_read.proofs.digits.decimal_value.Given as goal

abbrev pub invariant-digits : goal.invariant-digits
invariant-digits l = l.n ≡ min (digits_value 10 (take l.b-index l.digits)) (2 ^ 35)
