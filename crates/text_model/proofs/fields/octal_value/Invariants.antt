use Rattle.std.proofs.Common.{◌≡◌, take}
use Rattle.std.specs.Str.Parse.{digits_value}
use Rattle.text_model.proofs.fields.octal_value.Given as goal

abbrev pub invariant-digits : goal.invariant-digits
invariant-digits l = l.n ≡ digits_value 8 (take l.b-index l.field)
