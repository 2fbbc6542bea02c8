use Rattle.std.proofs.Common.{◌≡◌, ◌+◌, ◌<◌, ◌^◌, Some, length}
use Rattle.std.specs.Prelude.{IfSome}
use Rattle.std.specs.Option.{option_map, option_map_or}
use Rattle.fap_read.specs.Peeled.{parts_from, parts_behind}
use Rattle.fap_assemble.specs.Expressions.{summed}
use Rattle.fap_assemble.specs.Names.{names_in}
use Rattle.fap_assemble.proofs.expression.value.Given as goal

abbrev pub invariant-terms : goal.invariant-terms
invariant-terms l = record {
  rest : summed (names_in l.names) l.place l.sum (parts_behind (option_map (λ p. (p.0, p.1.now)) l.next))
      ≡ summed (names_in l.names) l.place (Some 0) (parts_from 43 l.text);
  below : IfSome l.sum (λ n. n < 2 ^ 15);
}

abbrev pub decreases-terms : goal.decreases-terms
decreases-terms l = option_map_or (λ p. 1 + length p.1.now) l.next 0
