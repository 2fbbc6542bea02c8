use Rattle.std.proofs.Common.{◌≡◌, ◌+◌, ◌<◌, ◌^◌, length}
use Rattle.std.specs.Option.{option_map, option_map_or}
use Rattle.fap_read.specs.Peeled.{parts_from, parts_behind}
use Rattle.fap_assemble.specs.Weighing.{no_heft, weighed}
use Rattle.fap_assemble.specs.Names.{externs_in, names_in}
use Rattle.fap_assemble.proofs.weigh.heft_of.Given as goal

abbrev pub invariant-terms : goal.invariant-terms
invariant-terms l = record {
  rest : weighed (externs_in l.weights) (names_in l.weights) l.sum (parts_behind (option_map (λ p. (p.0, p.1.now)) l.next))
      ≡ weighed (externs_in l.weights) (names_in l.weights) no_heft (parts_from 43 l.text);
  below : l.sum.weight < 2 ^ 15;
}

abbrev pub decreases-terms : goal.decreases-terms
decreases-terms l = option_map_or (λ p. 1 + length p.1.now) l.next 0
