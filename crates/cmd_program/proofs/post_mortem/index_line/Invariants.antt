use Rattle.std.proofs.Common.{◌≡◌, ◌++◌, ◌∷◌, ◌+◌, ◌*◌, length, take, codes, true}
use Rattle.std.specs.List.{flat_map, list_all}
use Rattle.bcd48.specs.Characters.{is_character}
use Rattle.word36.specs.Octal.{octal_digits}
use Rattle.cmd_program.proofs.post_mortem.index_line.Given as goal

abbrev pub invariant-indexes : goal.invariant-indexes
invariant-indexes l = record {
  text : l.text.items ≡ codes "XR" ++ flat_map (λ x. 32 ∷ octal_digits 5 x) (take l.index-index l.indexes);
  length_so_far : length l.text.items ≡ 2 + 6 * l.index-index;
  characters : list_all is_character l.text.items ≡ true;
}
