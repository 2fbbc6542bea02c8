use Rattle.std.proofs.Common.{◌≡◌, ◌+◌, drop, map}
use Rattle.link_model.specs.Links.{linked_word}
use Rattle.bss_loader.specs.Runs.{words_in}
use Rattle.bss_loader.proofs.linked.add_module.Given as goal

abbrev pub invariant-loop-place : goal.invariant-loop-place
invariant-loop-place l = record {
  at : l.at ≡ l.base + l.place-index;
  words :
      words_in l.segments l.at (map (linked_word l.base l.entries l.externs) (drop l.place-index l.places))
      ≡ words_in l.fn.segments l.base (map (linked_word l.base l.entries l.externs) l.places);
}
