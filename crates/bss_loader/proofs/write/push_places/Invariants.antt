use Rattle.std.proofs.Common.{◌≡◌, ◌++◌, drop}
use Rattle.link_model.specs.Modules.{place_words}
use Rattle.bss_loader.proofs.write.push_places.Given as goal

abbrev pub invariant-loop-place : goal.invariant-loop-place
invariant-loop-place l = l.words ++ place_words (drop l.place-index l.places) ≡ l.fn.words ++ place_words l.places
