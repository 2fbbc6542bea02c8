-- proof: the words of a card by what its field comes to.
use Rattle.std.specs.Prelude.{Bool, ℕ, List, [], ◌∷◌, Option}
use Rattle.fap_model.specs.declared.types.Operation.{Operation}
use Rattle.fap_model.specs.declared.types.Operation.TheVariants.{Machine as machine, Pze as pze, Org as org, Bss as bss, Equ as equ, Dec as dec, Oct as oct, Bci as bci, End as end}
use Rattle.fap_model.specs.Decks.{Whole}
use Rattle.fap_assemble.specs.declared.field.Said.{Said}
use Rattle.fap_assemble.specs.Fields.{machine_word, plain_word, given_words}

abbrev pub words_said : Whole → Operation → Bool → Option Said → List ℕ
words_said whole (machine o) flag s = machine_word whole o flag s ∷ []
words_said whole pze flag s = plain_word whole s ∷ []
words_said whole dec flag s = given_words s
words_said whole oct flag s = given_words s
words_said whole bci flag s = given_words s
words_said whole org flag s = []
words_said whole bss flag s = []
words_said whole equ flag s = []
words_said whole end flag s = []
