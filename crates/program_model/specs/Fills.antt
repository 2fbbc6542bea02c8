-- claim: how a program that has its core is filled: with a deck's words, or with a saved program's words and registers.
use Rattle.std.specs.Prelude.{ℕ, ◌<◌, ◌^◌, List, drop}
use Rattle.ctss_types.specs.Names.{NamePair}
use Rattle.cpu_regs.specs.declared.regs.Regs.{Regs}
use Rattle.program_model.specs.declared.Fill.{Fill}
use Rattle.program_model.specs.declared.Fill.TheVariants.{Deck, Saved}
use Rattle.program_model.specs.Decks.{filled}
use Rattle.program_model.specs.Lines.{with_words}
use Rattle.program_model.specs.Saved.{regs_in}

-- the file
abbrev pub fill_name : Fill → NamePair
fill_name (Deck name start) = name
fill_name (Saved name) = name

-- the core, with the words of the file
abbrev pub filled_core : Fill → List ℕ → List ℕ → List ℕ
filled_core (Deck name start) words core = filled words core
filled_core (Saved name) words core = with_words core 0 (drop 16 words)

-- the registers: a deck begins at its start, a saved program goes on
abbrev pub filled_regs : Fill → List ℕ → Regs → Regs
filled_regs (Deck name start) words r = record r { ic = start }
filled_regs (Saved name) words r = regs_in words

-- where a deck starts is an address
abbrev pub StartsInCore : Fill → Type 0
StartsInCore (Deck name start) = start < 2 ^ 15
StartsInCore (Saved name) = Unit {0}
