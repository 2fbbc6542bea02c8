-- proof: what a memory lends.
use Rattle.std.specs.Prelude.{ℕ, List}
use Rattle.std.specs.Borrow.{Lends, MutBor, Fml, Array, u64}
use Rattle.core_bank.specs.Parts.{with_middle, with_words}
use Rattle.core_bank.specs.declared.memory.Memory.{Memory}
use Rattle.core_bank.specs.contracts.memory.Memory.{the_row}

-- a memory lends the words from one place up to another
abbrev pub LendsPart : MutBor Memory → ℕ → ℕ → MutBor (List ℕ) → Fml
LendsPart memory from to part = Lends the_row (Array u64 0) memory part (λ ws. record memory.now { words = with_middle memory.now.words from to ws })

-- a memory lends all its words
abbrev pub LendsAll : MutBor Memory → MutBor (List ℕ) → Fml
LendsAll memory all = Lends the_row (Array u64 0) memory all (λ ws. record memory.now { words = with_words memory.now.words ws })
