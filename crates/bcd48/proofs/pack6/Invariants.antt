use Rattle.std.proofs.Common.{◌≡◌, ◌^◌, ◌<◌, take}
use Rattle.bcd48.specs.Words.{packed}
use Rattle.bcd48.proofs.pack6.Given as goal

abbrev pub invariant-loop-code : goal.invariant-loop-code
invariant-loop-code l = (l.word ≡ packed (take l.code-index l.codes)) × (l.word < 64 ^ l.code-index)
