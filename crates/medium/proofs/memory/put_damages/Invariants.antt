use Rattle.std.proofs.Common.{◌≡◌, drop}
use Rattle.medium.specs.Medium.{AreWords}
use Rattle.medium.specs.Damages.{damaged_words}
use Rattle.medium.proofs.memory.put_damages.Given as goal

abbrev pub invariant-loop-damage : goal.invariant-loop-damage
invariant-loop-damage l = record {
  left : damaged_words (drop l.damage-index l.damages) l.read l.into ≡ damaged_words l.damages l.read l.fn.into;
  words : AreWords l.into;
}
