use Rattle.std.proofs.Common.{◌≡◌, ◌++◌, length, map, take, drop}
use Rattle.console_texts.specs.Parts.{Kept}
use Rattle.console_texts.specs.Following.{settled_in}
use Rattle.console_texts.proofs.texts.ConsoleTexts.settle.Given as goal

abbrev pub invariant-rows : goal.invariant-rows
invariant-rows l = record {
  shown : map (λ (k : Kept). k.shown) l.self-inside.rows.items ≡ map (settled_in l.consoles l.after) (take l.i (map (λ (k : Kept). k.shown) l.fn.self)) ++ drop l.i (map (λ (k : Kept). k.shown) l.fn.self);
  end : l.i-end ≡ length l.fn.self;
}
