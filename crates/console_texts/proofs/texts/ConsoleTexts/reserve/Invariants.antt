use Rattle.std.proofs.Common.{◌≡◌, ◌≤◌, length, map}
use Rattle.std.specs.List.{AllWithin}
use Rattle.console_texts.specs.Parts.{Kept}
use Rattle.console_texts.proofs.texts.ConsoleTexts.reserve.Given as goal

abbrev pub invariant-rows : goal.invariant-rows
invariant-rows l = record {
  shown : map (λ (k : Kept). k.shown) l.self-inside.rows.items ≡ map (λ (k : Kept). k.shown) l.fn.self;
  room : AllWithin (λ (k : Kept). 4 ≤ k.room) l.self-inside.rows.items 0 l.i;
  end : l.i-end ≡ length l.self-inside.rows.items;
}
