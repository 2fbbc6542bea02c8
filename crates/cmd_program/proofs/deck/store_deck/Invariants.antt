use Rattle.std.proofs.Common.{◌≡◌, ◌≤◌, ◌+◌, drop}
use Rattle.program_model.specs.Decks.{stored}
use Rattle.cmd_program.proofs.deck.store_deck.Given as goal

abbrev pub invariant-storing : goal.invariant-storing
invariant-storing g l = record {
  words : stored l.left l.place (drop l.word-index l.rest) (g.M.MemoryPort.words l.core) ≡ stored 0 0 l.rest (g.M.MemoryPort.words l.fn.core);
  few : l.left + l.place ≤ 65534;
  keeps : g.M.MemoryPort.Keeps l.fn.core l.core;
}
