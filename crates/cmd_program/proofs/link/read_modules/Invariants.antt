use Rattle.std.proofs.Common.{◌≡◌}
use Rattle.cmd_program.specs.Links.{AreRead}
use Rattle.cmd_program.proofs.Links.{AreBehind}
use Rattle.cmd_program.proofs.link.read_modules.Given as goal

abbrev pub invariant-loop-name : goal.invariant-loop-name
invariant-loop-name g l = record {
  read : AreRead (g.F.FilePort.tells l.files) (g.F.FilePort.files l.files) l.kept;
  behind : AreBehind l.names l.modules l.name-index l.kept;
  left : g.F.FilePort.files l.files ≡ g.F.FilePort.files l.fn.files;
  telling : g.F.FilePort.tells l.files ≡ g.F.FilePort.tells l.fn.files;
  usable : g.F.FilePort.Usable l.files;
  keeps : g.F.FilePort.Keeps l.fn.files l.files;
}
