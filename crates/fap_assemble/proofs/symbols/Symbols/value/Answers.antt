use Rattle.std.proofs.Common.{rules, sym}
use Rattle.fap_assemble.proofs.Lookup.{late_value}
use Rattle.fap_assemble.proofs.symbols.Symbols.value.Goals as goal

pub returns-else-index-visible : goal.returns-else-index-visible
returns-else-index-visible c = sym (late_value c.args.self.now c.args.name c.in_ok-index.index c.args.visible (search rules) c.if-index-visible.false)
