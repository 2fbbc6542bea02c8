use Rattle.std.proofs.Common.{sym, ◌∙◌}
use Rattle.fap_read.proofs.Machines.{machine_some, machine_none}
use Rattle.fap_read.proofs.operations.machine_named.Goals as goal

pub returns-in-Some : goal.returns-in-Some
returns-in-Some c = machine_some c.args.text.now c.padded_name.result c.in-Some.op c.if-text-le6.true c.padded_name.ensures (sym c.op_named.ensures ∙ c.in-Some.is)

pub returns-in-None : goal.returns-in-None
returns-in-None c = machine_none c.args.text.now c.padded_name.result c.if-text-le6.true c.padded_name.ensures (sym c.op_named.ensures ∙ c.in-None.is)
