use Rattle.console_link.proofs.MemoryLaws.{read_did}
use Rattle.console_link.proofs.memory.MemoryLinkLink.read.Goals as goal

pub returns-clause-did : goal.returns-clause-did
returns-clause-did c =
    let e = c.read_next.ensures in
    read_did c.args.self.now c.read_next.new.self c.args.id c.read_next.result _ c.requires.open e.counts e.bytes e.over e.state
