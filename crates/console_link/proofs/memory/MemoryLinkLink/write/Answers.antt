use Rattle.console_link.proofs.MemoryLaws.{write_did}
use Rattle.console_link.proofs.memory.MemoryLinkLink.write.Goals as goal

pub returns-clause-did : goal.returns-clause-did
returns-clause-did c =
    let e = c.write_next.ensures in
    write_did c.args.self.now c.write_next.new.self c.args.id c.write_next.result _ c.requires.open e.counts e.state
