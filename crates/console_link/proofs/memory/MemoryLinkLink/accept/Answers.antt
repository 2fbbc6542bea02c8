use Rattle.console_link.proofs.MemoryLaws.{accept_did}
use Rattle.console_link.proofs.memory.MemoryLinkLink.accept.Goals as goal

pub returns-clause-did : goal.returns-clause-did
returns-clause-did c = accept_did c.args.self.now c.accept_next.new.self c.accept_next.result c.accept_next.ensures.listening c.accept_next.ensures.answer c.accept_next.ensures.state
