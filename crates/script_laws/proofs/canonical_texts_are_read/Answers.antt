use Rattle.script_laws.proofs.RoundTrip.{canonical_texts_are_read}
use Rattle.script_laws.proofs.canonical_texts_are_read.Goals as goal

pub returns : goal.returns
returns c = canonical_texts_are_read
