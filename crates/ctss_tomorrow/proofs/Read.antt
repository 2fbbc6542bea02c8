-- The text of the next session's base reads as it, as a script and as a base.
use Rattle.std.proofs.Common.{refl}
use Rattle.text_model.specs.Canonical.{script_text_of}
use Rattle.system_model.specs.Record.{record_of}
use Rattle.script_laws.proofs.RoundTrip.{canonical_texts_are_read}
use Rattle.ctss_tomorrow.specs.Tomorrow.{next_base}
use Rattle.ctss_tomorrow.specs.Laws.{NextBasesAreRead}
use Rattle.ctss_tomorrow.proofs.Bases.{next_bases_are_lawful}
use Rattle.ctss_tomorrow.proofs.Quiet.{quiet_scripts_are_bases}

-- a base that is lawful and has no events
pub next_bases_are_read : NextBasesAreRead
next_bases_are_read script lawful holds short =
    let base = next_base script (record_of script) in
    let read = canonical_texts_are_read base (next_bases_are_lawful script lawful holds) short in
    record { script = read; serves = quiet_scripts_are_bases (script_text_of base) base read refl }
