-- proof: what is seen of a text on its way to a sink, and what a piece of text makes of it.
use Rattle.std.specs.Prelude.{◌≡◌, ◌<◌, ◌≤◌, ℕ, Bool, true, false, List, ◌++◌, length, Option}
use Rattle.faults.specs.Faults.{Rose}
use Rattle.ctss_io.specs.Outside.{after}
use Rattle.ctss_io.specs.declared.outside.Sink.{Ghosts}
use Rattle.text_writer.specs.declared.writer.TextWriter.{TextWriter}

-- what the sink holds, where told, and how often a put failed; what waits; whether a put of this writer has failed
pub record WriterSeen : Type 0 where
  pub held : Option (List ℕ)
  pub faults : ℕ
  pub waiting : List ℕ
  pub failed : Bool

-- of what waited and this text a part has come to the sink, and the rest waits
pub record Passes (text : List ℕ) (old new : WriterSeen) : Type 0 where
  pub before : old.failed ≡ false
  pub now : new.failed ≡ false
  pub put : List ℕ
  pub due : old.waiting ++ text ≡ put ++ new.waiting
  pub held : new.held ≡ after old.held put
  pub faults_grow : old.faults ≤ new.faults

-- a part has come to the sink; then a put failed, and a rest that is not empty is lost
pub record Loses (text : List ℕ) (old new : WriterSeen) : Type 0 where
  pub before : old.failed ≡ false
  pub now : new.failed ≡ true
  pub put : List ℕ
  pub rest : List ℕ
  pub due : old.waiting ++ text ≡ put ++ rest
  pub lost : 0 < length rest
  pub held : new.held ≡ after old.held put
  pub cause : Rose old.faults new.faults

-- a put had failed before, and the text is dropped
pub record Drops (old new : WriterSeen) : Type 0 where
  pub before : old.failed ≡ true
  pub now : new.failed ≡ true
  pub held : new.held ≡ old.held
  pub faults : new.faults ≡ old.faults

-- a text was added
pub data Added (text : List ℕ) (old new : WriterSeen) : Type 0 where
  Passed : Passes text old new → Added text old new
  Lost : Loses text old new → Added text old new
  Dropped : Drops old new → Added text old new

module _ {K : Type 0} (g : Ghosts K) where
  abbrev pub writer_seen : TextWriter K → WriterSeen
  writer_seen w = record { held = g.held w.sink.now; faults = g.faults w.sink.now; waiting = w.piece.bytes.items; failed = w.has_failed }

  -- the same sink, to which a text was added
  pub record Adds (text : List ℕ) (old new : TextWriter K) : Type 0 where
    pub same : old.sink.ghost_name ≡ new.sink.ghost_name
    pub added : Added text (writer_seen old) (writer_seen new)
