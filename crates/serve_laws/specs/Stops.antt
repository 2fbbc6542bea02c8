-- claim: why reading or writing a connection stopped.
use Rattle.std.specs.Prelude.{◌≡◌, ℕ, true, List, length}
use Rattle.faults.specs.Faults.{Rose}
use Rattle.console_link.specs.Links.{LinkSeen}
use Rattle.console_server.specs.Readings.{Gave, bytes_of}
use Rattle.console_server.specs.Turns.{Wrote, sent_of}

-- all bytes that one turn may take; its own count of reads that were not ready rose; its own count of faults rose;
-- or it is over
pub data WhyStopped (id : ℕ) (reads : List Gave) (most : ℕ) (a b : LinkSeen) : Type 0 where
  Full : length (bytes_of reads) ≡ most → WhyStopped id reads most a b
  NotReady : Rose (a.counts id).read_waits (b.counts id).read_waits → WhyStopped id reads most a b
  Faulty : Rose (a.counts id).faults (b.counts id).faults → WhyStopped id reads most a b
  IsOver : (a.tells ≡ true → b.is_over id ≡ true) → WhyStopped id reads most a b

-- all of the text was sent; all bytes that one turn may send; its own count of writes that were not ready rose;
-- or its own count of faults rose
pub data WhyWritingStopped (id : ℕ) (puts : List Wrote) (may : ℕ) (rest : List ℕ) (a b : LinkSeen) : Type 0 where
  AllSent : sent_of puts ≡ rest → WhyWritingStopped id puts may rest a b
  FullSent : length (sent_of puts) ≡ may → WhyWritingStopped id puts may rest a b
  WriteNotReady : Rose (a.counts id).write_waits (b.counts id).write_waits → WhyWritingStopped id puts may rest a b
  WriteFaulty : Rose (a.counts id).faults (b.counts id).faults → WhyWritingStopped id puts may rest a b
