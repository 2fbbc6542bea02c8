-- proof: writing to a connection within one turn.
use Rattle.std.specs.Prelude.{◌≡◌, ℕ, ◌-◌, ◌<◌, ◌≤◌, min, Bool, true, false, List, [], ◌∷◌, length, take, drop, map}
use Rattle.console_link.specs.declared.link.LinkTook.{LinkTook}
use Rattle.console_link.specs.declared.link.LinkTook.TheVariants as took
use Rattle.console_link.specs.Links.{LinkSeen, Done, DidWrite}
use Rattle.console_server.specs.Readings.{DidAll}
use Rattle.console_server.specs.Turns.{Wrote, sent_of, IsPutting}

abbrev pub did_write : ℕ → Wrote → Done
did_write id p = DidWrite id p.answer p.bytes

-- writes that took bytes, up to where so many more may be sent of the rest
abbrev pub PutGoes : LinkTook → ℕ → List ℕ → List ℕ → (ℕ → List ℕ → Type 0) → Type 0
PutGoes (took.Bytes n) may rest bytes next = (1 ≤ n) × (n ≤ min may (length rest)) × (bytes ≡ take n rest) × next (may - n) (drop n rest)
PutGoes took.NotYet may rest bytes next = true ≡ false
PutGoes took.Failed may rest bytes next = true ≡ false

abbrev pub PutsOn : List Wrote → ℕ → List ℕ → ℕ → List ℕ → Type 0
PutsOn [] may rest left now = (may ≡ left) × (rest ≡ now)
PutsOn (p ∷ puts) may rest left now = (0 < min may (length rest)) × PutGoes p.answer may rest p.bytes (λ m r. PutsOn puts m r left now)

-- so many bytes of a text were sent
pub record SentSoFar (id : ℕ) (rest : List ℕ) (sent : ℕ) (a b : LinkSeen) : Type 0 where
  pub puts : List Wrote
  pub goes_on : PutsOn puts 4096 rest (4096 - sent) (drop sent rest)
  pub link : DidAll (map (did_write id) puts) a b
  pub sent_is : length (sent_of puts) ≡ sent

-- a text was sent as far as one turn may, or its connection was lost
pub record IsSent (id : ℕ) (rest : List ℕ) (lost : Bool) (sent : ℕ) (a b : LinkSeen) : Type 0 where
  pub puts : List Wrote
  pub lawful : IsPutting lost puts 4096 rest
  pub link : DidAll (map (did_write id) puts) a b
  pub sent_is : length (sent_of puts) ≡ sent
