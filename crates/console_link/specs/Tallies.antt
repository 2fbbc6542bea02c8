-- proof: what is seen of a link over sockets.
use Rattle.std.specs.Prelude.{ℕ, Bool, false, ◌&&◌, nat_lt, List, [], length, get_or, None}
use Rattle.std.specs.Option.{is_some}
use Rattle.slab.specs.Slab.{Slab, get}
use Rattle.console_link.specs.Links.{Counts, LinkSeen, nothing_passed}
use Rattle.console_link.specs.declared.sockets.Tally.{Tally}

abbrev pub no_tally : Tally
no_tally = record { faults = 0; read_waits = 0; write_waits = 0 }

abbrev pub counts_of : Tally → Counts
counts_of t = record { faults = t.faults; read_waits = t.read_waits; write_waits = t.write_waits }

abbrev pub counts_at : List Tally → ℕ → Counts
counts_at tallies k = counts_of (get_or tallies k no_tally)

-- a connection has a place with counts
abbrev pub is_place : {T : Type 0} → Slab T → List Tally → ℕ → Bool
is_place streams tallies k = nat_lt k (length tallies) && is_some (get streams k)

-- it tells no bytes and no calls
abbrev pub seen_of : {T : Type 0} → Slab T → List Tally → ℕ → ℕ → LinkSeen
seen_of streams tallies faults waits = record {
  is_open = is_place streams tallies;
  counts = counts_at tallies;
  faults = faults;
  waits = waits;
  calls = None;
  tells = false;
  numbers = [];
  passed = λ k. nothing_passed;
  is_over = λ k. false;
}
