-- proof: which blocks a load brings in, told without what it dumps before.
use Rattle.std.specs.Prelude.{Bool, not, ◌||◌, ◌&&◌}

-- Where a user stays, a block that is here needs nothing; where it doesn't, it is dumped, so that it has a copy.
abbrev pub comes_back : (stays here kept : Bool) → Bool
comes_back stays here kept = not (stays && here) && (here || kept)

abbrev pub comes_fresh : (here kept : Bool) → Bool
comes_fresh here kept = not here && not kept
