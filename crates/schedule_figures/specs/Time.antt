-- proof: what each entry adds to the times of a record.
use Rattle.std.specs.Prelude.{ℕ, ◌+◌, ◌-◌}
use Rattle.ctss_types.specs.declared.history.Entry.{Entry}
use Rattle.ctss_types.specs.declared.history.Entry.TheVariants.{Idle, Swap, Serve}

-- the ticks of a service
abbrev pub served_of : Entry → ℕ
served_of (Serve tick user level ran cause) = ran
served_of _ = 0

-- the blocks of a load
abbrev pub moved_of : Entry → ℕ
moved_of (Swap tick user dumped read fresh) = dumped + read
moved_of _ = 0

-- the ticks of idling
abbrev pub idle_of : Entry → ℕ
idle_of (Idle from until) = until - from
idle_of _ = 0
