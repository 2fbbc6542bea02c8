-- claim: what is seen of the input, the output, drum and disk, and the link at one moment.
use Rattle.std.specs.Prelude.{ℕ, ◌+◌, ◌-◌, ◌^◌, ◌<◌, min, List, Option}
use Rattle.medium.specs.declared.medium.Medium.{Ghosts as MediumGhosts}
use Rattle.ctss_io.specs.declared.outside.Source.{Ghosts as InputGhosts}
use Rattle.ctss_io.specs.declared.outside.Sink.{Ghosts as OutputGhosts}
use Rattle.console_link.specs.Links.{LinkSeen}
use Rattle.live_run.specs.Media.{MediaSeen, media_seen}

-- a count of failed calls has not risen: it is below what one more failed call makes of it
abbrev pub Stands : ℕ → ℕ → Type 0
Stands before now = now < min (before + 1) (2 ^ 64 - 1)

-- the bytes that are left, where told, and how often a read failed
pub record InputSeen : Type 0 where
  pub left : Option (List ℕ)
  pub faults : ℕ

-- the bytes that came, where told, and how often a write failed
pub record OutputSeen : Type 0 where
  pub held : Option (List ℕ)
  pub faults : ℕ

pub record DevicesSeen : Type 0 where
  pub input : InputSeen
  pub output : OutputSeen
  pub media : MediaSeen
  pub link : LinkSeen

abbrev pub input_seen : {S : Type 0} → InputGhosts S → S → InputSeen
input_seen g input = record { left = g.left input; faults = g.faults input }

abbrev pub output_seen : {K : Type 0} → OutputGhosts K → K → OutputSeen
output_seen g output = record { held = g.held output; faults = g.faults output }

abbrev pub devices : InputSeen → OutputSeen → MediaSeen → LinkSeen → DevicesSeen
devices input output media link = record { input = input; output = output; media = media; link = link }

abbrev pub devices_seen : {S K D F : Type 0} → InputGhosts S → OutputGhosts K → MediumGhosts D → MediumGhosts F → S → K → D → F → LinkSeen → DevicesSeen
devices_seen s k d f input output drum disk link = devices (input_seen s input) (output_seen k output) (media_seen d f drum disk) link
