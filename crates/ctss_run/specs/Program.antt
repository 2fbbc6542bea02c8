-- claim: what the program answers, over a drum and a disk of its own.
use Rattle.std.specs.Prelude.{◌≡◌, ℕ, true, List, [], ◌∷◌, Option, None, Some, replicate}
use Rattle.ctss_io.specs.declared.outside.Source.{Ghosts as InputGhosts}
use Rattle.ctss_io.specs.declared.outside.Sink.{Ghosts as OutputGhosts}
use Rattle.console_link.specs.Links.{LinkSeen}
use Rattle.live_run.specs.Media.{MediaSeen}
use Rattle.ctss_modes.specs.declared.outcome.Outcome.{Outcome}
use Rattle.ctss_modes.specs.Outcomes.{IsOneOf}
use Rattle.ctss_modes.specs.Devices.{InputSeen, input_seen, OutputSeen, output_seen, DevicesSeen, devices}
use Rattle.ctss_modes.specs.Answer.{Answers}
use Rattle.command_line.specs.Explained.{explained}
use Rattle.command_line.specs.Said.{Says}

-- what is seen of what the program is handed
pub record HandedSeen : Type 0 where
  pub input : InputSeen
  pub output : OutputSeen
  pub errors : OutputSeen
  pub link : LinkSeen

abbrev pub handed : {S K E : Type 0} → InputGhosts S → OutputGhosts K → OutputGhosts E → S → K → E → LinkSeen → HandedSeen
handed s k e input output errors link =
    record { input = input_seen s input; output = output_seen k output; errors = output_seen e errors; link = link }

-- A drum and a disk that tell what they hold and never fail; these are the disk's records. No list is kept of their calls.
abbrev pub own_media : List (List ℕ) → MediaSeen
own_media contents = record { tells = true; disk_contents = Some contents; drum_calls = None; disk_calls = None; drum_faults = 0; disk_faults = 0 }

abbrev pub with_media : HandedSeen → List (List ℕ) → DevicesSeen
with_media seen contents = devices seen.input seen.output (own_media contents) seen.link

-- the disk at first
abbrev pub blank : List (List ℕ)
blank = replicate 10000 (replicate 432 0)

-- The status is that of an answer of the top call over this drum and this disk; it never says that one of them failed. What it means is said
-- in words.
pub record IsAnswered (words : List (List ℕ)) (old new : HandedSeen) (status : ℕ) : Type 0 where
  pub outcome : Outcome
  pub contents : List (List ℕ)
  pub answers : Answers words (with_media old blank) (with_media new contents) outcome
  pub status_is : status ≡ outcome.status
  pub said : Says (explained status outcome.card outcome.cause) old.errors.held new.errors.held old.errors.faults new.errors.faults
  pub unfailed : IsOneOf status (0 ∷ 1 ∷ 2 ∷ 3 ∷ 4 ∷ 7 ∷ 8 ∷ 9 ∷ [])
