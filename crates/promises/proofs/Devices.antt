-- What the top call sees of objects in memory.
use Rattle.std.proofs.Common.{◌≡◌, ℕ, true, ◌&&◌, List, [], ◌++◌, Some, sym, ap, ◌∙◌, subst, append-nil}
use Rattle.std.specs.Option.{is_some}
use Rattle.ctss_io.specs.Memory.{SourceState, SinkState}
use Rattle.ctss_io.specs.Outside.{prepended, after, IsAtEnd}
use Rattle.medium.specs.MediumState.{rows_told}
use Rattle.medium.specs.Rows.{told_rows}
use Rattle.console_link.specs.Memory.{memory_seen}
use Rattle.live_run.specs.Media.{MediaSeen}
use Rattle.ctss_modes.specs.Devices.{DevicesSeen}
use Rattle.promises.specs.Machines.{IsReady}
use Rattle.promises.specs.Sentences.{IsUntouched}
use Rattle.promises.specs.declared.machine.Machine.{Machine}

abbrev pub media_of : Machine → MediaSeen
media_of m =
    record {
      tells = is_some (rows_told m.drum) && is_some (rows_told m.disk);
      disk_contents = rows_told m.disk;
      drum_calls = m.drum.calls;
      disk_calls = m.disk.calls;
      drum_faults = m.drum.fault_count;
      disk_faults = m.disk.fault_count;
    }

abbrev pub seen : SourceState → SinkState → Machine → DevicesSeen
seen input output m =
    record {
      input = record { left = Some input.left; faults = input.faults };
      output = record { held = Some output.held; faults = output.faults };
      media = media_of m;
      link = memory_seen m.link;
    }

-- a source and a sink as they are made
abbrev pub source : (bytes fails : List ℕ) → SourceState
source bytes fails = record { left = bytes; piece = 4096; fails = fails; calls = 0; faults = 0 }

abbrev pub sink : (room : ℕ) → (fails : List ℕ) → SinkState
sink room fails = record { held = []; room = room; piece = 4096; fails = fails; calls = 0; faults = 0 }

-- the records of both are observable
pub shows : (m : Machine) → IsReady m → (media_of m).tells ≡ true
shows m ready =
    ap (λ d. is_some (told_rows d m.drum.contents) && is_some (rows_told m.disk)) ready.drum_shows
    ∙ ap (λ d. is_some (told_rows d m.disk.contents)) ready.disk_shows

-- all bytes were read
pub all_read : (bytes came rest : List ℕ) → Some bytes ≡ prepended came (Some rest) → IsAtEnd (Some rest) → came ≡ bytes
all_read bytes came rest e end = sym (inside e ∙ ap (λ r. came ++ r) end ∙ append-nil came)
  where
    inside : Some bytes ≡ Some (came ++ rest) → bytes ≡ came ++ rest
    inside e = cc

-- what was written, to a sink that held nothing
pub written : (held text : List ℕ) → Some held ≡ after (Some []) text → held ≡ text
written held text e = inside e
  where
    inside : Some held ≡ Some text → held ≡ text
    inside e = cc

pub nothing_written : (held : List ℕ) → Some held ≡ Some [] → held ≡ []
nothing_written held e = cc

pub untouched : (old new : Machine) → media_of new ≡ media_of old → memory_seen new.link ≡ memory_seen old.link → IsUntouched old new
untouched old new media link =
    record {
      disk = ap (λ (m : MediaSeen). m.disk_contents) media;
      drum_calls = ap (λ (m : MediaSeen). m.drum_calls) media;
      disk_calls = ap (λ (m : MediaSeen). m.disk_calls) media;
      link = link;
    }

-- what holds of the source and the sink that were made holds of those that they are
pub of_made : (input i : SourceState) (output o : SinkState) (P : SourceState → SinkState → Type 0) → input ≡ i → output ≡ o → P input output → P i o
of_made input i output o P in_is out_is h = subst (λ (x : SinkState). P i x) out_is (subst (λ (x : SourceState). P x output) in_is h)
