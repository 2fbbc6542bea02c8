-- A run after the calls of turns, and what it counts.
use Rattle.std.proofs.Common.{◌≡◌, ℕ, suc, ◌+◌, ◌*◌, ◌≤◌, List, [], ◌∷◌, ◌++◌, map, Option, None, refl, sym, ap, ◌∙◌, arith}
use Rattle.medium.specs.Medium.{CallList}
use Rattle.ctss_types.specs.declared.script.Timed.{Timed}
use Rattle.image_map.specs.Loads.{with_calls, cut}
use Rattle.image_map.proofs.Calls.{with_calls-append}
use Rattle.time_sharing.specs.System.{Entry}
use Rattle.live_core.specs.Core.{CoreCall, Took, Went}
use Rattle.supervisor.specs.Counts.{IsCounted, IsCountedToLoad}
use Rattle.user_cores.specs.Backing.{BackState}
use Rattle.supervisor.specs.Whole.{Whole}
use Rattle.supervisor.proofs.Counting.{counted_on}
use Rattle.live_run.specs.Calls.{Follows}
use Rattle.live_run.specs.Parts.{all_events, calls_of}
use Rattle.console_server.specs.History.{heard_in, events_in}
use Rattle.live_serve.specs.Live.{parts_from}

-- what a core hears in turns are the calls of these parts
pub heard_are : (n : ℕ) (given : List (List Timed)) → heard_in n given ≡ calls_of (parts_from n given)
heard_are n [] = refl
heard_are n (es ∷ rest) = ap (λ (l : List CoreCall). map Took es ++ Went (1000 * (n + 1)) None ∷ l) (heard_are (suc n) rest)

pub events_are : (n : ℕ) (given : List (List Timed)) → all_events (parts_from n given) ≡ events_in given
events_are n [] = refl
events_are n (es ∷ rest) = ap (λ (l : List Timed). es ++ l) (events_are (suc n) rest)

pub follows_apart : (first second : List CoreCall) (a c : Whole) → Follows (first ++ second) a c → (b : Whole) × Follows first a b × Follows second b c
follows_apart [] second a c h = (a, refl, h)
follows_apart (call ∷ first) second a c h =
    let rest = follows_apart first second h.0 c h.2 in
    (rest.0, (h.0, h.1, rest.1), rest.2)

-- loads, and then one that was cut off
pub counted_then_cut : (es fs gs : List Entry) (a b c : Option CallList) (most : ℕ) → IsCounted es fs a b → IsCountedToLoad fs gs b c most → IsCountedToLoad es gs a c most
counted_then_cut es fs gs a b c most one two =
    let loads : IsCounted es gs a (with_calls b two.calls) = counted_on es fs gs a b (with_calls b two.calls) one (record { calls = two.calls; made = refl; writes = two.writes; reads = two.reads }) in
    record {
      calls = loads.calls;
      load = two.load;
      at = two.at;
      within = two.within;
      few = two.few;
      made =
          two.made
          ∙ with_calls-append b two.calls (cut two.load two.at)
          ∙ ap (λ (o : Option CallList). with_calls o (cut two.load two.at)) loads.made
          ∙ sym (with_calls-append a loads.calls (cut two.load two.at));
      writes = loads.writes;
      reads = loads.reads;
    }

-- the disk's count of faults never falls
pub disk_rises : (calls : List CoreCall) (a b : Whole) → Follows calls a b → a.back.disk_faults ≤ b.back.disk_faults
disk_rises [] a b h = let same = ap (λ (w : Whole). w.back.disk_faults) h in omega (arith, same)
disk_rises (Took e ∷ calls) a b h = let same = ap (λ (k : BackState). k.disk_faults) h.1.back in let more = disk_rises calls h.0 b h.2 in omega (arith, same, more)
disk_rises (Went limit fault ∷ calls) a b h = let one = h.1.disk in let more = disk_rises calls h.0 b h.2 in omega (arith, one, more)
