-- The calls of the drum that a load makes.
use Rattle.std.proofs.Common.{◌≡◌, ℕ, zero, suc, ◌+◌, ◌≤◌, Bool, List, [], ◌∷◌, length, refl, sym, ap, ◌∙◌, arith}
use Rattle.std.specs.Prelude.{Result, Ok, Err, Option, None, Some, ◌&&◌}
use Rattle.std.specs.Option.{is_some}
use Rattle.std.proofs.lemmas.Grind.{common_steps}
use Rattle.medium.specs.Medium.{Call}
use Rattle.onion_swap.specs.declared.Plan.{Plan}
use Rattle.drum_slots.specs.declared.slots.Slots.{Slots}
use Rattle.onion_swap.specs.Places.{Layout}
use Rattle.image_map.specs.Images.{image_in}
use Rattle.image_map.specs.Loads.{count_writes, count_reads}
use Rattle.image_map.specs.State as images
use Rattle.image_map.specs.State.{ImageState, calls_of}
use Rattle.ctss_types.specs.declared.file.FileBody.{FileBody}
use Rattle.track_directories.specs.Directories.{DirectoriesState}
use Rattle.user_session.specs.Stores.{stored}
use Rattle.user_cores.specs.Backing.{Loads, back_of, stores_of}
use Rattle.user_cores.specs.Words.{words_of}
use Rattle.user_cores.specs.Usable.{words_in}

-- each call is a write or a read
length-calls : (cs : List Call) → length cs ≡ count_writes cs + count_reads cs
length-calls [] = refl
length-calls (c ∷ cs) = grind (arith, common_steps, length-calls cs)

-- an image is told where the drum tells its records
image_told : (bank : List ℕ) (contents : Option (List (List ℕ))) (at : Layout) (slots : Slots) (sizes : List ℕ) (u : ℕ) → is_some (image_in bank contents at slots sizes u) ≡ is_some contents
image_told bank None at slots sizes u = refl
image_told bank (Some contents) at slots sizes u = refl

-- the stores of all, where the words of all stay
stores_same : (words words' : ℕ → List ℕ) (own : ℕ → List FileBody) (common : List FileBody) → ((u : ℕ) → 1 ≤ u → words' u ≡ words u) → (u : ℕ) → stores_of words' own common u ≡ stores_of words own common u
stores_same words words' own common same zero = refl
stores_same words words' own common same (suc u) = ap (λ (ws : List ℕ). stored ws (own (suc u))) (same (suc u) (omega arith))

-- a load of a user, as cores beside directories show it
pub loads_shown : {E : Type 0} (result : Result Plan E) (u : ℕ) (s s' : ImageState) (d : DirectoriesState) → images.Loads u result s s' → Loads u result (back_of s d) (back_of s' d)
loads_shown (Ok plan) u s s' d loads =
    let told : is_some s'.drum.contents ≡ is_some s.drum.contents =
    sym (image_told s'.words s'.drum.contents s'.layout s'.slots s'.sizes 1) ∙ ap is_some (loads.done.images 1 (omega arith)) ∙ image_told s.words s.drum.contents s.layout s.slots s.sizes 1 in
    record {
      rules = record { quotas = (λ j. (loads.keeps.quotas j).items); common = refl; tracks = λ v. refl; users = refl };
      sizes = loads.keeps.sizes;
      faults = loads.keeps.faults;
      disk = refl;
      done = record {
        stores = stores_same (words_in s) (words_in s') d.own d.common (λ v some. ap words_of (loads.done.images v some));
        tells = ap (λ (b : Bool). b && d.tells) told;
        places = loads.done.places;
        dumped = loads.done.dumped;
        read = loads.done.read;
        fresh = loads.done.fresh;
        calls = record { calls = calls_of s s' u; made = loads.done.calls; writes_are = loads.keeps.writes_are ∙ sym loads.done.dumped; reads_are = loads.keeps.reads_are ∙ sym loads.done.read };
      };
      fails = loads.fails;
    }
loads_shown (Err e) u s s' d loads =
    record {
      rules = record { quotas = (λ j. (loads.keeps.quotas j).items); common = refl; tracks = λ v. refl; users = refl };
      sizes = loads.keeps.sizes;
      faults = loads.keeps.faults;
      disk = refl;
      done = tt;
      fails = record {
        calls = record {
          calls = calls_of s s' u;
          at = loads.fails.calls.0;
          within = loads.fails.calls.1.0;
          few = length-calls (calls_of s s' u) ∙ (λ j. loads.keeps.writes_are j + loads.keeps.reads_are j);
          made = loads.fails.calls.1.1;
        };
        cause = loads.fails.cause;
      };
    }
