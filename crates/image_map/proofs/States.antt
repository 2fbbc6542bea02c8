-- What a state goes through in two calls.
use Rattle.std.specs.Prelude.{List, [], ◌∷◌, slice_set, length, zero, suc}
use Rattle.std.proofs.Common.{◌≡◌, ℕ, ◌<◌, refl, ◌∙◌, ap}
use Rattle.std.proofs.lemmas.List.{get_or-set_same}
use Rattle.plan_model.specs.Loads.{Places, given_up}
use Rattle.image_map.specs.Images.{resized, size_of}
use Rattle.image_map.specs.State.{ImageState, size, places_in, Resizes, Replaces}
use Rattle.image_map.proofs.Loaded.{given_up_twice}

set_twice : (l : List ℕ) (i x y : ℕ) → slice_set (slice_set l i x) i y ≡ slice_set l i y
set_twice [] i x y = refl
set_twice (z ∷ l) zero x y = refl
set_twice (z ∷ l) (suc i) x y = ap (λ (t : List ℕ). z ∷ t) (set_twice l i x y)

-- an image that is cut to nothing and then extended is a new one
pub resized_twice : (u m : ℕ) (a b c : ImageState) → u < length a.sizes → Resizes u 0 a b → Resizes u m b c → Replaces u m a c
resized_twice u m a b c user one two =
    let none : size b u ≡ 0 = ap (λ (l : List ℕ). size_of l u) one.sizes ∙ get_or-set_same a.sizes u 0 0 user in
    record {
      drum = two.drum ∙ one.drum;
      words = two.words ∙ one.words;
      failed = two.failed ∙ one.failed;
      quotas = two.quotas ∙ one.quotas;
      records = two.records ∙ one.records;
      sizes = two.sizes ∙ ap (λ (l : List ℕ). slice_set l u m) one.sizes ∙ set_twice a.sizes u 0 m;
      places = two.places ∙ ap (λ (p : Places). given_up p u m) one.places ∙ given_up_twice (places_in a) u m;
      mine = two.mine ∙ (λ j. resized (none j) m (one.mine j));
      others = λ v some them. two.others v some them ∙ one.others v some them;
    }
