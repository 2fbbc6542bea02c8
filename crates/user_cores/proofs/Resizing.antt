-- A user gets another size, or goes.
use Rattle.std.specs.Prelude.{◌&&◌}
use Rattle.std.specs.Option.{is_some}
use Rattle.std.proofs.Common.{◌≡◌, ◌≢◌, ℕ, zero, suc, ◌≤◌, true, List, [], refl, sym, ◌∙◌, ap, subst, arith}
use Rattle.image_map.specs.State as images
use Rattle.core_bank.specs.Bank.{AreWords}
use Rattle.drum_slots.specs.Kept.{ServesSlots}
use Rattle.drum_slots.specs.Table.{records_of}
use Rattle.image_map.specs.State.{ImageState, DrumState, IsUsable, image}
use Rattle.track_directories.specs.Directories.{DirectoriesState, Drops}
use Rattle.user_model.specs.Inner.{Stored, recut, zeros}
use Rattle.user_model.specs.User.{hung}
use Rattle.user_session.specs.Stores.{stored}
use Rattle.user_cores.specs.Backing.{HangsUp, LeavesRest, Replaces, Resizes, back_of, stores_of}
use Rattle.user_cores.specs.Usable.{IsWhole, words_in}
use Rattle.user_cores.specs.Words.{words_of}
use Rattle.user_cores.proofs.Images.{words_resized, words_replaced, whole_resized, whole_replaced}
use Rattle.user_cores.proofs.Working.{drum_told, store_at}

module _ (user : ℕ) (pos : 1 ≤ user) (s t : ImageState) where
  -- all that stays, beside directories that stay
  rest_same : (d : DirectoriesState) → t.drum ≡ s.drum → t.slots.quotas ≡ s.slots.quotas → ((u : ℕ) → 1 ≤ u → u ≢ user → image t u ≡ image s u) → LeavesRest 0 user (back_of s d) (back_of t d)
  rest_same d drum quotas images =
      record {
        rules = record { quotas = λ j. (quotas j).items; common = refl; tracks = λ u. refl; users = refl };
        others = other;
        tells = ap (λ (r : DrumState). is_some r.contents && d.tells) drum;
        calls = ap (λ (r : DrumState). r.calls) drum;
        faults = ap (λ (r : DrumState). r.faults) drum;
      }
    where
      other : (u : ℕ) → 0 ≤ u → u ≢ user → stores_of (words_in t) d.own d.common u ≡ stores_of (words_in s) d.own d.common u
      other zero low them = refl
      other (suc u) low them = λ j. stored (words_of (images (suc u) (omega arith) them j)) (d.own (suc u))

  -- and beside directories of which this user's may have changed
  rest_left : (d e : DirectoriesState) → t.drum ≡ s.drum → t.slots.quotas ≡ s.slots.quotas → ((u : ℕ) → 1 ≤ u → u ≢ user → image t u ≡ image s u) → Drops user d e → LeavesRest 0 user (back_of s d) (back_of t e)
  rest_left d e drum quotas images drops =
      record {
        rules = record { quotas = λ j. (quotas j).items; common = drops.users.common; tracks = drops.users.may; users = drops.users.count };
        others = other;
        tells = λ j. is_some (drum j).contents && drops.rest.tells j;
        calls = ap (λ (r : DrumState). r.calls) drum;
        faults = ap (λ (r : DrumState). r.faults) drum;
      }
    where
      other : (u : ℕ) → 0 ≤ u → u ≢ user → stores_of (words_in t) e.own e.common u ≡ stores_of (words_in s) d.own d.common u
      other zero low them = ap (stored []) drops.rest.common
      other (suc u) low them = λ j. stored (words_of (images (suc u) (omega arith) them j)) (drops.rest.others (suc u) (omega arith) them j)

  pub resized_shown : (blocks : ℕ) (d : DirectoriesState) → IsWhole s → images.Resizes user blocks s t → Resizes user blocks (back_of s d) (back_of t d)
  resized_shown blocks d whole done =
      record {
        rest = rest_same d done.drum done.quotas done.others;
        disk = refl;
        mine = λ told.
            store_at (words_in t) d.own d.common user pos
            ∙ ap (λ (ws : List ℕ). stored ws (d.own user)) (words_resized s.words s.drum.contents s.layout s.slots s.sizes user blocks (image t user) done.mine (whole.whole user pos) (drum_told _ _ told))
            ∙ ap (λ (x : Stored). record x { core = recut blocks x.core }) (sym (store_at (words_in s) d.own d.common user pos));
        sizes = done.sizes;
        places = done.places;
      }

  pub replaced_shown : (blocks : ℕ) (d : DirectoriesState) → images.Replaces user blocks s t → Replaces user blocks (back_of s d) (back_of t d)
  replaced_shown blocks d done =
      record {
        rest = rest_same d done.drum done.quotas done.others;
        disk = refl;
        mine = λ told.
            store_at (words_in t) d.own d.common user pos
            ∙ ap (λ (ws : List ℕ). stored ws (d.own user)) (words_replaced s.words s.drum.contents s.layout s.slots s.sizes user blocks (image t user) done.mine (drum_told _ _ told))
            ∙ ap (λ (x : Stored). record x { core = zeros blocks }) (sym (store_at (words_in s) d.own d.common user pos));
        sizes = done.sizes;
        places = done.places;
      }

  pub hung_shown : (d e : DirectoriesState) → images.Replaces user 0 s t → Drops user d e → HangsUp user (back_of s d) (back_of t e)
  hung_shown d e done drops =
      record {
        rest = rest_left d e done.drum done.quotas done.others drops;
        disk = drops.faults;
        mine = λ told.
            let gone = words_replaced s.words s.drum.contents s.layout s.slots s.sizes user 0 (image t user) done.mine (drum_told _ _ told) in
            store_at (words_in t) e.own e.common user pos
            ∙ (λ j. stored (gone j) (drops.mine j))
            ∙ ap hung (sym (store_at (words_in s) d.own d.common user pos));
        sizes = done.sizes;
        places = done.places;
      }

  -- each block of a user has 256 words as before

  usable_kept : IsUsable s → t.drum ≡ s.drum → t.words ≡ s.words → t.failed ≡ s.failed → records_of t.slots ≡ records_of s.slots → IsUsable t
  usable_kept usable drum words failed records =
      record {
        going = failed ∙ usable.going;
        words = subst AreWords (sym words) usable.words;
        serves =
            subst (λ (d : DrumState). ServesSlots d.contents d.count d.each (records_of t.slots)) (sym drum)
            (subst (ServesSlots s.drum.contents s.drum.count s.drum.each) (sym records) usable.serves);
      }

  pub resized_whole : (blocks : ℕ) → IsWhole s → images.Resizes user blocks s t → IsWhole t
  resized_whole blocks whole done =
      record {
        usable = usable_kept whole.usable done.drum done.words done.failed done.records;
        whole = whole_resized s.words t.words s.drum.contents t.drum.contents s.layout t.layout s.slots t.slots s.sizes t.sizes user blocks done.mine done.others whole.whole;
      }

  pub replaced_whole : (blocks : ℕ) → IsWhole s → images.Replaces user blocks s t → IsWhole t
  replaced_whole blocks whole done =
      record {
        usable = usable_kept whole.usable done.drum done.words done.failed done.records;
        whole = whole_replaced s.words t.words s.drum.contents t.drum.contents s.layout t.layout s.slots t.slots s.sizes t.sizes user blocks done.mine done.others whole.whole;
      }
