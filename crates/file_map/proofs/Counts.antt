-- Tracks in use after a change.
use Rattle.std.proofs.Common.{◌≡◌, ℕ, ◌+◌, ◌-◌, ◌≤◌, ◌<◌, List, filter, not, Some, sym, ap, ◌∙◌, arith}
use Rattle.ctss_types.specs.Names.{NamePair}
use Rattle.ctss_types.specs.declared.file.FileBody.{FileBody}
use Rattle.file_model.specs.Files.{is_named, file_named, with_change, tracks_of}
use Rattle.file_map.specs.Directory.{NamesDiffer, IsCounted}
use Rattle.file_map.proofs.Tracks.{tracks_for, within, tracks_changed, tracks_stay, tracks_gone}

less : (a b used t g : ℕ) → used ≡ b → t ≡ g → a + g ≡ b → used - t ≡ a
less a b used t g e i f = omega arith

exchanged : (a b h k used now s t : ℕ) → used ≡ b → a + h ≡ b + k → s ≡ h → t ≡ k → now + s ≡ used + t → now ≡ a
exchanged a b h k used now s t e f i j g = omega arith

no_more : (used t quota : ℕ) → used ≤ quota → used - t ≤ quota
no_more used t quota h = omega arith

module _ (name : NamePair) (files : List FileBody) (quota used : ℕ) (counted : IsCounted files quota used) where
  pub within_used : (f : FileBody) (t : ℕ) → file_named name files ≡ Some f → t ≡ tracks_for f → t ≤ used
  within_used f t h is = at_most _ _ _ _ is (within name files f h) counted.count
    where
      at_most : (t g n used : ℕ) → t ≡ g → g ≤ n → used ≡ n → t ≤ used
      at_most t g n used e h f = omega arith

  pub counted_gone : (f : FileBody) (t : ℕ) (after : List FileBody) → NamesDiffer files → file_named name files ≡ Some f → t ≡ tracks_for f
      → after ≡ filter (λ f. not (is_named name f)) files → IsCounted after quota (used - t)
  counted_gone f t after d h tracks is = record {
    count = less _ _ _ _ _ counted.count tracks (tracks_gone name files f d h) ∙ ap tracks_of (sym is);
    most = no_more _ _ _ counted.most;
  }

  pub counted_changed : (change : FileBody → FileBody) (f : FileBody) (s t : ℕ) (after : List FileBody) (now : ℕ) → NamesDiffer files → file_named name files ≡ Some f
      → s ≡ tracks_for f → t ≡ tracks_for (change f) → after ≡ with_change name change files → (now + s ≡ used + t) × (now ≤ quota) → IsCounted after quota now
  counted_changed change f s t after now d h i j is sums = record {
    count = exchanged _ _ _ _ _ _ _ _ counted.count (tracks_changed name change files f d h) i j sums.0 ∙ ap tracks_of (sym is);
    most = sums.1;
  }

  -- tracks that would pass the quota
  pub too_many : (change : FileBody → FileBody) (f : FileBody) (s t : ℕ) → NamesDiffer files → file_named name files ≡ Some f
      → s ≡ tracks_for f → t ≡ tracks_for (change f) → quota + s < used + t → quota < tracks_of (with_change name change files)
  too_many change f s t d h i j lt = more _ _ _ _ _ _ _ _ counted.count (tracks_changed name change files f d h) i j lt
    where
      more : (a b h k used quota s t : ℕ) → used ≡ b → a + h ≡ b + k → s ≡ h → t ≡ k → quota + s < used + t → quota < a
      more a b h k used quota s t e f i j lt = omega arith

  pub counted_kept : (change : FileBody → FileBody) (after : List FileBody) → ((f : FileBody) → tracks_for (change f) ≡ tracks_for f)
      → after ≡ with_change name change files → IsCounted after quota used
  counted_kept change after same is = record {
    count = counted.count ∙ sym (tracks_stay name change same files) ∙ ap tracks_of (sym is);
    most = counted.most;
  }
