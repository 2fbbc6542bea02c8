-- The files of users, beside the words of their programs.
use Rattle.std.proofs.Common.{◌≡◌, ℕ, zero, suc, List, ◌∷◌, refl, ap}
use Rattle.ctss_types.specs.declared.file.FileBody.{FileBody}
use Rattle.track_directories.specs.Directories.{lists_from}
use Rattle.user_cores.specs.Backing.{stores_of}

pub lists_same : (k n : ℕ) (words : ℕ → List ℕ) (own : ℕ → List FileBody) (common : List FileBody) → lists_from (suc k) n own ≡ lists_from (suc k) n (λ u. (stores_of words own common u).files)
lists_same k zero words own common = refl
lists_same k (suc n) words own common = ap (λ (fs : List (List FileBody)). own (suc k) ∷ fs) (lists_same (suc k) n words own common)
