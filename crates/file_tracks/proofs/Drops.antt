-- Files of mode 0 taken out, from the last place on.
use Rattle.std.specs.Prelude.{Bool, true, false, not, filter, nat_eq, if◌then◌else◌, take, drop}
use Rattle.std.specs.List.{remove}
use Rattle.std.proofs.Common.{◌≡◌, ℕ, ◌+◌, ◌<◌, ◌≤◌, List, [], ◌∷◌, ◌++◌, cond, length, get_or, refl, sym, ◌∙◌, ap, arith, append_assoc, length-append}
use Rattle.std.proofs.lemmas.List.{take_more, drop_more, length-take-le}
use Rattle.ctss_types.specs.declared.file.FileBody.{FileBody}
use Rattle.file_model.specs.Files.{lasting}
use Rattle.file_tracks.specs.Stored.{body_on, files_on}
use Rattle.file_tracks.specs.declared.table.Filed.{Filed}

-- whether a file stays
abbrev pub lasts : Filed → Bool
lasts f = not (nat_eq f.mode 0)

kept_if : (contents : List (List ℕ)) (f : Filed) (fs : List Filed) (b : Bool) → files_on contents (filter lasts fs) ≡ lasting (files_on contents fs)
    → files_on contents (cond b (f ∷ filter lasts fs) (filter lasts fs)) ≡ cond b (body_on contents f ∷ lasting (files_on contents fs)) (lasting (files_on contents fs))
kept_if contents f fs true h = ap (λ (xs : List FileBody). body_on contents f ∷ xs) h
kept_if contents f fs false h = h

pub lasting_are : (contents : List (List ℕ)) (fs : List Filed) → files_on contents (filter lasts fs) ≡ lasting (files_on contents fs)
lasting_are contents [] = refl
lasting_are contents (f ∷ fs) = kept_if contents f fs (lasts f) (lasting_are contents fs)

middle_get : (p : List Filed) (x : Filed) (ys : List Filed) (d : Filed) → get_or (p ++ x ∷ ys) (length p) d ≡ x
middle_get [] x ys d = refl
middle_get (y ∷ p) x ys d = middle_get p x ys d

middle_remove : (p : List Filed) (x : Filed) (ys : List Filed) → remove (p ++ x ∷ ys) (length p) ≡ p ++ ys
middle_remove [] x ys = refl
middle_remove (y ∷ p) x ys = ap (λ (zs : List Filed). y ∷ zs) (middle_remove p x ys)

either : (p : List Filed) (x : Filed) (ys : List Filed) (b : Bool) → (if b then p ++ ys else p ++ x ∷ ys) ≡ p ++ cond (not b) (x ∷ ys) ys
either p x ys true = refl
either p x ys false = refl

module _ (fs : List Filed) (at : ℕ) (low : at < length fs) (d : Filed) where
  abbrev p : List Filed
  p = take at fs

  abbrev x : Filed
  x = get_or fs at d

  abbrev ys : List Filed
  ys = filter lasts (drop (at + 1) fs)

  p_long : length p ≡ at
  p_long = length-take-le at fs (omega (arith, low))

  middle : (cur : List Filed) → cur ≡ take (at + 1) fs ++ filter lasts (drop (at + 1) fs) → cur ≡ p ++ x ∷ ys
  middle cur is = is ∙ ap (λ (zs : List Filed). zs ++ ys) (take_more fs at d low) ∙ append_assoc p (x ∷ []) ys

  -- one place on
  pub drop_step : (cur new : List Filed) → cur ≡ take (at + 1) fs ++ filter lasts (drop (at + 1) fs) → new ≡ (if nat_eq (get_or cur at d).mode 0 then remove cur at else cur)
      → new ≡ take at fs ++ filter lasts (drop at fs)
  drop_step cur new is dropped =
      let m = middle cur is in
      let here : get_or cur at d ≡ x = ap (λ (zs : List Filed). get_or zs at d) m ∙ ap (λ (k : ℕ). get_or (p ++ x ∷ ys) k d) (sym p_long) ∙ middle_get p x ys d in
      let gone : remove cur at ≡ p ++ ys = ap (λ (zs : List Filed). remove zs at) m ∙ ap (λ (k : ℕ). remove (p ++ x ∷ ys) k) (sym p_long) ∙ middle_remove p x ys in
      dropped
      ∙ (λ j. if nat_eq (here j).mode 0 then gone j else m j)
      ∙ either p x ys (nat_eq x.mode 0)
      ∙ ap (λ (zs : List Filed). p ++ filter lasts zs) (sym (drop_more fs at d low))

pub place_inside : (fs cur : List Filed) (at : ℕ) → at + 1 ≤ length fs → cur ≡ take (at + 1) fs ++ filter lasts (drop (at + 1) fs) → at < length cur
place_inside fs cur at low is =
    let e = ap length is in
    let a = length-append (take (at + 1) fs) (filter lasts (drop (at + 1) fs)) in
    let l = length-take-le (at + 1) fs low in
    omega (arith, e, a, l)

-- the same for each default
pub drop_cases : (fs : List Filed) (at : ℕ) → at < length fs → (cur new : List Filed) → cur ≡ take (at + 1) fs ++ filter lasts (drop (at + 1) fs)
    → ((d : Filed) → new ≡ (if nat_eq (get_or cur at d).mode 0 then remove cur at else cur)) → new ≡ take at fs ++ filter lasts (drop at fs)
drop_cases [] at low cur new is dropped = absurd (omega (arith, low))
drop_cases (f ∷ fs) at low cur new is dropped = drop_step (f ∷ fs) at low f cur new is (dropped f)

-- at first all stand
pub part_at : (fs : List Filed) → take (length fs) fs ++ filter lasts (drop (length fs) fs) ≡ fs
part_at [] = refl
part_at (f ∷ fs) = ap (λ (zs : List Filed). f ∷ zs) (part_at fs)
