-- Lines written, as items.
use Rattle.std.proofs.Common.{◌≡◌, ◌≤◌, ℕ, zero, suc, List, [], ◌∷◌, ◌++◌, length, map, take, arith, append_assoc, refl, ap, true, not, nat_eq}
use Rattle.time_sharing.specs.Machine.{Line, Item, In, Out}
use Rattle.time_sharing.specs.Rows.{out_all, some_line}

pub out_whole : (n : ℕ) (lines : List Line) → length lines ≤ n → map Out (take n lines) ≡ out_all lines
out_whole zero [] h = refl
out_whole (suc n) [] h = refl
out_whole zero (l ∷ lines) h = absurd (omega (arith, h))
out_whole (suc n) (l ∷ lines) h = ap (λ (items : List Item). Out l ∷ items) (out_whole n lines (omega (arith, h)))

out_behind : (lines : List Line) (l : Line) → out_all (lines ++ l ∷ []) ≡ out_all lines ++ Out l ∷ []
out_behind [] l = refl
out_behind (x ∷ lines) l = ap (λ (items : List Item). Out x ∷ items) (out_behind lines l)

pub command_lines : (old one two three new : List Item) (l t r : Line) (lines : List Line) → one ≡ old ++ In l ∷ [] → two ≡ one ++ Out t ∷ [] → three ≡ two ++ out_all lines → new ≡ three ++ Out r ∷ []
    → new ≡ old ++ In l ∷ Out t ∷ out_all (lines ++ r ∷ [])
command_lines old one two three new l t r lines a b c d = rw (out_behind lines r, d, c, b, a) (simp append_assoc)

-- a line stands before others
pub unread_some : (xs ys : List Line) → not (nat_eq (length xs) 0) ≡ true → some_line (xs ++ ys) ≡ true
unread_some [] ys h = cc
unread_some (x ∷ xs) ys h = refl
