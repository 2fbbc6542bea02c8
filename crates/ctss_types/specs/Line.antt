-- claim: a line of text, and how its characters are kept.
use Rattle.std.specs.Prelude.{◌≡◌, ◌≤◌, ℕ, ◌-◌, true, nat_eq, if◌then◌else◌, List, [], ◌∷◌, codes, ◌++◌, length, replicate, take, drop}
use Rattle.std.specs.List.{list_all}
use Rattle.std.proofs.Common.{sym, ◌∙◌, ap, arith, take-append-drop, length-take}
use Rattle.bcd48.specs.Characters.{is_character}
use Rattle.ctss_types.specs.declared.line.LineFault.{LineFault}
use Rattle.ctss_types.specs.declared.line.LineFault.TheVariants as fault

-- what is said of a text that is no line
abbrev pub line_fault_text : LineFault → List ℕ
line_fault_text fault.TooLong = codes "a line has at most 84 characters"
line_fault_text fault.NotBcd = codes "a character is outside the 48"

-- x before a line from which trailing blanks are gone
abbrev pub before_rest : ℕ → List ℕ → List ℕ
before_rest x [] = if nat_eq x 32 then [] else x ∷ []
before_rest x (y ∷ ys) = x ∷ y ∷ ys

-- the line without its trailing blanks
abbrev pub trimmed : List ℕ → List ℕ
trimmed [] = []
trimmed (x ∷ xs) = before_rest x (trimmed xs)

-- the places behind a line's characters hold zeros
abbrev pub padded : List ℕ → List ℕ
padded xs = xs ++ replicate (84 - length xs) 0

-- the first len of these 84 bytes are characters, and zeros stand behind them
pub record IsLine (bytes : List ℕ) (len : ℕ) : Type 0 where
  pub size : length bytes ≡ 84
  pub most : len ≤ 84
  pub zeros : drop len bytes ≡ replicate (84 - len) 0
  pub characters : list_all is_character (take len bytes) ≡ true

-- a line's bytes and length from what is seen of it
pub padded_ok : (bytes : List ℕ) (len : ℕ) → IsLine bytes len → padded (take len bytes) ≡ bytes
padded_ok bytes len h =
    let full : length bytes ≡ 84 = h.size in
    let small : len ≤ 84 = h.most in
    let size : length (take len bytes) ≡ len = simp length-take (omega arith) in
    ap (λ (n : ℕ). take len bytes ++ replicate (84 - n) 0) size ∙ ap (λ (l : List ℕ). take len bytes ++ l) (sym h.zeros) ∙ take-append-drop len bytes

pub len_ok : (bytes : List ℕ) (len : ℕ) → IsLine bytes len → length (take len bytes) ≡ len
len_ok bytes len h =
    let full : length bytes ≡ 84 = h.size in
    let small : len ≤ 84 = h.most in
    simp length-take (omega arith)
