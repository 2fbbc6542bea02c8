-- What the words of `serve` ask for.
use Rattle.std.proofs.Common.{◌≡◌, ℕ, ◌≤◌, Bool, true, false, ◌&&◌, nat_le, List, [], ◌∷◌, Option, Some, None, codes, refl, sym, arith}
use Rattle.std.specs.Prelude.{if◌then◌else◌, bytes_eq}
use Rattle.std.specs.Option.{option_and_then}
use Rattle.std.proofs.lemmas.Bool.{and_parts}
use Rattle.std.proofs.lemmas.Bool.Decides.{nat_tests}
use Rattle.text_model.specs.declared.mode.Mode.{Mode}
use Rattle.text_model.specs.declared.mode.Mode.TheVariants.{Replay, Dump, Load, Asm, Serve}
use Rattle.text_model.specs.Fields.{number_in, is_within}
use Rattle.ctss_modes.specs.Modes.{turns_asked}
use Rattle.text_model.specs.Words.{mode_of, mode_by, mode_of_words, mode_serving, SortedWords, sorted, NoValue}

at_most : (t : ℕ) → nat_le t 100000 ≡ true → t ≤ 100000
at_most t h = grind (arith, nat_tests)

named : (a b c : Bool) → turns_asked (if a then Some Replay else (if b then Some Dump else (if c then Some Asm else None))) ≤ 100000
named true b c = omega arith
named false true c = omega arith
named false false true = omega arith
named false false false = omega arith

loaded : (b : Bool) (k : ℕ) → turns_asked (if b then Some (Load k) else None) ≤ 100000
loaded true k = omega arith
loaded false k = omega arith

loads : (b : Bool) (n : Option ℕ) → turns_asked (if b then option_and_then (λ k. if nat_le k 999999 then Some (Load k) else None) n else None) ≤ 100000
loads true None = omega arith
loads true (Some k) = loaded (nat_le k 999999) k
loads false n = omega arith

without : (words : List (List ℕ)) → turns_asked (mode_of_words words) ≤ 100000
without [] = omega arith
without (w ∷ []) = named (bytes_eq w (codes "replay")) (bytes_eq w (codes "dump")) (bytes_eq w (codes "asm"))
without (w ∷ n ∷ []) = loads (bytes_eq w (codes "load")) (number_in n)
without (w ∷ n ∷ x ∷ ws) = omega arith

served : (b : Bool) (p t : ℕ) → b ≡ (is_within 1 65535 p && nat_le t 100000) → turns_asked (if b then Some (Serve p t) else None) ≤ 100000
served true p t is = at_most t (and_parts (is_within 1 65535 p) (nat_le t 100000) (sym is)).1
served false p t is = omega arith

serves : (b : Bool) (port turns : Option ℕ)
    → turns_asked (if b then option_and_then (λ p. option_and_then (λ t. if is_within 1 65535 p && nat_le t 100000 then Some (Serve p t) else None) turns) port else None) ≤ 100000
serves true None turns = omega arith
serves true (Some p) None = omega arith
serves true (Some p) (Some t) = served (is_within 1 65535 p && nat_le t 100000) p t refl
serves false port turns = omega arith

with_options : (plain : List (List ℕ)) (port turns : List ℕ) → turns_asked (mode_serving plain port turns) ≤ 100000
with_options [] port turns = omega arith
with_options (w ∷ []) port turns = serves (bytes_eq w (codes "serve")) (number_in port) (number_in turns)
with_options (w ∷ x ∷ ws) port turns = omega arith

by_lists : (plain ports turns : List (List ℕ)) → turns_asked (mode_by plain ports turns) ≤ 100000
by_lists plain [] [] = without plain
by_lists plain [] (t ∷ ts) = omega arith
by_lists plain (p ∷ []) [] = omega arith
by_lists plain (p ∷ []) (t ∷ []) = with_options plain p t
by_lists plain (p ∷ []) (t ∷ u ∷ ts) = omega arith
by_lists plain (p ∷ q ∷ ps) ts = omega arith

by_sorted : (s : Option SortedWords) → turns_asked (option_and_then (λ (w : SortedWords). mode_by w.plain w.ports w.turns) s) ≤ 100000
by_sorted None = omega arith
by_sorted (Some s) = by_lists s.plain s.ports s.turns

-- the words never ask for more than 100,000 turns
pub few_turns : (words : List (List ℕ)) → turns_asked (mode_of words) ≤ 100000
few_turns words = by_sorted (sorted NoValue words)
