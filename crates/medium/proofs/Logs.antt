-- One more call at the end of a list of calls in memory.
use Rattle.std.specs.Prelude.{Bool, true, false, if◌then◌else◌, None, Some, nat_eq}
use Rattle.std.proofs.Common.{◌≡◌, ℕ, ◌+◌, ◌-◌, ◌*◌, ◌<◌, ◌≤◌, List, [], ◌∷◌, ◌++◌, length, drop, refl, ◌∙◌, ap, arith, length-drop}
use Rattle.std.proofs.lemmas.Bool.Decides.{nat_tests}
use Rattle.std.proofs.lemmas.List.{take_all, take-append-le, drop-append-le}
use Rattle.medium.specs.Medium.{Call, CallList, with_call}
use Rattle.medium.specs.Log.{calls_of, size_of}
use Rattle.medium.specs.declared.log.Made.{Made}

-- one more of a size
one_more : (k e : ℕ) → (k + 1) * e ≡ k * e + e
one_more k e = omega arith

-- the words of a room are those of one call less, and one call's
pub room_less : (r e : ℕ) → 0 < r → r * e ≡ (r - 1) * e + e
room_less r e some = let is : r ≡ r - 1 + 1 = omega arith in ap (λ (n : ℕ). n * e) is ∙ one_more (r - 1) e

-- one more call gave so many words more
pub size_of-push : (ms : List Made) (m : Made) → size_of (ms ++ m ∷ []) ≡ size_of ms + m.len
size_of-push [] m = omega arith
size_of-push (n ∷ ms) m = omega (arith, size_of-push ms m)

-- one more head, and its words behind the others, stand for one more call
pub calls_of-push : (ms : List Made) (gs : List ℕ) (m : Made) (ws : List ℕ) → length gs ≡ size_of ms → m.len ≡ length ws
    → calls_of (ms ++ m ∷ []) (gs ++ ws) ≡ calls_of ms gs ++ (record { is_write = m.is_write; at = m.at; failed = m.failed; words = ws }) ∷ []
calls_of-push [] [] m ws size len = ap (λ (l : List ℕ). (record { is_write = m.is_write; at = m.at; failed = m.failed; words = l }) ∷ []) (take_all m.len ws (omega arith))
calls_of-push [] (g ∷ gs) m ws size len = absurd (omega arith)
calls_of-push (n ∷ ms) gs m ws size len =
    let within : n.len ≤ length gs = omega arith in
    let rest : length (drop n.len gs) ≡ size_of ms = simp length-drop (omega arith) in
    let first = take-append-le n.len gs ws within in
    let others = drop-append-le n.len gs ws within in
    let tail = ap (λ (l : List ℕ). calls_of (ms ++ m ∷ []) l) others ∙ calls_of-push ms (drop n.len gs) m ws rest len in
    λ i. record { is_write = n.is_write; at = n.at; failed = n.failed; words = first i } ∷ tail i

-- a test against zero
not_zero : (n : ℕ) → 0 < n → nat_eq n 0 ≡ false
not_zero n some = grind (arith, nat_tests)

-- with room, one more call is told where calls are told
pub told_push : (tells : Bool) (made more : List Call) (room : ℕ) (call : Call) → 0 < room → more ≡ made ++ call ∷ []
    → (if tells then Some (record { made = more; room = room - 1 }) else None) ≡ with_call (if tells then Some (record { made = made; room = room }) else None) call
told_push false made more room call some is = refl
told_push true made more room call some is =
    rw (not_zero room some) (ap (λ (l : List Call). let c : CallList = record { made = l; room = room - 1 } in Some c) is)
