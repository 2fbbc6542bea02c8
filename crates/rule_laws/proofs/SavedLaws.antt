-- A program that was saved and is resumed is the program.
use Rattle.std.proofs.Common.{◌≡◌, ℕ, suc, ◌+◌, ◌*◌, ◌/◌, ◌%◌, ◌^◌, ◌<◌, ◌≤◌, Bool, true, false, nat_le, List, [], ◌∷◌, ◌++◌, length, map, slice_index, slice_set, Ok, refl, sym, ap, ◌∙◌, append_assoc, length-append, arith}
use Rattle.std.proofs.lemmas.Bool.Decides.{nat_tests}
use Rattle.word36.specs.Bits.{acc_word, is_minus, address_of}
use Rattle.ctss_types.specs.Names.{NamePair}
use Rattle.cpu_regs.specs.Index.{index_at}
use Rattle.cpu_regs.specs.declared.regs.Regs.{Regs}
use Rattle.program_model.specs.declared.Fill.TheVariants.{Saved}
use Rattle.program_model.specs.Lines.{with_words}
use Rattle.program_model.specs.Saved.{tags, bit, is_odd, is_saved, acc_in, saved, saved_in}
use Rattle.program_model.specs.Fills.{filled_regs}
use Rattle.rule_laws.specs.SavedPrograms.{AreRegisters, SavedIsBack}

acc_of : (negative : Bool) (m : ℕ) → m < 2 ^ 37 → acc_in (acc_word (record { negative = negative; magnitude = m })) (m / 2 ^ 35) ≡ record { negative = negative; magnitude = m }
acc_of true m h =
    let s : is_minus (2 ^ 35 + m % 2 ^ 35) ≡ true = grind (arith, nat_tests) in
    let e : m / 2 ^ 35 % 4 * 2 ^ 35 + (2 ^ 35 + m % 2 ^ 35) % 2 ^ 35 ≡ m = omega (arith, h) in
    rw (s, e) refl
acc_of false m h =
    let s : is_minus (0 + m % 2 ^ 35) ≡ false = grind (arith, nat_tests) in
    let e : m / 2 ^ 35 % 4 * 2 ^ 35 + (0 + m % 2 ^ 35) % 2 ^ 35 ≡ m = omega (arith, h) in
    rw (s, e) refl

over_back : (d o : Bool) → is_odd (2 * bit d + bit o) ≡ o
over_back true true = refl
over_back true false = refl
over_back false true = refl
over_back false false = refl

check_back : (d o : Bool) → is_odd ((2 * bit d + bit o) / 2) ≡ d
check_back true true = refl
check_back true false = refl
check_back false true = refl
check_back false false = refl

address_back : (n : ℕ) → n < 2 ^ 15 → address_of n ≡ n
address_back n h = omega (arith, h)

indexes_back : (xs : List ℕ) → length xs ≡ 7 → ((k : ℕ) → slice_index xs k < 2 ^ 15) → map (λ tag. address_of (index_at xs tag)) tags ≡ xs
indexes_back (a ∷ b ∷ c ∷ d ∷ e ∷ f ∷ g ∷ []) n h =
    rw (address_back a (h 0), address_back b (h 1), address_back c (h 2), address_back d (h 3), address_back e (h 4), address_back f (h 5), address_back g (h 6)) refl
indexes_back [] n h = absurd (omega (arith, n))
indexes_back (a ∷ []) n h = absurd (omega (arith, n))
indexes_back (a ∷ b ∷ []) n h = absurd (omega (arith, n))
indexes_back (a ∷ b ∷ c ∷ []) n h = absurd (omega (arith, n))
indexes_back (a ∷ b ∷ c ∷ d ∷ []) n h = absurd (omega (arith, n))
indexes_back (a ∷ b ∷ c ∷ d ∷ e ∷ []) n h = absurd (omega (arith, n))
indexes_back (a ∷ b ∷ c ∷ d ∷ e ∷ f ∷ []) n h = absurd (omega (arith, n))
indexes_back (a ∷ b ∷ c ∷ d ∷ e ∷ f ∷ g ∷ x ∷ xs) n h = absurd (omega (arith, n))

regs_back : (blocks : ℕ) (name : NamePair) (r : Regs) (core : List ℕ) (before : Regs) → AreRegisters r → filled_regs (Saved name) (saved blocks r core) before ≡ r
regs_back blocks name r core before h =
    rw (acc_of r.ac.negative r.ac.magnitude h.ac, address_back r.ic h.ic, over_back r.divide_check r.overflow, check_back r.divide_check r.overflow, indexes_back r.index h.indexes.seven h.indexes.below) refl

set_next : (done rest : List ℕ) (x w : ℕ) → slice_set (done ++ x ∷ rest) (length done) w ≡ done ++ w ∷ rest
set_next [] rest x w = refl
set_next (d ∷ done) rest x w = ap (λ (ws : List ℕ). d ∷ ws) (set_next done rest x w)

words_over : (done rest ws : List ℕ) → length rest ≡ length ws → with_words (done ++ rest) (length done) ws ≡ done ++ ws
words_over done [] [] h = refl
words_over done [] (w ∷ ws) h = absurd (omega (arith, h))
words_over done (x ∷ rest) [] h = absurd (omega (arith, h))
words_over done (x ∷ rest) (w ∷ ws) h =
    let n : suc (length done) ≡ length (done ++ w ∷ []) = omega (arith, length-append done (w ∷ [])) in
    let same : length rest ≡ length ws = omega (arith, h) in
    ap (λ (core : List ℕ). with_words core (suc (length done)) ws) (set_next done rest x w ∙ sym (append_assoc done (w ∷ []) rest))
    ∙ ap (λ (k : ℕ). with_words ((done ++ w ∷ []) ++ rest) k ws) n
    ∙ words_over (done ++ w ∷ []) rest ws same ∙ append_assoc done (w ∷ []) ws

is_saved_so : (blocks n : ℕ) → 1 ≤ blocks → blocks ≤ 128 → n ≡ 16 + 256 * blocks → is_saved blocks n ≡ true
is_saved_so blocks n p q e = grind (arith, nat_tests)

within : (blocks quota : ℕ) → blocks ≤ quota → nat_le blocks quota ≡ true
within blocks quota h = grind (arith, nat_tests)

size_back : (blocks : ℕ) (r : Regs) (core : List ℕ) (quota : ℕ) → 1 ≤ blocks → blocks ≤ 128 → length core ≡ 256 * blocks → blocks ≤ quota → saved_in quota (saved blocks r core) ≡ Ok blocks
size_back blocks r core quota p q e k =
    let n : length (saved blocks r core) ≡ 16 + 256 * blocks = omega (arith, e) in
    rw (is_saved_so blocks (length (saved blocks r core)) p q n, within blocks quota k) refl

pub saved_is_back : SavedIsBack
saved_is_back blocks name r core p q e h =
    record {
      size = λ quota k. size_back blocks r core quota p q e k;
      regs = λ before. regs_back blocks name r core before h;
      words = λ before same. words_over [] before core same;
    }
