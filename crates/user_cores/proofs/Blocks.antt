-- The words of lists of blocks.
use Rattle.std.specs.Prelude.{◌-◌, replicate}
use Rattle.std.specs.List.{All, flat_map}
use Rattle.std.proofs.Common.{◌≡◌, ℕ, zero, suc, ◌+◌, ◌*◌, ◌<◌, ◌≤◌, List, [], ◌∷◌, ◌++◌, length, take, drop, refl, sym, ◌∙◌, ap, arith, length-append, length-drop}
use Rattle.std.proofs.Math.Seq.{take-add, take-append-add}
use Rattle.std.proofs.lemmas.Grind.{flat_map-append}
use Rattle.std.proofs.lemmas.List.{append-nil, drop-drop, length-take-le, length_push, take_all, replicate-append-replicate, length-replicate}
use Rattle.std.proofs.lemmas.List.Elements.{All-nil, All-push, All-head, All-tail, All-append, All-take, All-replicate}
use Rattle.core_bank.specs.Bank.{block_at, blank}
use Rattle.image_map.specs.Blocks.{first}
use Rattle.image_map.specs.Windows.{window}
use Rattle.user_model.specs.Inner.{recut, zeros}

-- the words of these blocks
abbrev pub blocks_joined : List (List ℕ) → List ℕ
blocks_joined blocks = flat_map (λ b. b) blocks

-- a block has all its words
abbrev pub IsBlock : List ℕ → Type 0
IsBlock b = length b ≡ 256

-- blocks of a core, from a place on

pub joined_first : (base n : ℕ) (bank : List ℕ) → blocks_joined (first n (λ b. block_at bank (base + b))) ≡ window bank base n
joined_first base zero bank = refl
joined_first base (suc n) bank =
    let size : 256 * (base + n) + 256 - 256 * (base + n) ≡ 256 = omega arith in
    let at : 256 * (base + n) ≡ 256 * base + 256 * n = omega arith in
    let next : 256 * suc n ≡ 256 * n + 256 = omega arith in
    let rest : List ℕ = drop (256 * base) bank in
    flat_map-append (λ (b : List ℕ). b) (first n (λ b. block_at bank (base + b))) (block_at bank (base + n) ∷ [])
    ∙ (λ j. joined_first base n bank j ++ append-nil (block_at bank (base + n)) j)
    ∙ ap (λ (m : ℕ). window bank base n ++ take m (drop (256 * (base + n)) bank)) size
    ∙ ap (λ (l : List ℕ). window bank base n ++ take 256 l) (ap (λ (m : ℕ). drop m bank) at ∙ sym (drop-drop (256 * n) (256 * base) bank))
    ∙ sym (take-add (256 * n) 256 rest)
    ∙ ap (λ (m : ℕ). take m rest) (sym next)

pub length-first : (n : ℕ) (f : ℕ → List ℕ) → length (first n f) ≡ n
length-first zero f = refl
length-first (suc n) f = omega (arith, length_push (first n f) (f n), length-first n f)

block_whole : (bank : List ℕ) (n : ℕ) → length bank ≡ 32768 → n < 128 → length (block_at bank n) ≡ 256
block_whole bank n len below =
    let size : 256 * n + 256 - 256 * n ≡ 256 = omega arith in
    let rest : length (drop (256 * n) bank) ≡ length bank - 256 * n = length-drop (256 * n) bank in
    ap (λ (m : ℕ). length (take m (drop (256 * n) bank))) size ∙ length-take-le 256 (drop (256 * n) bank) (omega arith)

pub first_whole : (base n : ℕ) (bank : List ℕ) → length bank ≡ 32768 → base + n ≤ 128 → All IsBlock (first n (λ b. block_at bank (base + b)))
first_whole base zero bank len most = All-nil IsBlock
first_whole base (suc n) bank len most =
    All-push IsBlock (first n (λ b. block_at bank (base + b))) (block_at bank (base + n)) (first_whole base n bank len (omega arith)) (block_whole bank (base + n) len (omega arith))

-- whole blocks

joined_take : (m : ℕ) (bs : List (List ℕ)) → All IsBlock bs → blocks_joined (take m bs) ≡ take (256 * m) (blocks_joined bs)
joined_take zero bs whole = refl
joined_take (suc m) [] whole = sym (take_all (256 * suc m) [] (omega arith))
joined_take (suc m) (b ∷ bs) whole =
    let size : length b ≡ 256 = All-head IsBlock b bs whole in
    let next : length b + 256 * m ≡ 256 * suc m = omega arith in
    ap (λ (l : List ℕ). b ++ l) (joined_take m bs (All-tail IsBlock b bs whole))
    ∙ sym (take-append-add b (blocks_joined bs) (256 * m))
    ∙ ap (λ (k : ℕ). take k (b ++ blocks_joined bs)) next

length-joined : (bs : List (List ℕ)) → All IsBlock bs → length (blocks_joined bs) ≡ 256 * length bs
length-joined [] whole = refl
length-joined (b ∷ bs) whole =
    let size : length b ≡ 256 = All-head IsBlock b bs whole in
    let rest : length (blocks_joined bs) ≡ 256 * length bs = length-joined bs (All-tail IsBlock b bs whole) in
    omega (arith, length-append b (blocks_joined bs))

joined_blank : (k : ℕ) → blocks_joined (replicate k blank) ≡ replicate (256 * k) 0
unfolding blank
joined_blank zero = refl
joined_blank (suc k) =
    let next : 256 + 256 * k ≡ 256 * suc k = omega arith in
    ap (λ (l : List ℕ). blank ++ l) (joined_blank k) ∙ replicate-append-replicate 256 (256 * k) 0 ∙ ap (λ (m : ℕ). replicate m 0) next

blank_whole : length blank ≡ 256
unfolding blank
blank_whole = length-replicate {A = ℕ} 256 0

-- blocks cut, or extended by plus zeros
pub joined_resized : (n m : ℕ) (bs : List (List ℕ)) → All IsBlock bs → length bs ≡ n → blocks_joined (take m bs ++ replicate (m - n) blank) ≡ recut m (blocks_joined bs)
joined_resized n m bs whole count =
    let len : length (blocks_joined bs) ≡ 256 * length bs = length-joined bs whole in
    let more : 256 * (m - n) ≡ 256 * m - length (blocks_joined bs) = omega arith in
    flat_map-append (λ (b : List ℕ). b) (take m bs) (replicate (m - n) blank)
    ∙ (λ j. joined_take m bs whole j ++ joined_blank (m - n) j)
    ∙ ap (λ (k : ℕ). take (256 * m) (blocks_joined bs) ++ replicate k 0) more

-- blocks cut to none and extended
pub joined_replaced : (n m : ℕ) (bs : List (List ℕ)) → blocks_joined (take m (take 0 bs ++ replicate (0 - n) blank) ++ replicate (m - 0) blank) ≡ zeros m
joined_replaced n m bs =
    let none : 0 - n ≡ 0 = omega arith in
    let all : m - 0 ≡ m = omega arith in
    let nothing : take m (replicate 0 blank) ≡ [] = take_all m [] (omega arith) in
    (λ j. blocks_joined (take m (replicate (none j) blank) ++ replicate (all j) blank))
    ∙ ap (λ (l : List (List ℕ)). blocks_joined (l ++ replicate m blank)) nothing
    ∙ joined_blank m

pub resized_whole : (n m : ℕ) (bs : List (List ℕ)) → All IsBlock bs → All IsBlock (take m bs ++ replicate (m - n) blank)
resized_whole n m bs whole =
    All-append IsBlock (take m bs) (replicate (m - n) blank) (All-take IsBlock m bs whole) (All-replicate IsBlock (m - n) blank blank_whole)
