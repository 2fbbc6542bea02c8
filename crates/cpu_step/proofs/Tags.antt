-- Words without a tag.
use Rattle.std.proofs.Common.{◌≡◌, ℕ, ◌/◌, ◌%◌, ◌^◌, ◌<◌, bit_and, arith}
use Rattle.std.proofs.lemmas.Nat.{and_mask, and_shr}
use Rattle.word36.specs.Bits.{address_of, tag_of}
use Rattle.cpu_regs.specs.declared.regs.Regs.{Regs}
use Rattle.machine_model.specs.Machine.{place_in}

pub no_tag : (w b : ℕ) → b ≡ w → bit_and b 0o700000 ≡ 0 → tag_of w ≡ 0
no_tag w b e none =
    let low : bit_and b 0o700000 / 2 ^ 15 ≡ bit_and (b / 2 ^ 15) 7 = and_shr b 0o700000 15 in
    let mask : bit_and (b / 2 ^ 15) 7 ≡ b / 2 ^ 15 % 8 = and_mask (b / 2 ^ 15) 3 in
    omega (arith, low, mask, none, e)

pub untagged : (r : Regs) (w a : ℕ) → tag_of w ≡ 0 → a ≡ address_of w → a < 2 ^ 15 → a ≡ place_in r w
untagged r w a none e below = rw none (omega (arith, e, below))
