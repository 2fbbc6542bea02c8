use Rattle.std.proofs.Common.{◌≡◌, ◌+◌, ◌*◌, ◌^◌, ◌<◌, arith, add-one}
use Rattle.std.proofs.Math.Nat.{pow-suc}
use Rattle.bcd48.proofs.Packing.{shifted, packed_more}
use Rattle.bcd48.proofs.pack6.Goals as goal

pub loop-code-preserved : goal.loop-code-preserved
loop-code-preserved c =
    let i = c.loop-code.code-index in
    let small : c.from.result < 64 = rw c.from.ensures (c.requires i 0 (omega arith)) in
    let next = shifted i c.loop-code.word c.from.result (omega arith) c.loop-code.invariant.1 small in
    let power : 64 ^ (i + 1) ≡ 64 ^ i * 64 = rw add-one (pow-suc 64 i) in
    rw (next, packed_more c.args.codes.now i (omega arith)) (omega (arith, c.from.ensures), omega (arith, power))
