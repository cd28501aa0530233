use Rattle.std.proofs.Common.{◌<◌, ℕ, length, bit_xor, arith}
use Rattle.krb_kdf.proofs.Blocks.{mapped_more}
use Rattle.krb_kdf.proofs.hmac.masked.Goals as goal

pub loop-byte-preserved : goal.loop-byte-preserved
loop-byte-preserved g c =
    let inside : c.loop-byte.byte-index < length c.args.block.now = omega arith in
    rw c.loop-byte.invariant
    (mapped_more (λ (byte : ℕ). bit_xor byte c.args.pad) c.args.block.now c.loop-byte.byte-index 0 inside)
