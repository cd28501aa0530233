use Rattle.std.proofs.Common.{◌≡◌, ◌++◌, map, take, drop, bit_xor}
use Rattle.krb_kdf.proofs.hmac.masked.Given as goal

-- the bytes before the index are masked
abbrev pub invariant-loop-byte : goal.invariant-loop-byte
invariant-loop-byte g l =
    l.byte-items ≡ map (λ byte. bit_xor byte l.pad) (take l.byte-index l.block) ++ drop l.byte-index l.block
