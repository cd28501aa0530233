use Rattle.std.proofs.Common.{ℕ, List, ◌++◌, take}
use Rattle.krb_kdf.specs.Hmac.{joined}
use Rattle.krb_kdf.proofs.hmac.code.Given as goal

-- the hasher holds what it began with and the parts so far
abbrev pub invariant-loop-part : goal.invariant-loop-part
invariant-loop-part g l =
    (front : List ℕ) → g.D.Digest.holds l.fn.inner front
    → g.D.Digest.holds l.hasher (front ++ joined (take l.part-index l.parts))
