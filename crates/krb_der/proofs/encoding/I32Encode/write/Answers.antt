use Rattle.std.proofs.Common.{◌≡◌, subst, arith, w32, to_z, of_z}
use Rattle.std.proofs.lemmas.Int.{ints}
use Rattle.krb_der.specs.Kind.{leaf, int32}
use Rattle.krb_der.specs.Writing.{EncodesValue}
use Rattle.krb_der.proofs.EncodeLaws.{encodes_leaf}
use Rattle.krb_der.proofs.encoding.I32Encode.write.Goals as goal

pub returns : goal.returns
returns c =
    let same : to_z w32 (of_z w32 c.args.self.now) ≡ c.args.self.now = omega (arith, ints) in
    subst (λ z. EncodesValue (leaf int32) z c.limited.result c.args.out.now c.limited.new.self) same
    (encodes_leaf (leaf int32) (to_z w32 (of_z w32 c.args.self.now)) c.len-start.ensures c.int32-written.ensures c.limited.ensures.answer c.limited.ensures.left)
