use Rattle.krb_der.specs.Kind.{leaf, uint32}
use Rattle.krb_der.proofs.EncodeLaws.{encodes_leaf}
use Rattle.krb_der.proofs.encoding.U32Encode.write.Goals as goal

pub returns : goal.returns
returns c = encodes_leaf (leaf uint32) c.args.self.now c.len-start.ensures c.uint32-written.ensures c.limited.ensures.answer c.limited.ensures.left
