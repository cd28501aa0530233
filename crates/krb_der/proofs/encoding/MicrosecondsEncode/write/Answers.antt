use Rattle.krb_der.specs.Kind.{leaf, microseconds}
use Rattle.krb_der.proofs.EncodeLaws.{encodes_leaf}
use Rattle.krb_der.proofs.encoding.MicrosecondsEncode.write.Goals as goal

pub returns : goal.returns
returns c = encodes_leaf (leaf microseconds) c.args.self.now c.len-start.ensures c.microseconds-written.ensures c.limited.ensures.answer c.limited.ensures.left
