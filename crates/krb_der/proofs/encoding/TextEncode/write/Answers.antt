use Rattle.krb_der.specs.Kind.{leaf, string}
use Rattle.krb_der.proofs.EncodeLaws.{encodes_leaf}
use Rattle.krb_der.proofs.encoding.TextEncode.write.Goals as goal

pub returns : goal.returns
returns c = encodes_leaf (leaf string) c.args.self.now.0.now c.len-start.ensures c.string-written.ensures c.limited.ensures.answer c.limited.ensures.left
