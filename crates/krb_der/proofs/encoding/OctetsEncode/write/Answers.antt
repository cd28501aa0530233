use Rattle.krb_der.specs.Kind.{leaf, octets}
use Rattle.krb_der.proofs.EncodeLaws.{encodes_leaf}
use Rattle.krb_der.proofs.encoding.OctetsEncode.write.Goals as goal

pub returns : goal.returns
returns c = encodes_leaf (leaf octets) c.args.self.now.0.now c.len-start.ensures c.octets-written.ensures c.limited.ensures.answer c.limited.ensures.left
