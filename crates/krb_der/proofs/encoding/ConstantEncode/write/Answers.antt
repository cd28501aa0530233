use Rattle.krb_der.specs.Kind.{leaf, constant}
use Rattle.krb_der.proofs.EncodeLaws.{encodes_leaf}
use Rattle.krb_der.proofs.encoding.ConstantEncode.write.Goals as goal

pub returns : goal.returns
returns g c = encodes_leaf (leaf (constant g.row.N)) tt c.len-start.ensures c.constant-written.ensures c.limited.ensures.answer c.limited.ensures.left
