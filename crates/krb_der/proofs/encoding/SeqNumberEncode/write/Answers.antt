use Rattle.krb_der.specs.Kind.{leaf, seq_number}
use Rattle.krb_der.proofs.EncodeLaws.{encodes_leaf}
use Rattle.krb_der.proofs.encoding.SeqNumberEncode.write.Goals as goal

pub returns : goal.returns
returns c =
    encodes_leaf (leaf seq_number) c.args.self.now.0 c.len-start.ensures (record { ok = c.uint32-written.ensures.ok; kept = c.uint32-written.ensures.kept }) c.limited.ensures.answer c.limited.ensures.left
