use Rattle.krb_der.specs.Kind.{wrapped}
use Rattle.krb_der.proofs.EncodeLaws.{encodes-joined, value_size}
use Rattle.krb_der.proofs.encoding_rows.Tuple2FieldEncodeRow.write_row.Goals as goal

pub returns : goal.returns
returns g c =
    encodes-joined (value_size (wrapped g.row.TAG g.T.Encode.kind) (g.T.Encode.view c.args.self.now.0.0))
    c.len-start.ensures c.in_ok-write.ensures.ok.0 c.write_row-written.ensures c.settle.ensures.answer c.settle.ensures.left
