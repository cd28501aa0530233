use Rattle.krb_der.proofs.EncodeLaws.{encodes-closed, encodes-refused, value_size}
use Rattle.krb_der.proofs.encoding_rows.FieldEncode.write.Goals as goal

pub returns-in-Err : goal.returns-in-Err
returns-in-Err g c =
    encodes-refused (value_size g.T.Encode.kind (g.T.Encode.view c.args.self.now.0)) c.len-start.ensures c.in_ok-open.ensures.ok c.in-Err.ensures c.settle.ensures.answer c.settle.ensures.left

pub returns : goal.returns
returns g c =
    encodes-closed (value_size g.T.Encode.kind (g.T.Encode.view c.args.self.now.0)) c.len-start.ensures c.in_ok-open.ensures.ok c.close-written.result c.close-written.new.self
    c.in_default.ensures.ok.0 c.close-written.ensures.ok c.close-written.ensures.kept c.limited.ensures.answer c.limited.ensures.left
