use Rattle.krb_der.proofs.EncodeLaws.{encoded_ok}
use Rattle.krb_der.proofs.encoding.encoded.Goals as goal

pub returns : goal.returns
returns g c =
    encoded_ok g.T.Encode.kind (g.T.Encode.view c.args.value.now) c.into_bytes.result _ c.write.new.out c.in_ok-out.ensures
    c.in_ok-write.ensures.ok.0 c.in_ok-write.ensures.ok.1 c.into_bytes.ensures
