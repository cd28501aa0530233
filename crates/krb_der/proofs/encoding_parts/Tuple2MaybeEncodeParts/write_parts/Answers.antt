use Rattle.krb_der.specs.Spells.{IsElement}
use Rattle.krb_der.proofs.PartsWritten.{appended-joined, appended-after-nothing}
use Rattle.krb_der.proofs.encoding_parts.Tuple2MaybeEncodeParts.write_parts.Goals as goal

pub returns-in_ok-write_around-in-Some-clause-written : goal.returns-in_ok-write_around-in-Some-clause-written
returns-in_ok-write_around-in-Some-clause-written g c =
    rw c.in-Some.is
    (appended-joined (IsElement g.row.TAG (g.P.EncodeParts.writes c.in-Some.parts)) (g.R.EncodeParts.writes c.args.self.now.1) c.args.out.now c.write_around.new.out c.write_parts.new.out c.write_parts.result
    c.in_ok-write_around-in-Some.ensures.written c.write_parts.ensures.written)

pub returns-in-None-clause-written : goal.returns-in-None-clause-written
returns-in-None-clause-written g c =
    rw c.in-None.is (appended-after-nothing (g.R.EncodeParts.writes c.args.self.now.1) c.args.out.now c.write_parts-in-None.new.out c.write_parts-in-None.result c.write_parts-in-None.ensures.written)
