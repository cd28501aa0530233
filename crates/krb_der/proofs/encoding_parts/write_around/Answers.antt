use Rattle.std.proofs.Common.{subst}
use Rattle.krb_der.specs.Writing.{Appends}
use Rattle.krb_der.specs.Inner.HeadView.{IsHeadOf}
use Rattle.krb_der.proofs.PartsWritten.{headed-part, headed-sized}
use Rattle.krb_der.proofs.encoding_parts.write_around.Goals as goal

pub returns-clause-written : goal.returns-clause-written
returns-clause-written g c =
    headed-part (g.P.EncodeParts.writes c.args.parts.now) c.args.tag (g.P.EncodeParts.size c.args.parts.now) c.args.out.now c.head.new.self c.write_parts.new.out
    (subst (λ n. Appends (IsHeadOf c.args.tag n) c.args.out.now c.head.new.self) c.in-Some.ensures.0 c.in_ok-head.ensures.ok) c.write_parts.result c.write_parts.ensures.written c.write_parts.ensures.sized

pub returns-clause-sized : goal.returns-clause-sized
returns-clause-sized g c =
    headed-sized (g.P.EncodeParts.writes c.args.parts.now) c.args.tag (g.P.EncodeParts.size c.args.parts.now) c.args.out.now c.head.new.self c.write_parts.new.out
    (subst (λ n. Appends (IsHeadOf c.args.tag n) c.args.out.now c.head.new.self) c.in-Some.ensures.0 c.in_ok-head.ensures.ok) c.write_parts.result c.write_parts.ensures.sized
