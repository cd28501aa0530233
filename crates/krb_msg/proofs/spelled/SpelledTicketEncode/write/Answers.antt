use Rattle.std.proofs.Common.{subst, arith}
use Rattle.krb_der.specs.Kind.{ValueOf}
use Rattle.krb_der.specs.Writing.{Writes}
use Rattle.krb_msg.specs.Module.{ticket}
use Rattle.krb_msg.proofs.SpelledLaws.{written_as_it_is, too_long_as_it_is}
use Rattle.krb_msg.proofs.spelled.SpelledTicketEncode.write.Goals as goal

pub returns-then-saturating_add-gt-MESSAGE_LIMIT : goal.returns-then-saturating_add-gt-MESSAGE_LIMIT
returns-then-saturating_add-gt-MESSAGE_LIMIT c =
    let w = subst (λ (v : ValueOf ticket). Writes ticket v c.self.inside.bytes.now) c.self.view_is c.self.invariant in
    too_long_as_it_is ticket c.args.self.now c.self.inside.bytes.now c.args.out.now (c.written.ensures.size ticket c.args.self.now c.self.inside.bytes.now w)
    (omega (arith, c.if-saturating_add-gt-MESSAGE_LIMIT.true, c.saturating_add.ensures, c.len.ensures))

pub returns : goal.returns
returns c =
    let w = subst (λ (v : ValueOf ticket). Writes ticket v c.self.inside.bytes.now) c.self.view_is c.self.invariant in
    written_as_it_is ticket c.args.self.now c.self.inside.bytes.now c.args.out.now _ w c.in_ok-raw.ensures.ok
    (omega (arith, c.if-saturating_add-gt-MESSAGE_LIMIT.false, c.saturating_add.ensures, c.len.ensures))
