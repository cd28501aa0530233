use Rattle.std.proofs.Common.{take, sym, subst}
use Rattle.krb_der.specs.Inner.HeadView.{IsHeadOf}
use Rattle.krb_der.proofs.HeadLaws.{head_is}
use Rattle.krb_der.proofs.writer.Writer.head.Goals as goal

pub returns-clause-ok : goal.returns-clause-ok
returns-clause-ok c = record {
  bytes = take c.head_of-head.result.len c.head_of-head.result.bytes;
  is = subst (IsHeadOf c.args.tag c.args.count) (sym c.head_of-head.ensures.is) (head_is c.args.tag c.args.count c.ranges.count.fits);
  whole = rw c.self.view_is at c.in_ok-extend_from_slice.ensures.items;
}
