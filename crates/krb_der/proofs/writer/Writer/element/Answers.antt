use Rattle.std.proofs.Common.{sym, subst, length}
use Rattle.krb_der.specs.Inner.HeadView.{IsHeadOf}
use Rattle.krb_der.proofs.HeadLaws.{head_is, appends_element}
use Rattle.krb_der.proofs.writer.Writer.element.Goals as goal

pub returns-clause-ok : goal.returns-clause-ok
returns-clause-ok c =
    let head = subst (IsHeadOf c.args.tag (length c.args.content.now)) (sym c.head_of-head.ensures.is) (head_is c.args.tag (length c.args.content.now) c.requires) in
    appends_element c.args.tag c.args.content.now _ c.args.self.now c.extend_from_slice.new.self.items c.extend_from_slice-2.new.self.items
    head (rw c.self.view_is at c.in_ok-extend_from_slice.ensures.items) c.in_default.ensures.items
