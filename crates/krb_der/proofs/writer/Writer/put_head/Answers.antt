use Rattle.std.proofs.Common.{◌≡◌, ◌-◌, length, take, drop, ap, ◌∙◌, arith}
use Rattle.krb_der.specs.Inner.HeadView.{filled_at}
use Rattle.krb_der.proofs.HeadLaws.{filled_at-appended, written_back}
use Rattle.krb_der.proofs.writer.Writer.put_head.Goals as goal

pub returns-clause-ok : goal.returns-clause-ok
returns-clause-ok c =
    let old = c.args.self.now in
    let start = c.args.start in
    let head = c.args.head.now in
    let mid = rw c.self.view_is at c.in_ok-extend_from_slice.ensures.items in
    let at : c.len-end.result ≡ length old = omega (arith, c.len-end.ensures, c.self.inside.bytes.ok.0, ap length c.self.view_is) in
    let same : length c.fill.new.bytes ≡ length c.extend_from_slice.new.self.items = c.fill.auto.bytes ∙ ap length c.deref_mut.ensures.value in
    written_back c.fill.new.bytes c.extend_from_slice.new.self.items c.extend_from_slice.new.self.len same c.extend_from_slice.new.self.ok.0
    ∙ c.fill.ensures ∙ ap (filled_at start head c.len-end.result) (c.deref_mut.ensures.value ∙ mid) ∙ filled_at-appended start c.len-end.result head old (take (length head - 2) (drop 2 head)) c.requires.within at
